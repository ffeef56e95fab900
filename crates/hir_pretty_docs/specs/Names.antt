-- How names, lifetimes, bindings and labels are printed.
use Rattle.std.specs.Prelude.{ℕ, Bool, false, List, [], ◌∷◌, ◌++◌, ◌==◌, ◌||◌, if◌then◌else◌, Result, Ok, Err, codes, slice_get, flat_map, nat_eq}
use Rattle.std.specs.Cmp.Lexicographic.{pointwise}
use Rattle.hir_base.specs.Ids.{Name}
use Rattle.hir_path.specs.NodeIds.{BindingId, LabelId, LifetimeRefId}
use Rattle.hir_node.specs.declared.{type_ref.LifetimeRef.LifetimeRef, binding.Binding.Binding, binding.Label.Label, binding.BindingAnnotation.BindingAnnotation}
use Rattle.hir_node.specs.declared.type_ref.LifetimeRef.TheVariants as lifetime
use Rattle.hir_node.specs.declared.binding.BindingAnnotation.TheVariants.{Unannotated, Mutable, Ref, RefMut}
use Rattle.hir_store_core.specs.declared.missing.Missing.{Missing}
use Rattle.hir_pretty_docs.specs.NameLookups.{PrintEnv}
use Rattle.hir_pretty_docs.specs.Docs.{Doc, MissingDoc, text, opt}

abbrev pub same_text : List ℕ → List ℕ → Bool
same_text = pointwise nat_eq

-- the edition lists this word
abbrev pub is_word : List (List ℕ) → List ℕ → Bool
is_word [] name = false
is_word (word ∷ words) name = same_text word name || is_word words name

-- a word of the edition is printed after `r#`
abbrev pub raw_parts : List (List ℕ) → List ℕ → List (List ℕ)
raw_parts words name = if is_word words name then codes "r#" ∷ name ∷ [] else name ∷ []

-- The parts of a printed name. A leading `'` comes first and isn't looked up, and `'static` is printed as it
-- is.
abbrev pub name_parts : List (List ℕ) → List ℕ → List (List ℕ)
name_parts words [] = raw_parts words []
name_parts words (c ∷ cs) = if c == 39 then (if same_text cs (codes "static") then (c ∷ cs) ∷ []
    else (c ∷ []) ∷ raw_parts words cs) else raw_parts words (c ∷ cs)

-- the text of a printed name
abbrev pub printed_name : List (List ℕ) → List ℕ → List ℕ
printed_name words name = flat_map (λ part. part) (name_parts words name)

abbrev pub name_docs : PrintEnv → Name → List Doc
name_docs s name = flat_map text (name_parts s.words name)

-- a lifetime parameter by its name
abbrev pub param_docs : PrintEnv → Result Name Missing → List Doc
param_docs s (Ok name) = name_docs s name
param_docs s (Err missing) = MissingDoc missing ∷ []

abbrev pub lifetime_docs : PrintEnv → LifetimeRef → List Doc
lifetime_docs s (lifetime.Named name) = name_docs s name
lifetime_docs s lifetime.Static = text (codes "'static")
lifetime_docs s lifetime.Placeholder = text (codes "'_")
lifetime_docs s (lifetime.Param id) = param_docs s (s.tables.lifetime_param id)
lifetime_docs s lifetime.Error = text (codes "'{error}")

abbrev pub l : PrintEnv → LifetimeRefId → List Doc
l s id = opt (lifetime_docs s) (slice_get s.nodes.lifetimes id)

abbrev pub label_docs : PrintEnv → LabelId → List Doc
label_docs s id = opt (λ (label : Label). name_docs s label.name) (slice_get s.nodes.labels id)

abbrev pub annotation_docs : BindingAnnotation → List Doc
annotation_docs Unannotated = []
annotation_docs Mutable = text (codes "mut ")
annotation_docs Ref = text (codes "ref ")
annotation_docs RefMut = text (codes "ref mut ")

abbrev pub of_binding : PrintEnv → Binding → List Doc
of_binding s b = annotation_docs b.mode ++ name_docs s b.name

abbrev pub binding_docs : PrintEnv → BindingId → List Doc
binding_docs s id = opt (of_binding s) (slice_get s.nodes.bindings id)
