-- What patterns are printed as.
use Rattle.std.specs.Prelude.{ℕ, Bool, true, false, ◌&&◌, not, List, [], ◌∷◌, ◌++◌, map, take, drop, Option, Some, None, codes, slice_get, flat_map, option_to_list}
use Rattle.hir_base.specs.Ids.{Name}
use Rattle.hir_base.specs.OpTexts.{range_text}
use Rattle.hir_base.specs.declared.prec.ExprPrecedence.TheVariants.{Shift}
use Rattle.hir_path.specs.NodeIds.{PatId}
use Rattle.hir_node.specs.Keywords.{ref_keyword}
use Rattle.hir_node.specs.declared.{binding.Binding.Binding, binding.BindingAnnotation.BindingAnnotation, pat.RecordFieldPat.RecordFieldPat, pat.Pat.Pat}
use Rattle.hir_node.specs.declared.binding.BindingAnnotation.TheVariants.{Unannotated}
use Rattle.hir_node.specs.declared.pat.Pat.TheVariants as pat
use Rattle.hir_pretty_docs.specs.NameLookups.{PrintEnv}
use Rattle.hir_pretty_docs.specs.Docs.{Doc, text, sp, br, into, out, under, p, opt, when, join, comma_joined, replacement}
use Rattle.hir_pretty_docs.specs.Names.{name_docs, printed_name, same_text, binding_docs}
use Rattle.hir_pretty_docs.specs.Paths.{path_docs}

-- a list with `..` at its place, or last where that is at or past the end
abbrev pub with_rest : Option ℕ → List (List Doc) → List (List Doc)
with_rest None docs = docs
with_rest (Some n) docs = take n docs ++ (text (codes "..") ∷ []) ++ drop n docs

abbrev pub in_parentheses : Option ℕ → List PatId → List Doc
in_parentheses rest args = text (codes "(") ++ comma_joined (with_rest rest (map p args)) ++ text (codes ")")

abbrev pub is_unannotated : BindingAnnotation → Bool
is_unannotated Unannotated = true
is_unannotated mode = false

-- The binding's own text is what is printed of the field's name. A field that is a word of the edition is
-- printed after `r#`, so a binding of that word has another text.
abbrev pub has_printed_name : PrintEnv → Name → Option Binding → Bool
has_printed_name s name None = false
has_printed_name s name (Some b) = is_unannotated b.mode && same_text b.name (printed_name s.words name)

-- the field's pattern binds its printed name, so that the name alone is printed
abbrev pub is_short : PrintEnv → Name → Option Pat → Bool
is_short s name (Some (pat.Bind id None)) = has_printed_name s name (slice_get s.nodes.bindings id)
is_short s name found = false

abbrev pub field_pattern : PrintEnv → RecordFieldPat → List Doc
field_pattern s field = name_docs s field.name ++ when
    (not (is_short s field.name (slice_get s.nodes.pats field.pat))) (text (codes ": ") ++ p field.pat)

-- what is after the last field: in one line, with no rest after it, a space; else a comma
abbrev pub after_last : PrintEnv → Bool → List Doc
after_last s true = text (codes ",") ++ br
after_last s false = elim s.one_line [ true ↦ text (codes " ") | false ↦ text (codes ",") ++ br ]

abbrev pub field_patterns : PrintEnv → Bool → List RecordFieldPat → List Doc
field_patterns s rest [] = []
field_patterns s rest (f ∷ []) = field_pattern s f ++ after_last s rest
field_patterns s rest (f ∷ g ∷ fs) = field_pattern s f ++ text (codes ",") ++ br
    ++ field_patterns s rest (g ∷ fs)

abbrev pub pat_docs : PrintEnv → Pat → List Doc
pat_docs s pat.Missing = replacement
pat_docs s pat.Rest = text (codes "..")
pat_docs s pat.Wild = text (codes "_")
pat_docs s pat.NotNull = text (codes "!null")
pat_docs s (pat.Tuple args ellipsis) = in_parentheses ellipsis args
pat_docs s (pat.TupleStruct path args ellipsis) = path_docs s path ++ in_parentheses ellipsis args
pat_docs s (pat.Or args) = text (codes "(") ++ join (text (codes " | ")) (map p args) ++ text (codes ")")
pat_docs s (pat.Record ellipsis path args) =
    path_docs s path ++ text (codes " {") ++ into ++ field_patterns s ellipsis args
    ++ when ellipsis (text (codes "..") ++ br) ++ out ++ text (codes "}")
pat_docs s (pat.Range start end range_type) =
    opt (under Shift) start ++ text (range_text range_type) ++ opt (under Shift) end
pat_docs s (pat.Slice prefix slice suffix) =
    text (codes "[") ++ flat_map (λ id. p id ++ text (codes ", ")) (prefix ++ option_to_list slice ++ suffix)
    ++ text (codes "]")
pat_docs s (pat.Bind id subpat) = binding_docs s id ++ opt (λ q. sp ++ text (codes "@ ") ++ p q) subpat
pat_docs s (pat.Ref pat mutability) = text (codes "&") ++ text (ref_keyword mutability) ++ p pat
pat_docs s (pat.Box inner) = text (codes "box ") ++ p inner
pat_docs s (pat.Deref inner) = text (codes "deref!(") ++ p inner ++ text (codes ")")
pat_docs s (pat.Path path) = path_docs s path
pat_docs s (pat.Lit id) = under Shift id
pat_docs s (pat.Expr id) = under Shift id
