-- Defines the codes by which tables tell keys apart.
use Rattle.std.proofs.Common.{◌≡◌, ℕ, List, [], ◌∷◌, Bool, refl, Decides}
use Rattle.std.specs.Prelude.{Option, Some, None, option_map, slice_get}
use Rattle.hir_base.specs.declared.ptr.SyntaxNodePtr.{SyntaxNodePtr}
use Rattle.hir_base.specs.declared.defs.DefWithBodyId.{DefWithBodyId}
use Rattle.hir_base.specs.declared.defs.DefWithBodyId.TheVariants.{FunctionId as body_function, StaticId as body_static, ConstId as body_const, VariantId as body_variant}
use Rattle.hir_base.specs.declared.defs.VariantId.{VariantId}
use Rattle.hir_base.specs.declared.defs.VariantId.TheVariants.{EnumVariantId as fields_variant, StructId as fields_struct, UnionId as fields_union}
use Rattle.hir_base.specs.declared.defs.NamedDef.{NamedDef}
use Rattle.hir_base.specs.declared.defs.NamedDef.TheVariants.{EnumId as named_enum, FunctionId as named_function, StaticId as named_static, StructId as named_struct, UnionId as named_union, TypeAliasId as named_alias, TraitId as named_trait, EnumVariantId as named_variant, ConstId as named_const, MacroId as named_macro}
use Rattle.hir_base.specs.declared.defs.MacroId.TheVariants.{Macro2Id as by_macro2, MacroRulesId as by_rules, ProcMacroId as by_proc}
use Rattle.hir_collections.specs.Codes.{read_back_tells}

-- the code of a node: its kind and its range
abbrev pub node_code : SyntaxNodePtr → List ℕ
node_code node = node.kind ∷ node.range.start ∷ node.range.end ∷ []

node_back : List ℕ → Option SyntaxNodePtr
node_back (kind ∷ start ∷ end ∷ []) = Some (record {
  kind = kind;
  range = record { start = start; end = end };
})
node_back code = None

pub node_tells : (b : Bool) (x y : SyntaxNodePtr) → Decides b (x ≡ y) → Decides b (node_code x ≡ node_code y)
unfolding node_back
node_tells = read_back_tells node_code node_back (λ x. refl)

-- the key of a code that is a number for the kind, then an id
abbrev pub read_id : {X : Type 0} → List (ℕ → X) → List ℕ → Option X
read_id makers (kind ∷ id ∷ []) = option_map (λ make. make id) (slice_get makers kind)
read_id makers code = None

abbrev pub body_code : DefWithBodyId → List ℕ
body_code (body_function id) = 0 ∷ id ∷ []
body_code (body_static id) = 1 ∷ id ∷ []
body_code (body_const id) = 2 ∷ id ∷ []
body_code (body_variant id) = 3 ∷ id ∷ []

body_makers : List (ℕ → DefWithBodyId)
body_makers = (λ id. body_function id) ∷ (λ id. body_static id) ∷ (λ id. body_const id)
    ∷ (λ id. body_variant id) ∷ []

body_reads : (x : DefWithBodyId) → read_id body_makers (body_code x) ≡ Some x
unfolding body_makers
body_reads (body_function id) = refl
body_reads (body_static id) = refl
body_reads (body_const id) = refl
body_reads (body_variant id) = refl

pub body_tells : (b : Bool) (x y : DefWithBodyId) → Decides b (x ≡ y) → Decides b (body_code x ≡ body_code y)
body_tells = read_back_tells body_code (read_id body_makers) body_reads

abbrev pub fields_code : VariantId → List ℕ
fields_code (fields_variant id) = 0 ∷ id ∷ []
fields_code (fields_struct id) = 1 ∷ id ∷ []
fields_code (fields_union id) = 2 ∷ id ∷ []

fields_makers : List (ℕ → VariantId)
fields_makers = (λ id. fields_variant id) ∷ (λ id. fields_struct id) ∷ (λ id. fields_union id) ∷ []

fields_reads : (x : VariantId) → read_id fields_makers (fields_code x) ≡ Some x
unfolding fields_makers
fields_reads (fields_variant id) = refl
fields_reads (fields_struct id) = refl
fields_reads (fields_union id) = refl

pub fields_tells : (b : Bool) (x y : VariantId) → Decides b (x ≡ y)
    → Decides b (fields_code x ≡ fields_code y)
fields_tells = read_back_tells fields_code (read_id fields_makers) fields_reads

abbrev pub named_code : NamedDef → List ℕ
named_code (named_enum id) = 0 ∷ id ∷ []
named_code (named_function id) = 1 ∷ id ∷ []
named_code (named_static id) = 2 ∷ id ∷ []
named_code (named_struct id) = 3 ∷ id ∷ []
named_code (named_union id) = 4 ∷ id ∷ []
named_code (named_alias id) = 5 ∷ id ∷ []
named_code (named_trait id) = 6 ∷ id ∷ []
named_code (named_variant id) = 7 ∷ id ∷ []
named_code (named_const id) = 8 ∷ id ∷ []
named_code (named_macro (by_macro2 id)) = 9 ∷ id ∷ []
named_code (named_macro (by_rules id)) = 10 ∷ id ∷ []
named_code (named_macro (by_proc id)) = 11 ∷ id ∷ []

named_makers : List (ℕ → NamedDef)
named_makers = (λ id. named_enum id) ∷ (λ id. named_function id) ∷ (λ id. named_static id)
    ∷ (λ id. named_struct id) ∷ (λ id. named_union id) ∷ (λ id. named_alias id) ∷ (λ id. named_trait id)
    ∷ (λ id. named_variant id) ∷ (λ id. named_const id) ∷ (λ id. named_macro (by_macro2 id))
    ∷ (λ id. named_macro (by_rules id)) ∷ (λ id. named_macro (by_proc id)) ∷ []

named_reads : (x : NamedDef) → read_id named_makers (named_code x) ≡ Some x
unfolding named_makers
named_reads (named_enum id) = refl
named_reads (named_function id) = refl
named_reads (named_static id) = refl
named_reads (named_struct id) = refl
named_reads (named_union id) = refl
named_reads (named_alias id) = refl
named_reads (named_trait id) = refl
named_reads (named_variant id) = refl
named_reads (named_const id) = refl
named_reads (named_macro (by_macro2 id)) = refl
named_reads (named_macro (by_rules id)) = refl
named_reads (named_macro (by_proc id)) = refl

pub named_tells : (b : Bool) (x y : NamedDef) → Decides b (x ≡ y) → Decides b (named_code x ≡ named_code y)
named_tells = read_back_tells named_code (read_id named_makers) named_reads
