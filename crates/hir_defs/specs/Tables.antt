-- The keys of the tables of outside definitions.
use Rattle.std.proofs.Common.{◌≡◌, ℕ, Bool, List, [], ◌∷◌, refl, Decides}
use Rattle.std.specs.Prelude.{Option, Some, None, option_map, slice_get}
use Rattle.hir_base.specs.declared.defs.GenericDefId.{GenericDefId}
use Rattle.hir_base.specs.declared.defs.GenericDefId.TheVariants as generic
use Rattle.hir_base.specs.declared.defs.AdtId.TheVariants as adt
use Rattle.hir_collections.specs.Codes.{read_back_tells}
use Rattle.hir_defs.specs.declared.plain_def.PlainDef.{PlainDef}
use Rattle.hir_defs.specs.declared.plain_def.PlainDef.TheVariants as plain

-- the code of a definition: a number for the kind, and the id
abbrev pub plain_code : PlainDef → List ℕ
plain_code (plain.Enum id) = 0 ∷ id ∷ []
plain_code (plain.Union id) = 1 ∷ id ∷ []
plain_code (plain.Const id) = 2 ∷ id ∷ []
plain_code (plain.Static id) = 3 ∷ id ∷ []
plain_code (plain.Impl id) = 4 ∷ id ∷ []
plain_code (plain.Trait id) = 5 ∷ id ∷ []
plain_code (plain.TypeAlias id) = 6 ∷ id ∷ []

plain_makers : List (ℕ → PlainDef)
plain_makers =
    (λ id. plain.Enum id) ∷ (λ id. plain.Union id) ∷ (λ id. plain.Const id) ∷ (λ id. plain.Static id)
    ∷ (λ id. plain.Impl id) ∷ (λ id. plain.Trait id) ∷ (λ id. plain.TypeAlias id) ∷ []

plain_back : List ℕ → Option PlainDef
plain_back (kind ∷ id ∷ []) = option_map (λ make. make id) (slice_get plain_makers kind)
plain_back code = None

plain_reads : (x : PlainDef) → plain_back (plain_code x) ≡ Some x
unfolding plain_back plain_makers
plain_reads (plain.Enum id) = refl
plain_reads (plain.Union id) = refl
plain_reads (plain.Const id) = refl
plain_reads (plain.Static id) = refl
plain_reads (plain.Impl id) = refl
plain_reads (plain.Trait id) = refl
plain_reads (plain.TypeAlias id) = refl

pub plain_tells : (b : Bool) (x y : PlainDef) → Decides b (x ≡ y) → Decides b (plain_code x ≡ plain_code y)
plain_tells = read_back_tells plain_code plain_back plain_reads

-- the definition as one that may have generic parameters
abbrev pub generic_def : PlainDef → GenericDefId
generic_def (plain.Enum id) = generic.AdtId (adt.EnumId id)
generic_def (plain.Union id) = generic.AdtId (adt.UnionId id)
generic_def (plain.Const id) = generic.ConstId id
generic_def (plain.Static id) = generic.StaticId id
generic_def (plain.Impl id) = generic.ImplId id
generic_def (plain.Trait id) = generic.TraitId id
generic_def (plain.TypeAlias id) = generic.TypeAliasId id
