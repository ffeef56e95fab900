-- That `==` of generic parameters and of predicates decides whether they are the same.
use Rattle.std.specs.Prelude.{◌≡◌, List, Option, ℕ}
use Rattle.std.specs.Bool.{Decides}
use Rattle.std.specs.Option.{option_eq}
use Rattle.std.specs.Cmp.Lexicographic.{pointwise, pointwise_decides}
use Rattle.std.specs.Cmp.{unsigned_Decides}
use Rattle.hir_collections.specs.Exact.{exact, options_decide, optional_numbers_decide}
use Rattle.hir_collections.specs.Variants.{values_decide, then, also, last}
use Rattle.hir_path.specs.same.Fields.{and_decides, both}
use Rattle.hir_base.specs.contracts.name.NamePartialEq.TheImpl as names
use Rattle.hir_base.specs.contracts.name.NameExactEq.TheImpl.Laws as names_law
use Rattle.hir_path.specs.declared.bound.TypeBound.{TypeBound}
use Rattle.hir_path.specs.contracts.bound.TypeBoundPartialEq.TheImpl as bounds
use Rattle.hir_path.specs.contracts.bound.TypeBoundExactEq.TheImpl.Laws as bounds_law
use Rattle.hir_signature.specs.declared.param_data.TypeParamProvenance.{TypeParamProvenance}
use Rattle.hir_signature.specs.declared.param_data.TypeParamData.{TypeParamData}
use Rattle.hir_signature.specs.contracts.param_data.TypeParamDataPartialEq.TheImpl as types
use Rattle.hir_signature.specs.declared.predicate.WherePredicate.{WherePredicate}
use Rattle.hir_signature.specs.contracts.predicate.WherePredicate.{enum}
use Rattle.hir_signature.specs.contracts.predicate.WherePredicatePartialEq.TheImpl as predicates
use Rattle.hir_signature.specs.contracts.param_data.TypeParamProvenancePartialEq.TheImpl as provenances
use Rattle.hir_signature.specs.contracts.param_data.TypeParamProvenanceExactEq.TheImpl.Laws as provenances_law

pub names_decide : (x y : List ℕ) → Decides (names.ghosts.eq x y) (x ≡ y)
names_decide = names_law.lawful.eq_decides

pub optional_names_decide : (x y : Option (List ℕ)) → Decides (option_eq names.ghosts.eq x y) (x ≡ y)
optional_names_decide = options_decide names_decide

pub optional_name_lists_decide : (x y : Option (List (List ℕ)))
    → Decides (option_eq (pointwise names.ghosts.eq) x y) (x ≡ y)
optional_name_lists_decide = options_decide (pointwise_decides names_decide)

pub bounds_decide : (x y : TypeBound) → Decides (bounds.ghosts.eq x y) (x ≡ y)
bounds_decide = bounds_law.lawful.eq_decides

pub provenances_decide : (x y : TypeParamProvenance) → Decides (provenances.ghosts.eq x y) (x ≡ y)
provenances_decide = provenances_law.lawful.eq_decides

pub type_params_decide : (x y : TypeParamData) → Decides (types.ghosts.eq x y) (x ≡ y)
type_params_decide x y =
    and_decides _ _ (optional_names_decide x.name y.name)
    (both _ _ (optional_numbers_decide x.default y.default) (provenances_decide x.provenance y.provenance))
    (λ n r i. record { name = n i; default = r.0 i; provenance = r.1 i })
    (λ e i. (e i).name) (λ e. (λ i. (e i).default, λ i. (e i).provenance))

pub predicates_decide : (x y : WherePredicate) → Decides (predicates.ghosts.eq x y) (x ≡ y)
predicates_decide x y = values_decide enum x y (
    (then _ _ (also _ _ optional_name_lists_decide (also _ _ unsigned_Decides (last _ bounds_decide)))
    (then _ _ (λ a b. search exact)
    (λ c d. absurd c))) _ _)
