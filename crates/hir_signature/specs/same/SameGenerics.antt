-- Proof that `==` of generic parameters decides whether they are the same.
use Rattle.std.specs.Prelude.{◌≡◌, List}
use Rattle.std.specs.Bool.{Decides}
use Rattle.std.specs.Cmp.{unsigned_Decides}
use Rattle.std.specs.Cmp.Lexicographic.{pointwise, pointwise_decides}
use Rattle.std.proofs.Common.{ap}
use Rattle.hir_path.specs.same.Fields.{and_decides}
use Rattle.hir_signature.specs.declared.param_data.LifetimeParamData.{LifetimeParamData}
use Rattle.hir_signature.specs.declared.param_data.LifetimeBoundType.TheVariants.{EarlyBound}
use Rattle.hir_signature.specs.declared.any_param.TypeOrConstParamData.{TypeOrConstParamData}
use Rattle.hir_signature.specs.declared.predicate.WherePredicate.{WherePredicate}
use Rattle.hir_signature.specs.contracts.any_param.TypeOrConstParamDataPartialEq.TheImpl as params
use Rattle.hir_signature.specs.contracts.any_param.TypeOrConstParamDataExactEq.TheImpl.Laws as params_law
use Rattle.hir_signature.specs.contracts.param_data.LifetimeParamDataPartialEq.TheImpl as lifetimes
use Rattle.hir_signature.specs.contracts.param_data.LifetimeParamDataExactEq.TheImpl.Laws as lifetimes_law
use Rattle.hir_signature.specs.contracts.predicate.WherePredicatePartialEq.TheImpl as predicates
use Rattle.hir_signature.specs.contracts.predicate.WherePredicateExactEq.TheImpl.Laws as predicates_law
use Rattle.hir_signature.specs.Generics.{Generics, count_bound}
use Rattle.hir_signature.specs.contracts.generic_params.GenericParamsPartialEq.TheImpl as generics

params_decide : (xs ys : List TypeOrConstParamData) → Decides (pointwise params.ghosts.eq xs ys) (xs ≡ ys)
params_decide = pointwise_decides params_law.lawful.eq_decides

lifetimes_decide : (xs ys : List LifetimeParamData) → Decides (pointwise lifetimes.ghosts.eq xs ys) (xs ≡ ys)
lifetimes_decide = pointwise_decides lifetimes_law.lawful.eq_decides

predicates_decide : (xs ys : List WherePredicate) → Decides (pointwise predicates.ghosts.eq xs ys) (xs ≡ ys)
predicates_decide = pointwise_decides predicates_law.lawful.eq_decides

-- `==` also reads the count of early bound lifetimes, which the lists give
pub generics_decide : (x y : Generics) → Decides (generics.ghosts.eq x y) (x ≡ y)
generics_decide x y =
    and_decides _ _ (params_decide x.type_or_consts y.type_or_consts)
    (and_decides {R = (x.lifetimes ≡ y.lifetimes)
    × (x.predicates ≡ y.predicates)} _ _ (lifetimes_decide x.lifetimes y.lifetimes)
    (and_decides {R = (x.predicates ≡ y.predicates)
    × (count_bound EarlyBound x.lifetimes ≡ count_bound EarlyBound y.lifetimes)} _ _
    (predicates_decide x.predicates y.predicates)
    (unsigned_Decides (count_bound EarlyBound x.lifetimes) (count_bound EarlyBound y.lifetimes))
    (λ p c. (p, c)) (λ r. r.0) (λ r. r.1))
    (λ l r. (l, r.0)) (λ r. r.0) (λ r. (r.1, ap (count_bound EarlyBound) r.0)))
    (λ p r i. record { type_or_consts = p i; lifetimes = r.0 i; predicates = r.1 i })
    (λ e i. (e i).type_or_consts) (λ e. (λ i. (e i).lifetimes, λ i. (e i).predicates))
