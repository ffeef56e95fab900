-- That `==` of the parameters of each kind decides whether they are the same.
use Rattle.std.specs.Prelude.{◌≡◌}
use Rattle.std.specs.Bool.{Decides}
use Rattle.hir_collections.specs.Exact.{exact}
use Rattle.hir_signature.specs.same.SameData.{type_params_decide}
use Rattle.hir_signature.specs.declared.param_data.ConstParamData.{ConstParamData}
use Rattle.hir_signature.specs.declared.param_data.LifetimeParamData.{LifetimeParamData}
use Rattle.hir_signature.specs.contracts.param_data.ConstParamDataPartialEq.TheImpl as consts
use Rattle.hir_signature.specs.contracts.param_data.ConstParamDataExactEq.TheImpl.Laws as consts_law
use Rattle.hir_signature.specs.contracts.param_data.LifetimeParamDataPartialEq.TheImpl as lifetimes
use Rattle.hir_signature.specs.contracts.param_data.LifetimeParamDataExactEq.TheImpl.Laws as lifetimes_law

pub consts_decide : (x y : ConstParamData) → Decides (consts.ghosts.eq x y) (x ≡ y)
consts_decide = consts_law.lawful.eq_decides

pub lifetimes_decide : (x y : LifetimeParamData) → Decides (lifetimes.ghosts.eq x y) (x ≡ y)
lifetimes_decide = lifetimes_law.lawful.eq_decides

pub ruleset kinds = (exact, type_params_decide, consts_decide, lifetimes_decide)
