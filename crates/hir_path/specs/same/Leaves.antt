-- That `==` of the parts of paths decides whether they are the same.
use Rattle.std.specs.Prelude.{◌≡◌, ℕ, List, Option}
use Rattle.std.specs.Bool.{Decides}
use Rattle.std.specs.Option.{option_eq}
use Rattle.std.specs.Cmp.Lexicographic.{pointwise, pointwise_decides}
use Rattle.hir_collections.specs.Exact.{exact, options_decide}
use Rattle.hir_base.specs.ModPath.{ModPath}
use Rattle.hir_base.specs.declared.defs.LangItemTarget.{LangItemTarget}
use Rattle.hir_path.specs.declared.path.GenericArgs.{GenericArgs}
use Rattle.hir_base.specs.contracts.mod_path.ModPathPartialEq.TheImpl as mod_paths
use Rattle.hir_base.specs.contracts.mod_path.ModPathExactEq.TheImpl.Laws as mod_paths_law
use Rattle.hir_base.specs.contracts.name.NamePartialEq.TheImpl as names
use Rattle.hir_base.specs.contracts.name.NameExactEq.TheImpl.Laws as names_law
use Rattle.hir_base.specs.contracts.defs.LangItemTargetPartialEq.TheImpl as targets
use Rattle.hir_base.specs.contracts.defs.LangItemTargetExactEq.TheImpl.Laws as targets_law
use Rattle.hir_path.specs.contracts.path.GenericArgsPartialEq.TheImpl as given
use Rattle.hir_path.specs.contracts.path.GenericArgsExactEq.TheImpl.Laws as given_law

pub mod_paths_decide : (x y : ModPath) → Decides (mod_paths.ghosts.eq x y) (x ≡ y)
mod_paths_decide = mod_paths_law.lawful.eq_decides

pub names_decide : (x y : List ℕ) → Decides (names.ghosts.eq x y) (x ≡ y)
names_decide = names_law.lawful.eq_decides

pub targets_decide : (x y : LangItemTarget) → Decides (targets.ghosts.eq x y) (x ≡ y)
targets_decide = targets_law.lawful.eq_decides

pub given_decide : (x y : Option GenericArgs) → Decides (option_eq given.ghosts.eq x y) (x ≡ y)
given_decide = options_decide given_law.lawful.eq_decides

pub given_lists_decide : (xs ys : List (Option GenericArgs))
    → Decides (pointwise (option_eq given.ghosts.eq) xs ys) (xs ≡ ys)
given_lists_decide = pointwise_decides given_decide

pub optional_names_decide : (x y : Option (List ℕ)) → Decides (option_eq names.ghosts.eq x y) (x ≡ y)
optional_names_decide = options_decide names_decide

pub ruleset leaves = (
  exact,
  mod_paths_decide,
  names_decide,
  targets_decide,
  given_decide,
  given_lists_decide,
  optional_names_decide,
)
