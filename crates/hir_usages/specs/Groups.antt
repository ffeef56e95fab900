-- Uses in groups: those of each binding, and those that resolve to none.
use Rattle.std.specs.Prelude.{◌≡◌}
use Rattle.hir_usages.specs.Prelude.{nat_cmp, List, [], Option, Some, None, BindingId}
use Rattle.std.specs.FinMap as map
use Rattle.hir_usages.specs.Usages.{usages_of, unresolved_in}
use Rattle.hir_usages.specs.declared.usage.Usage.{Usage}

abbrev pub or_none : Option (List Usage) → List Usage
or_none None = []
or_none (Some usages) = usages

-- the uses of each binding, and those that are unresolved, are these
pub record AreGroups (usages : List Usage) (by_binding : map.FinMap nat_cmp (List Usage))
    (unresolved : List Usage) : Type 0 where
  pub each : (binding : BindingId) → or_none (map.get by_binding binding) ≡ usages_of binding usages
  pub rest : unresolved ≡ unresolved_in usages
