-- That `==` of errors decides whether they are the same, variant by variant.
use Rattle.std.specs.Prelude.{◌≡◌}
use Rattle.std.specs.Bool.{Decides}
use Rattle.hir_collections.specs.Exact.{exact}
use Rattle.hir_collections.specs.Variants.{values_decide, then, last}
use Rattle.hir_store_core.specs.declared.missing.Missing.{Missing}
use Rattle.hir_store_core.specs.contracts.missing.Missing as definitions
use Rattle.hir_store_core.specs.contracts.missing.MissingPartialEq.TheImpl as definition
use Rattle.hir_pretty_nodes.specs.declared.fault.PrintFault.{PrintFault}
use Rattle.hir_pretty_nodes.specs.contracts.fault.PrintFault as prints
use Rattle.hir_pretty_nodes.specs.contracts.fault.PrintFaultPartialEq.TheImpl as print
use Rattle.hir_error.specs.declared.error.HirError.{HirError}
use Rattle.hir_error.specs.contracts.error.HirError.{enum}
use Rattle.hir_error.specs.contracts.error.HirErrorPartialEq.TheImpl as error

pub definitions_decide : (x y : Missing) → Decides (definition.ghosts.eq x y) (x ≡ y)
definitions_decide x y = values_decide definitions.enum x y (
    (then _ _ (λ a b. search exact)
    (then _ _ (λ a b. search exact)
    (then _ _ (λ a b. search exact)
    (then _ _ (λ a b. search exact)
    (then _ _ (λ a b. search exact)
    (then _ _ (λ a b. search exact)
    (then _ _ (λ a b. search exact)
    (then _ _ (λ a b. search exact)
    (then _ _ (λ a b. search exact)
    (λ c d. absurd c)))))))))) _ _)

pub prints_decide : (x y : PrintFault) → Decides (print.ghosts.eq x y) (x ≡ y)
prints_decide x y = values_decide prints.enum x y (
    (then _ _ (last _ definitions_decide)
    (then _ _ (λ a b. search exact)
    (λ c d. absurd c))) _ _)

pub errors_decide : (x y : HirError) → Decides (error.ghosts.eq x y) (x ≡ y)
errors_decide x y = values_decide enum x y (
    (then _ _ (λ a b. search exact)
    (then _ _ (λ a b. search exact)
    (then _ _ (λ a b. search exact)
    (then _ _ (λ a b. search exact)
    (then _ _ (λ a b. search exact)
    (then _ _ (last _ definitions_decide)
    (then _ _ (λ a b. search exact)
    (then _ _ (last _ prints_decide)
    (then _ _ (λ a b. search exact)
    (then _ _ (λ a b. search exact)
    (then _ _ (λ a b. search exact)
    (λ c d. absurd c)))))))))))) _ _)
