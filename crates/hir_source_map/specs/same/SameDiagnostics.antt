-- That `==` of diagnostics decides whether they are the same, variant by variant.
use Rattle.std.specs.Prelude.{◌≡◌}
use Rattle.std.specs.Bool.{Decides}
use Rattle.hir_collections.specs.Exact.{exact}
use Rattle.hir_collections.specs.Variants.{values_decide, then}
use Rattle.hir_source_map.specs.declared.diagnostics.ExpressionStoreDiagnostics.{ExpressionStoreDiagnostics}
use Rattle.hir_source_map.specs.contracts.diagnostics.ExpressionStoreDiagnostics.{enum}
use Rattle.hir_source_map.specs.contracts.diagnostics.ExpressionStoreDiagnosticsPartialEq.TheImpl as diagnostic

pub diagnostics_decide : (x y : ExpressionStoreDiagnostics) → Decides (diagnostic.ghosts.eq x y) (x ≡ y)
diagnostics_decide x y = values_decide enum x y (
    (then _ _ (λ a b. search exact)
    (then _ _ (λ a b. search exact)
    (then _ _ (λ a b. search exact)
    (then _ _ (λ a b. search exact)
    (then _ _ (λ a b. search exact)
    (then _ _ (λ a b. search exact)
    (then _ _ (λ a b. search exact)
    (then _ _ (λ a b. search exact)
    (λ c d. absurd c))))))))) _ _)
