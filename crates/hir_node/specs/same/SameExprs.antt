-- That `==` of expressions decides whether they are the same, variant by variant.
use Rattle.std.specs.Prelude.{◌≡◌}
use Rattle.std.specs.Bool.{Decides}
use Rattle.std.specs.Cmp.{unsigned_Decides}
use Rattle.std.specs.Cmp.Lexicographic.{bytes_decides as bytes_decide}
use Rattle.hir_collections.specs.Exact.{optional_numbers_decide, optional_number_lists_decide}
use Rattle.hir_collections.specs.Variants.{values_decide, then, also, last}
use Rattle.hir_node.specs.same.SmallTypes.{small_types, paths_decide, fields_decide, spreads_decide, closure_kinds_decide, captures_decide}
use Rattle.hir_node.specs.declared.expr.Expr.{Expr}
use Rattle.hir_node.specs.contracts.expr.Expr.{enum}
use Rattle.hir_node.specs.contracts.expr.ExprPartialEq.TheImpl as node

pub exprs_decide : (x y : Expr) → Decides (node.ghosts.eq x y) (x ≡ y)
exprs_decide x y = values_decide enum x y (
    (then _ _ (λ a b. search small_types)
    (then _ _ (λ a b. search small_types)
    (then _ _ (λ a b. search small_types)
    (then _ _ (λ a b. search small_types)
    (then _ _ (λ a b. search small_types)
    (then _ _ (λ a b. search small_types)
    (then _ _ (λ a b. search small_types)
    (then _ _ (λ a b. search small_types)
    (then _ _ (λ a b. search small_types)
    (then _ _ (λ a b. search small_types)
    (then _ _ (λ a b. search small_types)
    (then _ _ (λ a b. search small_types)
    (then _ _ (λ a b. search small_types)
    (then _ _ (λ a b. search small_types)
    (then _ _ (λ a b. search small_types)
    (then _ _ (λ a b. search small_types)
    (then _ _ (λ a b. search small_types)
    (then _ _ (λ a b. search small_types)
    (then _ _ (λ a b. search small_types)
    (then _ _ (λ a b. search small_types)
    (then _ _ (λ a b. search small_types)
    (then _ _ (λ a b. search small_types)
    (then _ _ (also _ _ paths_decide (also _ _ fields_decide (last _ spreads_decide)))
    (then _ _ (λ a b. search small_types)
    (then _ _ (λ a b. search small_types)
    (then _ _ (λ a b. search small_types)
    (then _ _ (λ a b. search small_types)
    (then _ _ (λ a b. search small_types)
    (then _ _ (λ a b. search small_types)
    (then _ _ (λ a b. search small_types)
    (then _ _ (also _ _ bytes_decide (also _ _ optional_number_lists_decide
    (also _ _ optional_numbers_decide (also _ _ unsigned_Decides
    (also _ _ closure_kinds_decide (last _ captures_decide))))))
    (then _ _ (λ a b. search small_types)
    (λ c d. absurd c))))))))))))))))))))))))))))))))) _ _)
