-- That `==` of types decides whether they are the same, variant by variant.
use Rattle.std.specs.Prelude.{◌≡◌}
use Rattle.std.specs.Bool.{Decides}
use Rattle.hir_collections.specs.Variants.{values_decide, then}
use Rattle.hir_node.specs.same.SmallTypes.{small_types}
use Rattle.hir_node.specs.declared.type_ref.TypeRef.{TypeRef}
use Rattle.hir_node.specs.contracts.type_ref.TypeRef.{enum}
use Rattle.hir_node.specs.contracts.type_ref.TypeRefPartialEq.TheImpl as node

pub types_decide : (x y : TypeRef) → Decides (node.ghosts.eq x y) (x ≡ y)
types_decide x y = values_decide enum x y (
    (then _ _ (λ a b. search small_types)
    (then _ _ (λ a b. search small_types)
    (then _ _ (λ a b. search small_types)
    (then _ _ (λ a b. search small_types)
    (then _ _ (λ a b. search small_types)
    (then _ _ (λ a b. search small_types)
    (then _ _ (λ a b. search small_types)
    (then _ _ (λ a b. search small_types)
    (then _ _ (λ a b. search small_types)
    (then _ _ (λ a b. search small_types)
    (then _ _ (λ a b. search small_types)
    (then _ _ (λ a b. search small_types)
    (then _ _ (λ a b. search small_types)
    (then _ _ (λ a b. search small_types)
    (λ c d. absurd c))))))))))))))) _ _)
