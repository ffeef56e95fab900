-- That `==` of patterns decides whether they are the same, variant by variant.
use Rattle.std.specs.Prelude.{◌≡◌}
use Rattle.std.specs.Bool.{Decides}
use Rattle.std.specs.Cmp.Lexicographic.{bytes_decides as bytes_decide}
use Rattle.hir_collections.specs.Exact.{optional_numbers_decide}
use Rattle.hir_collections.specs.Variants.{values_decide, then, also, last}
use Rattle.hir_node.specs.same.SmallTypes.{small_types, paths_decide, field_pats_decide}
use Rattle.hir_node.specs.same.SameStructs.{flags_decide}
use Rattle.hir_node.specs.declared.pat.Pat.{Pat}
use Rattle.hir_node.specs.contracts.pat.Pat.{enum}
use Rattle.hir_node.specs.contracts.pat.PatPartialEq.TheImpl as node

pub pats_decide : (x y : Pat) → Decides (node.ghosts.eq x y) (x ≡ y)
pats_decide x y = values_decide enum x y (
    (then _ _ (λ a b. search small_types)
    (then _ _ (λ a b. search small_types)
    (then _ _ (λ a b. search small_types)
    (then _ _ (λ a b. search small_types)
    (then _ _ (λ a b. search small_types)
    (then _ _ (λ a b. search small_types)
    (then _ _ (also _ _ flags_decide (also _ _ paths_decide (last _ field_pats_decide)))
    (then _ _ (λ a b. search small_types)
    (then _ _ (λ a b. search small_types)
    (then _ _ (λ a b. search small_types)
    (then _ _ (λ a b. search small_types)
    (then _ _ (λ a b. search small_types)
    (then _ _ (λ a b. search small_types)
    (then _ _ (also _ _ paths_decide (also _ _ bytes_decide (last _ optional_numbers_decide)))
    (then _ _ (λ a b. search small_types)
    (then _ _ (λ a b. search small_types)
    (then _ _ (λ a b. search small_types)
    (λ c d. absurd c)))))))))))))))))) _ _)
