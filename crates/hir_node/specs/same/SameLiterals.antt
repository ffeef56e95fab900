-- That `==` of literals decides whether they are the same, variant by variant.
use Rattle.std.specs.Prelude.{◌≡◌}
use Rattle.std.specs.Bool.{Decides}
use Rattle.hir_collections.specs.Variants.{values_decide, then, last}
use Rattle.hir_node.specs.same.Leaves.{leaves}
use Rattle.hir_node.specs.declared.literal.Literal.{Literal}
use Rattle.hir_node.specs.contracts.literal.Literal.{enum}
use Rattle.hir_node.specs.contracts.literal.LiteralPartialEq.TheImpl as node
use Rattle.hir_node.specs.declared.literal.LiteralOrConst.{LiteralOrConst}
use Rattle.hir_node.specs.contracts.literal.LiteralOrConst.{enum as end_enum}
use Rattle.hir_node.specs.contracts.literal.LiteralOrConstPartialEq.TheImpl as end
use Rattle.hir_collections.specs.Exact.{exact}

pub literals_decide : (x y : Literal) → Decides (node.ghosts.eq x y) (x ≡ y)
literals_decide x y = values_decide enum x y (
    (then _ _ (λ a b. search leaves)
    (then _ _ (λ a b. search leaves)
    (then _ _ (λ a b. search leaves)
    (then _ _ (λ a b. search leaves)
    (then _ _ (λ a b. search leaves)
    (then _ _ (λ a b. search leaves)
    (then _ _ (λ a b. search leaves)
    (then _ _ (λ a b. search leaves)
    (λ c d. absurd c))))))))) _ _)

pub ends_decide : (x y : LiteralOrConst) → Decides (end.ghosts.eq x y) (x ≡ y)
ends_decide x y = values_decide end_enum x y (
    (then _ _ (last _ literals_decide)
    (then _ _ (λ a b. search exact)
    (λ c d. absurd c))) _ _)
