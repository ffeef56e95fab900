-- Proof that `==` of lists of roots decides whether they are the same.
use Rattle.std.specs.Prelude.{◌≡◌, List}
use Rattle.std.specs.Bool.{Decides}
use Rattle.std.specs.Cmp.Lexicographic.{pointwise, pointwise_decides}
use Rattle.hir_forest.specs.declared.roots.Root.{Root}
use Rattle.hir_forest.specs.contracts.roots.RootPartialEq.TheImpl as root
use Rattle.hir_forest.specs.same.SameRoots.{roots_decide}

pub root_lists_decide : (xs ys : List Root) → Decides (pointwise root.ghosts.eq xs ys) (xs ≡ ys)
root_lists_decide = pointwise_decides roots_decide
