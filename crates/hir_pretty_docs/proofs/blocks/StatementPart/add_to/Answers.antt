use Rattle.hir_pretty_docs.proofs.Common.{refl, adds, adds_then, adds_more}
use Rattle.hir_pretty_docs.proofs.blocks.StatementPart.add_to.Goals as goal

pub returns-in-Let : goal.returns-in-Let
returns-in-Let c = rw c.in-Let.is (adds_more (adds_then (adds_then (adds_then (adds c.add.ensures (λ s. refl)) c.add_after.ensures)
    c.add_after-in-Let.ensures) c.add_after-in-Let-2.ensures) c.add-in-Let.ensures)

pub returns-in-Expr : goal.returns-in-Expr
returns-in-Expr c = rw c.in-Expr.is (adds_more (adds_then (adds c.add-in-Expr.ensures (λ s. refl)) c.add_if.ensures) c.add-in-Expr-2.ensures)
