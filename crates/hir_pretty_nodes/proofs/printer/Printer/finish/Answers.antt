use Rattle.hir_pretty_nodes.proofs.Common.{ap, refl, sym, Err, ◌∙◌, env_of, turned_over, never_turned, comes_expanded}
use Rattle.hir_pretty_nodes.proofs.Common.{less_expanded, comes_missed, comes_over, writes_all, writes_fault}
use Rattle.hir_pretty_nodes.proofs.printer.Printer.finish.Goals as goal

pub nodes-init : goal.nodes-init
nodes-init g c =
    record { from = refl; same = turned_over g.W.PieceWriter.step (env_of c.args.self) c.args.self.writer c.args.self.tokens.stack c.in_ok-push_deferred.ensures.ok }

pub nodes-preserved : goal.nodes-preserved
nodes-preserved g c =
    let next = rw c.in-Ok-Some.field-0-is at c.in-Ok-Some.ensures.ok in
    comes_expanded c.nodes.invariant next.comes c.in_ok-expand-in-Ok-Some.ensures
    (λ before items n d. c.in_ok-push_deferred-in-Ok-Some.ensures.ok before items (n ∙ sym c.len-below.ensures) d)

pub nodes-smaller : goal.nodes-smaller
nodes-smaller g c =
    let next = rw c.in-Ok-Some.field-0-is at c.in-Ok-Some.ensures.ok in
    less_expanded c.nodes.invariant next.comes c.in_ok-expand-in-Ok-Some.ensures
    (λ before items n d. c.in_ok-push_deferred-in-Ok-Some.ensures.ok before items (n ∙ sym c.len-below.ensures) d)

pub returns-in-Err-clause-pieces : goal.returns-in-Err-clause-pieces
returns-in-Err-clause-pieces g c = writes_fault _ (λ m e. comes_missed c.nodes.invariant (c.in-Err.ensures.missing m (ap Err e)))

pub returns-in-Err-clause-memory : goal.returns-in-Err-clause-memory
returns-in-Err-clause-memory g c = λ refused. absurd (never_turned c.args.self.tokens.stack refused c.in_ok-push_deferred.ensures.ok)

pub returns-clause-pieces : goal.returns-clause-pieces
returns-clause-pieces g c =
    let next = rw c.in-Ok-None.field-0-is at c.in-Ok-None.ensures.ok in writes_all _ (comes_over c.nodes.invariant next.comes)

pub returns-clause-memory : goal.returns-clause-memory
returns-clause-memory g c = λ refused. absurd (never_turned c.args.self.tokens.stack refused c.in_ok-push_deferred.ensures.ok)
