use Rattle.std.proofs.Common.{◌≡◌, ◌<◌, ◌∙◌, ap, sym, length, List, [], ◌∷◌, arith}
use Rattle.hir_node.specs.declared.node_id.NodeId.{NodeId}
use Rattle.hir_store_core.specs.Contents.{rooted_of}
use Rattle.hir_store_core.proofs.AncestorLemmas.{ended, stepped}
use Rattle.hir_store_core.proofs.ancestors.AncestorsIterator.next.Goals as goal

pub returns-in_err-self-inside-clause-steps : goal.returns-in_err-self-inside-clause-steps
returns-in_err-self-inside-clause-steps c =
    let over : c.args.self.now ≡ [] = sym c.self.view_is ∙ ended (rooted_of c.self.inside.store.now) c.has_no_fault.ensures c.self.inside.node (sym c.parent.ensures ∙ c.in_err-self-inside.was) in
    rw c.from_residual.ensures (over, over)

pub returns-clause-steps : goal.returns-clause-steps
returns-clause-steps c =
    sym c.self.view_is ∙ stepped (rooted_of c.self.inside.store.now) c.has_no_fault.ensures c.self.inside.node c.in_ok-self-inside.field-0 (sym c.parent.ensures ∙ c.in_ok-self-inside.was)

pub returns-clause-goes : goal.returns-clause-goes
returns-clause-goes c =
    let step = sym c.self.view_is ∙ stepped (rooted_of c.self.inside.store.now) c.has_no_fault.ensures c.self.inside.node c.in_ok-self-inside.field-0 (sym c.parent.ensures ∙ c.in_ok-self-inside.was) in
    let len = ap length step in
    record { on = λ f. (tt, tt, omega (arith, len)); keeps = tt; rests = λ f. tt }
