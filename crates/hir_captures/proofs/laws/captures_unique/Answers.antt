use Rattle.std.proofs.Common.{sym, ap, ◌∙◌, List, ℕ}
use Rattle.hir_body.specs.Bodies.{entry_nodes}
use Rattle.hir_scope.specs.BodyScopes.{entry_nodes_of_body}
use Rattle.hir_captures.specs.Captures.{each_once}
use Rattle.hir_captures.proofs.CodeLemmas.{one_list}
use Rattle.hir_captures.proofs.laws.captures_unique.Goals as goal

pub returns : goal.returns
returns c = λ b sound accepted closure is xs ys p q.
    let s = b.store.nodes in
    let same = one_list b.store (entry_nodes_of_body b) (entry_nodes b) (c.rank_decreases.ensures b.store sound)
    (c.children_of_reached_are_reached.ensures s (entry_nodes b))
    (c.a_reached_node_has_one_chain.ensures.bodies b sound accepted) closure is.0 is.1 p.chain q.chain p.are_chains
    q.are_chains p.captured q.captured p.each q.each in
    p.are ∙ (ap (λ (found : List ℕ). each_once found) same ∙ sym q.are)
