use Rattle.std.proofs.lemmas.List.Elements.{All-from_recursion}
use Rattle.hir_body.specs.Bodies.{entry_nodes}
use Rattle.hir_scope.specs.BodyScopes.{entry_nodes_of_body}
use Rattle.hir_captures.specs.{Captures.IsOn, Uses.Use, Uses.uses_in}
use Rattle.hir_captures.proofs.CodeLemmas.{uses_stand_on}
use Rattle.hir_captures.proofs.laws.uses_stand_on_their_closure.Goals as goal

pub returns : goal.returns
returns c = λ b sound accepted closure is chain are.
    let s = b.store.nodes in
    All-from_recursion (λ (u : Use). IsOn (chain closure) (chain u.expr)) (uses_in b.store closure)
    (uses_stand_on b.store (entry_nodes_of_body b) (entry_nodes b) (c.rank_decreases.ensures b.store sound)
    (c.children_of_reached_are_reached.ensures s (entry_nodes b))
    (c.a_reached_node_has_one_chain.ensures.bodies b sound accepted) closure is.0 is.1 chain are)
