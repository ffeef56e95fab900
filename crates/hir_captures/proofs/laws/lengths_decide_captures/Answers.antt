use Rattle.std.proofs.Common.{ap, ◌∙◌, List, ℕ}
use Rattle.hir_body.specs.Bodies.{entry_nodes}
use Rattle.hir_scope.specs.BodyScopes.{entry_nodes_of_body}
use Rattle.hir_captures.specs.Captures.{each_once, captured_binding}
use Rattle.hir_captures.proofs.CodeLemmas.{all_by_length, one_list}
use Rattle.hir_captures.proofs.laws.lengths_decide_captures.Goals as goal

pub returns : goal.returns
returns c = λ b sound accepted closure is chain are xs.
    let all = entry_nodes_of_body b in
    let from = entry_nodes b in
    let fall = c.rank_decreases.ensures b.store sound in
    let go = c.children_of_reached_are_reached.ensures b.store.nodes from in
    let one = c.a_reached_node_has_one_chain.ensures.bodies b sound accepted in
    let each = all_by_length b.store all from fall go one closure is.0 is.1 chain are in (
      λ p. p.are
          ∙ ap (λ (found : List ℕ). each_once found)
          (one_list b.store all from fall go one closure is.0 is.1 p.chain chain p.are_chains are p.captured
          (captured_binding chain closure) p.each each),
      λ e. record {
        chain = chain;
        are_chains = are;
        captured = captured_binding chain closure;
        each = each;
        are = e;
      },
    )
