use Rattle.std.proofs.Common.{sym, subst}
use Rattle.hir_store_core.specs.Under.{AreDisjoint}
use Rattle.hir_body.specs.{Bodies.entry_nodes}
use Rattle.hir_signature.specs.{Signatures.root_entry_nodes}
use Rattle.hir_scope.specs.BodyScopes.{entry_nodes_of_body, entry_nodes_of_signature}
use Rattle.hir_scope.proofs.BeginLemmas.{body_same, signature_same, roots_in_range}
use Rattle.hir_scope.proofs.{UnderLemmas.contexts_in_range, UniqueLemmas.one_chain}
use Rattle.hir_scope.proofs.laws.a_reached_node_has_one_chain.Goals as goal

pub returns-clause-bodies : goal.returns-clause-bodies
returns-clause-bodies c = λ b sound accepted expr x y h k.
    let s = b.store.nodes in
    let in_range = contexts_in_range s (entry_nodes_of_body b) (entry_nodes b) (body_same b)
    (c.entry_nodes_are_in_range.ensures b sound accepted) in
    let apart = subst (AreDisjoint s) (sym (body_same b)) (c.entry_nodes_are_disjoint.ensures b sound accepted) in
    one_chain s (c.rank_decreases.ensures b.store sound) (c.one_parent.ensures b.store sound)
    (c.children_are_disjoint.ensures b.store sound) (entry_nodes_of_body b) in_range apart expr x y h k

pub returns-clause-signatures : goal.returns-clause-signatures
returns-clause-signatures c = λ b sound expr x y h k.
    let s = b.nodes in
    let all = roots_in_range b (c.roots_stand_apart.ensures b sound) in
    let in_range = contexts_in_range s (entry_nodes_of_signature b) (root_entry_nodes b) (signature_same b) all in
    let apart = subst (AreDisjoint s) (sym (signature_same b)) (c.roots_are_disjoint.ensures b sound) in
    one_chain s (c.rank_decreases.ensures b sound) (c.one_parent.ensures b sound)
    (c.children_are_disjoint.ensures b sound) (entry_nodes_of_signature b) in_range apart expr x y h k
