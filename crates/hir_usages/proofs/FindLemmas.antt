-- Where the walk over a body begins: at its formals and its last root.
use Rattle.std.proofs.Common.{◌≡◌, ℕ, List, [], ◌∷◌, ◌++◌, Option, Some, None, refl, ap, ◌∙◌, Contains, arith, subst, suc, map, rules}
use Rattle.std.specs.List.{flat_map}
use Rattle.std.specs.Option.{option_to_list, option_map}
use Rattle.hir_node.specs.declared.node_id.NodeId.{NodeId}
use Rattle.hir_validate.specs.Nodes.{Has}
use Rattle.hir_validate.specs.declared.node_arenas.Nodes.{Nodes}
use Rattle.hir_body.specs.{Bodies.BodyContents, Bodies.formals_of, Bodies.last_root, Bodies.entry_nodes, declared.formals.Param.Param}
use Rattle.hir_captures.specs.Uses.{Spot}
use Rattle.hir_usages.specs.Visits.{visits_under, visits}
use Rattle.hir_usages.specs.Usages.{usages_of_body, bound_by_body}
use Rattle.hir_usages.specs.declared.{to_visit.Task.Task, walk.Walk.Walk}
use Rattle.hir_usages.specs.internal.Pending.{AreInRange, visits_of}
use Rattle.hir_usages.specs.internal.Reading.{FoundLists, with_tasks, with_visits}
use Rattle.hir_usages.specs.internal.Wanted.{wanted_among}
use Rattle.hir_usages.proofs.WalkLemmas.{added, added_bound}

abbrev pub first_tasks : List ℕ → ℕ → List Task
first_tasks formals root = map Task.Pat formals ++ Task.Expr root ∷ []

abbrev nodes_at : List ℕ → ℕ → List NodeId
nodes_at formals root = map NodeId.Pat formals ++ NodeId.Expr root ∷ []

module _ (s : Nodes) where
  visited : (fs : List ℕ) (root : ℕ) → visits_of s (first_tasks fs root) ≡ flat_map (λ n. visits_under s n None) (nodes_at fs root)
  visited [] root = refl
  visited (f ∷ fs) root = ap (λ (xs : List Spot). visits_under s (NodeId.Pat f) None ++ xs) (visited fs root)

  in_range : (fs : List ℕ) (root : ℕ) → ((n : NodeId) → Contains (nodes_at fs root) n → Has s n) → AreInRange s (first_tasks fs root)
  in_range [] root h = (h (NodeId.Expr root) (0, omega arith, refl), tt)
  in_range (f ∷ fs) root h = (h (NodeId.Pat f) (0, omega arith, refl), in_range fs root (λ n m. h n (suc m.0, omega (arith, m.1), m.2)))

module _ (b : BodyContents) (root : ℕ) (last : Some root ≡ last_root b.store) where
  are_entry_nodes : nodes_at (formals_of b.params) root ≡ entry_nodes b
  are_entry_nodes = ap (λ (o : Option ℕ). map NodeId.Pat (formals_of b.params) ++ option_to_list (option_map NodeId.Expr o)) last

  pub first_in_range : ((n : NodeId) → Contains (entry_nodes b) n → Has b.store.nodes n) →
      AreInRange b.store.nodes (first_tasks (formals_of b.params) root)
  first_in_range h =
      in_range b.store.nodes (formals_of b.params) root
      (λ n m. h n (subst (λ (ns : List NodeId). Contains ns n) are_entry_nodes m))

  pub first_visits : visits_of b.store.nodes (first_tasks (formals_of b.params) root) ≡ visits b
  first_visits = visited b.store.nodes (formals_of b.params) root ∙ ap (flat_map (λ n. visits_under b.store.nodes n None)) are_entry_nodes

-- all that the walk adds, from where it begins
module _ (b : BodyContents) (w : Walk) (same : w.store.now ≡ b.store) (before after : FoundLists) (tasks : List Task)
    (begins : visits_of b.store.nodes tasks ≡ visits b) (ran : after ≡ with_tasks w before tasks) where
  abbrev at_end : FoundLists
  at_end = with_visits w before (visits b)

  ends : after ≡ at_end
  ends = search rules

  pub all_usages : before.usages ≡ [] → after.usages ≡ wanted_among w.wanted b.store.nodes (usages_of_body b w.scopes.now)
  all_usages none = search (rules, ends, added)

  pub all_bound : before.bound ≡ option_to_list (option_map (λ (p : Param ℕ). p.formal) b.self_param) → after.bound ≡ bound_by_body b
  all_bound own = search (rules, ends, added_bound)
