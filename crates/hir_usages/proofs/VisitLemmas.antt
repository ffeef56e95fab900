-- The visits under a node are its own, and then those of the tasks that visiting it puts.
use Rattle.std.proofs.Common.{◌≡◌, ◌<◌, ℕ, List, [], ◌∷◌, ◌++◌, Option, Some, None, refl, sym, ap, ◌∙◌, Contains, arith, subst, zero, suc, rules}
use Rattle.std.proofs.Math.Path.{fun_ext}
use Rattle.std.proofs.lemmas.List.Sorted.{IsPermutation-sym, Contains-permutation}
use Rattle.std.specs.List.{flat_map, AllByRecursion}
use Rattle.hir_node.specs.ChildCalls.{Call, OnExpr, OnAnonConst, OnPat, OnType, OnLifetime, children}
use Rattle.hir_node.specs.declared.node_id.NodeId.{NodeId}
use Rattle.hir_validate.specs.Recursion.{rank, RankDecreases, AgreeOn, DependsOnChildren}
use Rattle.hir_validate.specs.Nodes.{Has, children_of}
use Rattle.hir_validate.specs.declared.node_arenas.Nodes.{Nodes}
use Rattle.hir_validate.proofs.RecursionLemmas.{fold_down_at, parent_in_range}
use Rattle.hir_scope.specs.{ScopingForms.form_of, Order.met_in_form}
use Rattle.hir_scope.proofs.ChildLemmas.{met_children}
use Rattle.hir_captures.specs.Uses.{Spot, spot, of_pattern, assignment_at}
use Rattle.hir_usages.specs.Visits.{children_in_order, visit_child, visit_step, visits_under}
use Rattle.hir_usages.specs.declared.to_visit.Task.{Task}
use Rattle.hir_usages.specs.internal.Pending.{tasks_of, task_node, visits_of, AreInRange}
use Rattle.std.proofs.lemmas.Grind.{common_steps}

-- 1. The visits under a node

abbrev pub Visiting : Type 0
Visiting = NodeId → Option ℕ → List Spot

module _ (s : Nodes) where
  -- the children in the order of the walk are the node's children
  pub child_among : (n k : NodeId) → Contains (children_in_order s n) k → Contains (children_of s n) k
  child_among n k m = search (rules, Contains-permutation, IsPermutation-sym, met_children)

agreed : (f g : Visiting) (xs : List NodeId) → AgreeOn f g xs → (k : NodeId) → Contains xs k → f k ≡ g k
agreed f g [] h k m = absurd (omega (arith, m.1))
agreed f g (x ∷ xs) h k (zero, l, is) = ap f (sym is) ∙ (h.0 ∙ ap g is)
agreed f g (x ∷ xs) h k (suc i, l, is) = agreed f g xs h.1 k (i, omega (arith, l), is)

visited_alike : (f g : Visiting) (a : Option ℕ) (xs : List NodeId) → ((k : NodeId) → Contains xs k → f k ≡ g k) →
    flat_map (visit_child f a) xs ≡ flat_map (visit_child g a) xs
visited_alike f g a [] h = refl
visited_alike f g a (x ∷ xs) h =
    let first = ap (λ (w : Option ℕ → List Spot). w (of_pattern x a)) (h x (0, omega arith, refl)) in
    let rest = visited_alike f g a xs (λ k m. h k (suc m.0, omega (arith, m.1), m.2)) in
    λ i. first i ++ rest i

visit_asks : (s : Nodes) → DependsOnChildren s (visit_step s)
visit_asks s f g n h =
    fun_ext (λ a. ap (λ (xs : List Spot). spot n a ∷ xs)
    (visited_alike f g (assignment_at s n a) (children_in_order s n) (λ k m. agreed f g (children_of s n) h k (child_among s n k m))))

-- the visits under a node are its step's, at the visits under its children
pub visits_at : (s : Nodes) → RankDecreases s → (n : NodeId) (a : Option ℕ) → visits_under s n a ≡ visit_step s (visits_under s) n a
unfolding visits_under
visits_at s fall n a = ap (λ (w : Option ℕ → List Spot). w a) (fold_down_at s fall (visit_step s) (λ assignment. []) (visit_asks s) n)

-- 2. The tasks of calls

-- the visits of tasks are those of the children that their calls are of
visits_of_calls : (s : Nodes) (a : Option ℕ) (cs : List Call) → visits_of s (tasks_of a cs)
    ≡ flat_map (visit_child (visits_under s) a) (children cs)
visits_of_calls s a [] = refl
visits_of_calls s a (OnExpr id ∷ cs) = ap (λ (xs : List Spot). visits_under s (NodeId.Expr id) None ++ xs) (visits_of_calls s a cs)
visits_of_calls s a (OnAnonConst id ∷ cs) = ap (λ (xs : List Spot). visits_under s (NodeId.Expr id) None ++ xs) (visits_of_calls s a cs)
visits_of_calls s None (OnPat id ∷ cs) = ap (λ (xs : List Spot). visits_under s (NodeId.Pat id) None ++ xs) (visits_of_calls s None cs)
visits_of_calls s (Some x) (OnPat id ∷ cs) = search (rules, visits_of_calls s (Some x) cs)
visits_of_calls s a (OnType id ∷ cs) = ap (λ (xs : List Spot). visits_under s (NodeId.TypeRef id) None ++ xs) (visits_of_calls s a cs)
visits_of_calls s a (OnLifetime id ∷ cs) = visits_of_calls s a cs

-- visiting a node leaves the visits of its children
pub visits_left : (s : Nodes) → RankDecreases s → (n : NodeId) (a : Option ℕ) → visits_under s n a
    ≡ spot n a ∷ visits_of s (tasks_of (assignment_at s n a) (met_in_form (form_of s n)))
visits_left s fall n a =
    grind (arith, common_steps, visits_at s fall n a, visits_of_calls s (assignment_at s n a) (met_in_form (form_of s n)))

all_two : {X : Type 0} (P : X → Type 0) (xs ys : List X) → AllByRecursion P xs → AllByRecursion P ys → AllByRecursion P (xs ++ ys)
all_two P [] ys h k = k
all_two P (x ∷ xs) ys h k = (h.0, all_two P xs ys h.1 k)

tasks_in_range : (s : Nodes) (a : Option ℕ) (cs : List Call) → ((k : NodeId) → Contains (children cs) k → Has s k) →
    AreInRange s (tasks_of a cs)
tasks_in_range s a [] h = tt
tasks_in_range s a (OnExpr id ∷ cs) h =
    (h (NodeId.Expr id) (0, omega arith, refl), tasks_in_range s a cs (λ k m. h k (suc m.0, omega (arith, m.1), m.2)))
tasks_in_range s a (OnAnonConst id ∷ cs) h =
    (h (NodeId.Expr id) (0, omega arith, refl), tasks_in_range s a cs (λ k m. h k (suc m.0, omega (arith, m.1), m.2)))
tasks_in_range s None (OnPat id ∷ cs) h = (
  h (NodeId.Pat id) (0, omega arith, refl),
  tasks_in_range s None cs
      (λ k m. h k (suc m.0, omega (arith, m.1), m.2)),
)
tasks_in_range s (Some x) (OnPat id ∷ cs) h = (
  h (NodeId.Pat id) (0, omega arith, refl),
  tasks_in_range s (Some x) cs
      (λ k m. h k (suc m.0, omega (arith, m.1), m.2)),
)
tasks_in_range s a (OnType id ∷ cs) h = (
  h (NodeId.TypeRef id) (0, omega arith, refl),
  tasks_in_range s a cs
      (λ k m. h k (suc m.0, omega (arith, m.1), m.2)),
)
tasks_in_range s a (OnLifetime id ∷ cs) h = tasks_in_range s a cs h

-- the children of a node are in range
pub children_in_range : (s : Nodes) → RankDecreases s → (n : NodeId) (a : Option ℕ) (rest : List Task) → Has s n →
    AreInRange s rest → AreInRange s (tasks_of a (met_in_form (form_of s n)) ++ rest)
children_in_range s fall n a rest h r =
    all_two (λ (t : Task). Has s (task_node t)) (tasks_of a (met_in_form (form_of s n))) rest
    (tasks_in_range s a (met_in_form (form_of s n)) (λ k m. fall.in_range n h k (child_among s n k m))) r

-- 3. What holds at the entry nodes, and at each child where it holds at its parent, holds of each visit.

module _ (s : Nodes) (fall : RankDecreases s) (P : NodeId → Option ℕ → Type 0)
    (goes : (m : NodeId) (a : Option ℕ) (k : NodeId) → P m a → Contains (children_in_order s m) k →
    P k (of_pattern k (assignment_at s m a))) where
  abbrev HoldOf : List Spot → Type 0
  HoldOf xs = AllByRecursion (λ (x : Spot). P x.node x.assignment) xs

  hold_each : (a : Option ℕ) (ks : List NodeId) →
      ((k : NodeId) → Contains ks k → HoldOf (visits_under s k (of_pattern k a))) →
      HoldOf (flat_map (visit_child (visits_under s) a) ks)
  hold_each a [] h = tt
  hold_each a (k ∷ ks) h =
      all_two (λ (x : Spot). P x.node x.assignment) (visits_under s k (of_pattern k a))
      (flat_map (visit_child (visits_under s) a) ks) (h k (0, omega arith, refl))
      (hold_each a ks (λ j m. h j (suc m.0, omega (arith, m.1), m.2)))

  hold_under : (d : ℕ) (m : NodeId) (a : Option ℕ) → rank s m < d → P m a → HoldOf (visits_under s m a)
  hold_under zero m a l h = absurd (omega (arith, l))
  hold_under (suc d) m a l h =
      subst HoldOf (sym (visits_at s fall m a)) (
        h,
        hold_each (assignment_at s m a) (children_in_order s m) (λ k c.
            let among = child_among s m k c in
            let low = fall.lower m (parent_in_range s m k among) k among in
            hold_under d k (of_pattern k (assignment_at s m a)) (omega (arith, l, low)) (goes m a k h c)),
      )

  pub hold_from : (ns : List NodeId) → ((n : NodeId) → Contains ns n → P n None) → HoldOf (flat_map (λ m. visits_under s m None) ns)
  hold_from [] h = tt
  hold_from (m ∷ ns) h =
      all_two (λ (x : Spot). P x.node x.assignment) (visits_under s m None) (flat_map (λ k. visits_under s k None) ns)
      (hold_under (suc (rank s m)) m None (omega arith) (h m (0, omega arith, refl)))
      (hold_from ns (λ k c. h k (suc c.0, omega (arith, c.1), c.2)))
