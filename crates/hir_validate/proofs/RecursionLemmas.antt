-- The value of a node is the step's, at the values of its children.
use Rattle.std.proofs.Common.{◌≡◌, ℕ, zero, suc, ◌<◌, List, [], ◌∷◌, Option, refl, subst, arith, length, slice_get, Contains, inl, inr}
use Rattle.std.proofs.lemmas.Bool.{cases_lt}
use Rattle.std.proofs.lemmas.Option.{slice_get_past}
use Rattle.hir_node.specs.ChildCalls.{Call, expr_calls, pat_calls, type_calls, opt, children}
use Rattle.hir_node.specs.declared.node_id.NodeId.{NodeId}
use Rattle.hir_node.specs.declared.node_id.NodeId.TheVariants as node
use Rattle.hir_validate.specs.Nodes.{Nodes, Has, children_of}
use Rattle.hir_validate.specs.Recursion.{rank, RankDecreases, fold_down_within, fold_down, AgreeOn, DependsOnChildren}

pub agree_from_members : {A : Type 0} (f g : NodeId → A) (xs : List NodeId) → ((x : NodeId) → Contains xs x → f x ≡ g x) → AgreeOn f g xs
agree_from_members f g [] e = tt
agree_from_members f g (x ∷ xs) e = (e x (0, omega arith, refl), agree_from_members f g xs (λ y c. e y (suc c.0, omega (arith, c.1), c.2)))

-- only a node in range has children
with_children : {X : Type 0} (calls : X → List Call) (xs : List X) (i : ℕ) (k : NodeId) → Contains (children (opt calls (slice_get xs i))) k → i < length xs
with_children calls xs i k c =
    elim (cases_lt i (length xs)) [
      | inl h ↦ h
      | inr h ↦ absurd (let default = subst (λ (o : Option _). Contains (children (opt calls o)) k) (slice_get_past xs i h) c in omega (arith, default.1))
    ]

pub parent_in_range : (s : Nodes) (n k : NodeId) → Contains (children_of s n) k → Has s n
parent_in_range s (node.Expr id) k c = with_children expr_calls s.exprs id k c
parent_in_range s (node.Pat id) k c = with_children pat_calls s.pats id k c
parent_in_range s (node.TypeRef id) k c = with_children type_calls s.types id k c

module _ {A : Type 0} (s : Nodes) (fall : RankDecreases s) (step : (NodeId → A) → NodeId → A) (default : A) (asks : DependsOnChildren s step) where
  -- a greater depth changes nothing
  stable : (d e : ℕ) (n : NodeId) → rank s n < d → rank s n < e → fold_down_within step default d n ≡ fold_down_within step default e n
  stable zero e n v w = absurd (omega arith)
  stable (suc d) zero n v w = absurd (omega arith)
  stable (suc d) (suc e) n v w =
      asks (fold_down_within step default d) (fold_down_within step default e) n (agree_from_members _ _ (children_of s n) (λ k c.
      let low = fall.lower n (parent_in_range s n k c) k c in
      stable d e k (omega arith) (omega arith)))

  -- the value of a node is the step's, at the values of its children
  pub fold_down_at : (n : NodeId) → fold_down s step default n ≡ step (fold_down s step default) n
  unfolding fold_down
  fold_down_at n =
      asks (fold_down_within step default (rank s n)) (fold_down s step default) n (agree_from_members _ _ (children_of s n) (λ k c.
      let low = fall.lower n (parent_in_range s n k c) k c in
      stable (rank s n) (suc (rank s k)) k low (omega arith)))
