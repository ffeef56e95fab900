-- A search around an expression, step by step.
use Rattle.std.proofs.Common.{◌≡◌, ℕ, ◌<◌, ◌⊎◌, Bool, true, false, List, [], ◌∷◌, Option, None, inl, inr, refl, ap, sym, ◌∙◌, arith, length}
use Rattle.std.specs.Prelude.{Some, find, filter_map, ◌||◌}
use Rattle.std.proofs.lemmas.Bool.{cases_Bool}
use Rattle.hir_node.specs.declared.node_id.NodeId.{NodeId}
use Rattle.hir_node.specs.declared.node_id.NodeId.TheVariants as node
use Rattle.hir_validate.specs.declared.node_arenas.Nodes.{Nodes}
use Rattle.hir_validate.specs.Faults.{RootedNodes, rooted_fault}
use Rattle.hir_store_core.specs.declared.jump_roles.JumpRole.{JumpRole}
use Rattle.hir_store_core.specs.declared.jump_roles.JumpRole.TheVariants.{Closure, Loop, Block, Other}
use Rattle.hir_store_core.specs.Ancestors.{parent, and_on, ancestors}
use Rattle.hir_store_core.specs.JumpTargets.{is_const_of, up_to_const, expr_of, exprs_around, role_at, nearest, is_closure, enclosing_closure, target_by_role}
use Rattle.hir_store_core.specs.internal.Sought.{unless_const, parent_in_code}
use Rattle.hir_store_core.proofs.AncestorLemmas.{ancestors_is}

-- the search from a node on
abbrev pub found_from : Nodes → (JumpRole → Bool) → NodeId → Option ℕ
found_from s test n = find (λ id. test (role_at s id)) (filter_map expr_of (up_to_const s n (ancestors s n)))

-- the ancestors in the code of a node, by its parent in it
abbrev on_in_code : Nodes → Option NodeId → List NodeId
on_in_code s None = []
on_in_code s (Some p) = p ∷ up_to_const s p (ancestors s p)

module _ (c : RootedNodes) (sound : rooted_fault c None) where
  abbrev s : Nodes
  s = c.nodes

  code_by : (n : NodeId) (o : Option NodeId) → up_to_const s n (and_on (ancestors s) o) ≡ on_in_code s (unless_const s n o)
  code_by n None = refl
  code_by n (Some p) =
      elim (cases_Bool (is_const_of s p n)) [
        | inl holds ↦ rw holds refl
        | inr fails ↦ rw fails refl
      ]

  code_is : (n : NodeId) → up_to_const s n (ancestors s n) ≡ on_in_code s (parent_in_code s n)
  code_is n = ap (up_to_const s n) (ancestors_is c sound n) ∙ code_by n (parent s n)

  found_by : (test : JumpRole → Bool) (n : NodeId) (o : Option NodeId) → parent_in_code s n ≡ o → found_from s test n ≡ find (λ id. test (role_at s id)) (filter_map expr_of (on_in_code s o))
  found_by test n o is = ap (λ ps. find (λ id. test (role_at s id)) (filter_map expr_of ps)) (code_is n ∙ ap (on_in_code s) is)

  pub found_ended : (test : JumpRole → Bool) (n : NodeId) → parent_in_code s n ≡ None → found_from s test n ≡ None
  found_ended test n is = found_by test n None is

  pub found_here : (test : JumpRole → Bool) (n : NodeId) (id : ℕ) → parent_in_code s n ≡ Some (node.Expr id) → test (role_at s id) ≡ true → found_from s test n ≡ Some id
  found_here test n id is holds = found_by test n (Some (node.Expr id)) is ∙ rw holds refl

  pub found_on : (test : JumpRole → Bool) (n : NodeId) (id : ℕ) → parent_in_code s n ≡ Some (node.Expr id) → test (role_at s id) ≡ false → found_from s test n ≡ found_from s test (node.Expr id)
  found_on test n id is fails = found_by test n (Some (node.Expr id)) is ∙ rw fails refl

  pub found_on_other : (test : JumpRole → Bool) (n p : NodeId) → parent_in_code s n ≡ Some p → ((id : ℕ) → p ≡ node.Expr id → ⊥) → found_from s test n ≡ found_from s test p
  found_on_other test n (node.Expr id) is other = absurd (other id refl)
  found_on_other test n (node.Pat id) is other = found_by test n (Some (node.Pat id)) is
  found_on_other test n (node.TypeRef id) is other = found_by test n (Some (node.TypeRef id)) is

  fewer_by : (n p : NodeId) (o : Option NodeId) → parent s n ≡ o → unless_const s n o ≡ Some p → length (ancestors s p) < length (ancestors s n)
  fewer_by n p None is e = absurd (cc)
  fewer_by n p (Some q) is e =
      elim (cases_Bool (is_const_of s q n)) [
        | inl holds ↦ let none : None ≡ Some p = rw holds at e in absurd (cc)
        | inr fails ↦
            let some : Some q ≡ Some p = rw fails at e in
            let same : q ≡ p = cc in
            let len = ap length (ancestors_is c sound n ∙ ap (and_on (ancestors s)) (is ∙ some)) in omega arith
      ]

  pub fewer : (n p : NodeId) → parent_in_code s n ≡ Some p → length (ancestors s p) < length (ancestors s n)
  fewer n p e = fewer_by n p (parent s n) refl e

-- a closure is nearest, or a closure is
or_same : (b : Bool) → (b || b) ≡ b
or_same true = refl
or_same false = refl

find_same : {X : Type 0} (f g : X → Bool) → ((x : X) → f x ≡ g x) → (xs : List X) → find f xs ≡ find g xs
find_same f g same [] = refl
find_same f g same (x ∷ xs) = rw (same x, find_same f g same xs) refl

pub closure_found : (s : Nodes) (e : ℕ) → nearest s (λ role. is_closure role || is_closure role) e ≡ enclosing_closure s e
unfolding enclosing_closure
closure_found s e = find_same _ _ (λ id. or_same (is_closure (role_at s id))) (exprs_around s e)

-- what is no jump goes nowhere
pub goes_nowhere : (s : Nodes) (e : ℕ) (role : JumpRole) → (role ≡ Closure) ⊎ (((x : Option ℕ) × (role ≡ Loop x)) ⊎ (((x : Option ℕ) × (role ≡ Block x)) ⊎ (role ≡ Other))) → None ≡ target_by_role s e role
goes_nowhere s e role (inl is) = rw is refl
goes_nowhere s e role (inr (inl (x, is))) = rw is refl
goes_nowhere s e role (inr (inr (inl (x, is)))) = rw is refl
goes_nowhere s e role (inr (inr (inr is))) = rw is refl
