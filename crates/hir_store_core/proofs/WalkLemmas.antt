-- What walks over the patterns of a pattern need: child patterns have a lower rank, and runs of a visitor are
-- folds of what it holds.
use Rattle.std.proofs.Common.{◌≡◌, ℕ, suc, ◌<◌, Bool, true, List, [], ◌∷◌, length, refl, arith, Contains}
use Rattle.std.specs.List.{flat_map, FoldsTo, AllByRecursion, list_all}
use Rattle.std.specs.Cmp.{first_so, second_so}
use Rattle.hir_node.specs.Runs.{Runs, no_call, a_call, MayRun, at_end, at_call}
use Rattle.hir_node.specs.ChildCalls.{Call, OnExpr, OnAnonConst, OnPat, OnType, OnLifetime, children, pat_of_call}
use Rattle.hir_node.specs.declared.node_id.NodeId.{NodeId}
use Rattle.hir_node.specs.declared.node_id.NodeId.TheVariants as node
use Rattle.hir_node.proofs.ChildPatLemmas.{folds_on}
use Rattle.hir_validate.specs.Nodes.{Has, calls_of, children_of}
use Rattle.hir_validate.specs.declared.node_arenas.Nodes.{Nodes}
use Rattle.hir_validate.specs.Recursion.{rank, RankDecreases}
use Rattle.hir_store_core.specs.PatLists.{child_pats_of}

-- the pattern c exists, and has a lower rank than p
pub record IsBelow (s : Nodes) (p c : ℕ) : Type 0 where
  pub in_range : c < length s.pats
  pub lower : rank s (node.Pat c) < rank s (node.Pat p)

each_member : {X : Type 0} (P : X → Type 0) (xs : List X) → ((x : X) → Contains xs x → P x) → AllByRecursion P xs
each_member P [] f = tt
each_member P (x ∷ xs) f = (f x (0, omega arith, refl), each_member P xs (λ y c. f y (suc c.0, omega (arith, c.1), c.2)))

pats_of_children : (P : NodeId → Type 0) (Q : ℕ → Type 0) → ((q : ℕ) → P (node.Pat q) → Q q) → (calls : List Call) → AllByRecursion P (children calls) → AllByRecursion Q (flat_map pat_of_call calls)
pats_of_children P Q f [] h = tt
pats_of_children P Q f (OnExpr id ∷ calls) h = pats_of_children P Q f calls h.1
pats_of_children P Q f (OnAnonConst id ∷ calls) h = pats_of_children P Q f calls h.1
pats_of_children P Q f (OnPat id ∷ calls) h = (f id h.0, pats_of_children P Q f calls h.1)
pats_of_children P Q f (OnType id ∷ calls) h = pats_of_children P Q f calls h.1
pats_of_children P Q f (OnLifetime id ∷ calls) h = pats_of_children P Q f calls h

-- the child patterns of a pattern exist, and have a lower rank
pub pats_below : (s : Nodes) → RankDecreases s → (id : ℕ) → id < length s.pats → AllByRecursion (IsBelow s id) (child_pats_of s id)
pats_below s fall id h =
    let child : NodeId → Type 0 = λ k. Has s k × (rank s k < rank s (node.Pat id)) in
    let all = each_member child (children_of s (node.Pat id)) (λ k c. (fall.in_range (node.Pat id) h k c, fall.lower (node.Pat id) h k c)) in
    pats_of_children child (IsBelow s id) (λ q k. record { in_range = k.0; lower = k.1 }) (calls_of s (node.Pat id)) all

-- each call folds what is held over what it gives
pub folds_through : {V C P A : Type 0} {step : V → C → V → Type 0} (R : P → A → P → Type 0) (held : V → P) (gives : C → List A) → ((v w : V) (c : C) → step v c w → FoldsTo R (held v) (gives c) (held w))
    → {v w : V} {cs : List C} → Runs step v cs w → FoldsTo R (held v) (flat_map gives cs) (held w)
folds_through R held gives f no_call = refl
folds_through R held gives f (a_call {u} {v} {w} {c} {cs} s r) = folds_on R (gives c) (flat_map gives cs) (held u) (held v) (held w) (f _ _ _ s) (folds_through R held gives f r)

-- each call may be made where a fact holds that the calls leave, and each passes a test
pub may_each : {V C : Type 0} {step : V → C → V → Type 0} (may : V → C → Type 0) (P : V → Type 0) (test : C → Bool) → ((v : V) (c : C) → P v → test c ≡ true → may v c) → ((v w : V) (c : C) → P v → step v c w → P w)
    → (cs : List C) {v : V} → P v → list_all test cs ≡ true → MayRun may step v cs
may_each may P test can leaves [] h t = at_end
may_each may P test can leaves (c ∷ cs) h t = at_call (can _ c h (first_so _ _ t)) (λ w s. may_each may P test can leaves cs (leaves _ w c h s) (second_so _ _ t))

-- the same where something holds of each call
pub may_those : {V C : Type 0} {step : V → C → V → Type 0} (may : V → C → Type 0) (P : V → Type 0) (Q : C → Type 0) → ((v : V) (c : C) → P v → Q c → may v c) → ((v w : V) (c : C) → P v → step v c w → P w)
    → (cs : List C) {v : V} → P v → AllByRecursion Q cs → MayRun may step v cs
may_those may P Q can leaves [] h t = at_end
may_those may P Q can leaves (c ∷ cs) h t = at_call (can _ c h t.0) (λ w s. may_those may P Q can leaves cs (leaves _ w c h s) t.1)

-- the same where a fact holds that the calls leave
pub folds_kept : {V C P A : Type 0} {step : V → C → V → Type 0} (R : P → A → P → Type 0) (held : V → P) (gives : C → List A) (Q : V → Type 0) → ((v w : V) (c : C) → Q v → step v c w → FoldsTo R (held v) (gives c) (held w) × Q w)
    → {v w : V} {cs : List C} → Q v → Runs step v cs w → FoldsTo R (held v) (flat_map gives cs) (held w)
folds_kept R held gives Q f h no_call = refl
folds_kept R held gives Q f h (a_call {u} {v} {w} {c} {cs} s r) =
    let one = f u v c h s in
    folds_on R (gives c) (flat_map gives cs) (held u) (held v) (held w) one.0 (folds_kept R held gives Q f one.1 r)

-- the same value at the end
pub folds_to : {P A : Type 0} (R : P → A → P → Type 0) (p q r : P) (xs : List A) → r ≡ q → FoldsTo R p xs q → FoldsTo R p xs r
folds_to R p q r xs e h = rw e h
