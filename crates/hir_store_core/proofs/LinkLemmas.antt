-- The links of patterns: what is linked child by child, and that the patterns of a store can be linked.
use Rattle.std.proofs.Common.{◌≡◌, ℕ, zero, suc, ◌<◌, List, [], ◌∷◌, Option, Some, None, inl, inr, refl, ap, sym, ◌∙◌, subst, arith, length, set, get_or, slice_get, All, Contains}
use Rattle.std.specs.List.{flat_map, AllByRecursion}
use Rattle.std.proofs.lemmas.Bool.{cases_lt}
use Rattle.std.proofs.lemmas.List.{get_or-set_same, get_or-set_other, length-set}
use Rattle.std.proofs.lemmas.List.Elements.{Contains-get_or}
use Rattle.std.proofs.lemmas.Option.{slice_get-get_or}
use Rattle.hir_node.specs.declared.pat.Pat.{Pat}
use Rattle.hir_node.specs.declared.node_id.NodeId.TheVariants as node
use Rattle.hir_node.specs.ChildCalls.{Call, OnExpr, OnAnonConst, OnPat, OnType, OnLifetime, children, pat_of_call, pat_calls, child_pats, opt}
use Rattle.hir_validate.specs.Nodes.{calls_of, children_of}
use Rattle.hir_validate.specs.Faults.{RootedNodes, rooted_fault}
use Rattle.hir_validate.specs.Recursion.{RankDecreases}
use Rattle.hir_validate.proofs.SoundLemmas.{sound_falls}
use Rattle.hir_validate.proofs.RecursionLemmas.{parent_in_range}
use Rattle.hir_store_core.specs.declared.pat_links.PatLink.{PatLink}
use Rattle.hir_store_core.specs.declared.pat_links.PatLink.TheVariants.{Next, Last, Alone}
use Rattle.hir_store_core.specs.PatLinks.{children_at, IsOnce, EachHasOnePlace, link_at, AreLinked}
use Rattle.hir_store_core.specs.internal.PatLinks.{link_children}
use Rattle.hir_store_core.specs.Under.{itself}
use Rattle.hir_store_core.proofs.ApartLemmas.{one_parent, children_apart, contains_read}

contains_first : {X : Type 0} (x : X) (xs : List X) → Contains (x ∷ xs) x
contains_first x xs = (0, omega arith, refl)

contains_behind : {X : Type 0} (x : X) (xs : List X) (y : X) → Contains xs y → Contains (x ∷ xs) y
contains_behind x xs y c = (suc c.0, omega (arith, c.1), c.2)

-- the link of another pattern stays
linked-other : (m : ℕ) (ks : List ℕ) (links : List PatLink) (x : ℕ) → (Contains ks x → ⊥) → link_at (link_children m ks links) x ≡ link_at links x
linked-other m [] links x out = refl
linked-other m (k ∷ []) links x out = get_or-set_other links k x (Last m) Alone (λ e. out (0, omega arith, sym e))
linked-other m (k ∷ q ∷ more) links x out =
    linked-other m (q ∷ more) (set links k (Next q)) x (λ c. out (contains_behind k (q ∷ more) x c))
    ∙ get_or-set_other links k x (Next q) Alone (λ e. out (0, omega arith, sym e))

pub length-linked : (m : ℕ) (ks : List ℕ) (links : List PatLink) → length (link_children m ks links) ≡ length links
length-linked m [] links = refl
length-linked m (k ∷ []) links = length-set links k (Last m)
length-linked m (k ∷ q ∷ more) links = length-linked m (q ∷ more) (set links k (Next q)) ∙ length-set links k (Next q)

pub low_after : (links : List PatLink) (k : ℕ) (link : PatLink) (ks : List ℕ) → AllByRecursion (λ x. x < length links) ks → AllByRecursion (λ x. x < length (set links k link)) ks
low_after links k link [] h = tt
low_after links k link (x ∷ ks) h = (omega (arith, h.0, length-set links k link), low_after links k link ks h.1)

-- the children that were linked are
linked-here : (m : ℕ) (ks : List ℕ) (links : List PatLink) → IsOnce ks → AllByRecursion (λ x. x < length links) ks → AreLinked (link_children m ks links) m ks
linked-here m [] links once low = tt
linked-here m (k ∷ []) links once low = get_or-set_same links k (Last m) Alone low.0
linked-here m (k ∷ q ∷ more) links once low = (
  linked-other m (q ∷ more) (set links k (Next q)) k once.0 ∙ get_or-set_same links k (Next q) Alone low.0,
  linked-here m (q ∷ more) (set links k (Next q)) once.1 (low_after links k (Next q) (q ∷ more) low.1),
)

-- who keep their links stay linked
linked-kept : (old new : List PatLink) (m : ℕ) (ks : List ℕ) → ((k : ℕ) → Contains ks k → link_at new k ≡ link_at old k) → AreLinked old m ks → AreLinked new m ks
linked-kept old new m [] same h = tt
linked-kept old new m (k ∷ []) same h = same k (contains_first k []) ∙ h
linked-kept old new m (k ∷ q ∷ more) same h =
    (same k (contains_first k (q ∷ more)) ∙ h.0, linked-kept old new m (q ∷ more) (λ x c. same x (contains_behind k (q ∷ more) x c)) h.1)

-- the children of the patterns before this one are linked
abbrev pub LinkedBefore : List Pat → List PatLink → ℕ → Type 0
LinkedBefore pats links i = (m : ℕ) → m < i → AreLinked links m (children_at pats m)

pub all_from_contains : {X : Type 0} (P : X → Type 0) (xs : List X) → ((x : X) → Contains xs x → P x) → AllByRecursion P xs
all_from_contains P [] f = tt
all_from_contains P (x ∷ xs) f = (f x (contains_first x xs), all_from_contains P xs (λ y c. f y (contains_behind x xs y c)))

pub linked-next : (pats : List Pat) → EachHasOnePlace pats → (links : List PatLink) (i : ℕ) → length links ≡ length pats → LinkedBefore pats links i → LinkedBefore pats (link_children i (children_at pats i) links) (suc i)
linked-next pats place links i len before m lt =
    elim (cases_lt m i) [
      | inl h ↦
          linked-kept links (link_children i (children_at pats i) links) m (children_at pats m)
          (λ k c. linked-other i (children_at pats i) links k (λ d. let same = place.one_parent m i k c d in omega arith)) (before m h)
      | inr h ↦
          let e : i ≡ m = omega arith in
          subst (λ (n : ℕ). AreLinked (link_children i (children_at pats i) links) n (children_at pats n)) e
          (linked-here i (children_at pats i) links (place.once i) (all_from_contains (λ x. x < length links) (children_at pats i) (λ x c. let t = place.in_range i x c in omega arith)))
    ]

-- the children of a pattern that was read
pub children_here : (pats : List Pat) (i : ℕ) (x : Pat) → i < length pats → x ≡ get_or pats i x → children_at pats i ≡ child_pats x
children_here pats i x lt is =
    let read : slice_get pats i ≡ Some x = slice_get-get_or pats i x lt ∙ ap Some (sym is) in
    ap (λ (o : Option Pat). flat_map pat_of_call (opt pat_calls o)) read

pub children_low : (pats : List Pat) → EachHasOnePlace pats → (i : ℕ) (x : Pat) → i < length pats → x ≡ get_or pats i x → (n : ℕ) → n ≡ length pats → All (λ c. c < n) (child_pats x)
children_low pats place i x lt is n e k d h =
    let child = get_or (child_pats x) k d in
    let in_range = place.in_range i child (subst (λ (ks : List ℕ). Contains ks child) (sym (children_here pats i x lt is)) (Contains-get_or (child_pats x) k d h)) in
    omega arith

-- a pattern among calls is a child
pat_child : (calls : List Call) (k : ℕ) → Contains (flat_map pat_of_call calls) k → Contains (children calls) (node.Pat k)
pat_child [] k c = absurd (omega (arith, c.1))
pat_child (OnExpr id ∷ calls) k c = contains_behind (node.Expr id) (children calls) (node.Pat k) (pat_child calls k c)
pat_child (OnAnonConst id ∷ calls) k c = contains_behind (node.Expr id) (children calls) (node.Pat k) (pat_child calls k c)
pat_child (OnPat id ∷ calls) k (zero, h, e) = (0, omega arith, ap node.Pat e)
pat_child (OnPat id ∷ calls) k (suc i, h, e) = contains_behind (node.Pat id) (children calls) (node.Pat k) (pat_child calls k (i, omega arith, e))
pat_child (OnType id ∷ calls) k c = contains_behind (node.TypeRef id) (children calls) (node.Pat k) (pat_child calls k c)
pat_child (OnLifetime id ∷ calls) k c = pat_child calls k c

pats_once : (calls : List Call) → IsOnce (children calls) → IsOnce (flat_map pat_of_call calls)
pats_once [] h = tt
pats_once (OnExpr id ∷ calls) h = pats_once calls h.1
pats_once (OnAnonConst id ∷ calls) h = pats_once calls h.1
pats_once (OnPat id ∷ calls) h = (λ c. h.0 (pat_child calls id c), pats_once calls h.1)
pats_once (OnType id ∷ calls) h = pats_once calls h.1
pats_once (OnLifetime id ∷ calls) h = pats_once calls h

once_from : {X : Type 0} (xs : List X) → ((i j : ℕ) (x : X) → i < j → slice_get xs i ≡ Some x → slice_get xs j ≡ Some x → ⊥) → IsOnce xs
once_from [] f = tt
once_from (x ∷ xs) f = (
  λ c. f 0 (suc c.0) x (omega arith) refl (slice_get-get_or xs c.0 x c.1 ∙ ap Some c.2),
  once_from xs (λ i j y h u v. f (suc i) (suc j) y (omega arith) u v),
)

-- each pattern of a store is a child of one pattern at most, once
pub patterns_have_one_place : (c : RootedNodes) → rooted_fault c None → EachHasOnePlace c.nodes.pats
patterns_have_one_place c sound = record {
  in_range = λ m k d. let n = child m k d in fall.in_range (node.Pat m) (parent_in_range c.nodes (node.Pat m) (node.Pat k) n) (node.Pat k) n;
  one_parent = λ m n k a b. same m n (one_parent c sound (node.Pat m) (node.Pat n) (node.Pat k) (child m k a) (child n k b));
  once = λ m. pats_once (calls_of c.nodes (node.Pat m)) (once_from (children_of c.nodes (node.Pat m)) (λ i j x h u v.
      let in_range = parent_in_range c.nodes (node.Pat m) x (contains_read (children_of c.nodes (node.Pat m)) i x u) in
      children_apart c sound (node.Pat m) in_range i j x x x h u v itself itself));
}
  where
    fall : RankDecreases c.nodes
    fall = sound_falls c sound

    child : (m k : ℕ) → Contains (children_at c.nodes.pats m) k → Contains (children_of c.nodes (node.Pat m)) (node.Pat k)
    child m k d = pat_child (calls_of c.nodes (node.Pat m)) k d

    same : (m n : ℕ) → node.Pat m ≡ node.Pat n → m ≡ n
    same m n e = cc
