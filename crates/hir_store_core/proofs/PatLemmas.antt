-- The equations of the patterns, bindings and expressions of a pattern.
use Rattle.std.proofs.Common.{◌≡◌, ℕ, ◌<◌, List, [], ◌∷◌, ◌++◌, Option, Some, None, length, refl, ap, sym, ◌∙◌, append_assoc, append-nil}
use Rattle.std.specs.List.{flat_map}
use Rattle.std.proofs.lemmas.List.Concat.{flat_map-append}
use Rattle.hir_node.specs.declared.pat.Pat.{Pat}
use Rattle.hir_node.specs.declared.pat.Pat.TheVariants as pat
use Rattle.hir_node.specs.ChildCalls.{Call, OnExpr, OnAnonConst, OnPat, OnType, OnLifetime, p, e, opt, pat_calls, path_calls, children, pat_of_call}
use Rattle.hir_node.specs.declared.node_id.NodeId.{NodeId}
use Rattle.hir_node.specs.declared.node_id.NodeId.TheVariants as node
use Rattle.hir_node.proofs.ChildPatLemmas.{none-path}
use Rattle.hir_validate.specs.Nodes.{calls_of}
use Rattle.hir_validate.specs.declared.node_arenas.Nodes.{Nodes}
use Rattle.hir_validate.specs.Recursion.{RankDecreases, AgreeOn, DependsOnChildren}
use Rattle.hir_store_core.specs.PatLists.{child_pats_of, pats_step, pats, bindings_at, bindings_in, exprs_from, own_exprs, exprs_in_step, exprs_in}
use Rattle.hir_validate.proofs.RecursionLemmas.{fold_down_at}
use Rattle.hir_validate.proofs.SoundLemmas.{item_at}

pub pats_agree : {A : Type 0} (f g : NodeId → List A) (calls : List Call) → AgreeOn f g (children calls) → flat_map (λ q. f (node.Pat q)) (flat_map pat_of_call calls) ≡ flat_map (λ q. g (node.Pat q)) (flat_map pat_of_call calls)
pats_agree f g [] h = refl
pats_agree f g (OnExpr id ∷ calls) h = pats_agree f g calls h.1
pats_agree f g (OnAnonConst id ∷ calls) h = pats_agree f g calls h.1
pats_agree f g (OnPat id ∷ calls) h = rw (h.0, pats_agree f g calls h.1) refl
pats_agree f g (OnType id ∷ calls) h = pats_agree f g calls h.1
pats_agree f g (OnLifetime id ∷ calls) h = pats_agree f g calls h

exprs_agree : (f g : NodeId → List ℕ) (calls : List Call) → AgreeOn f g (children calls) → flat_map (exprs_from (λ q. f (node.Pat q))) calls ≡ flat_map (exprs_from (λ q. g (node.Pat q))) calls
exprs_agree f g [] h = refl
exprs_agree f g (OnExpr id ∷ calls) h = ap (λ rest. id ∷ rest) (exprs_agree f g calls h.1)
exprs_agree f g (OnAnonConst id ∷ calls) h = ap (λ rest. id ∷ rest) (exprs_agree f g calls h.1)
exprs_agree f g (OnPat id ∷ calls) h = rw (h.0, exprs_agree f g calls h.1) refl
exprs_agree f g (OnType id ∷ calls) h = exprs_agree f g calls h.1
exprs_agree f g (OnLifetime id ∷ calls) h = exprs_agree f g calls h

pats_asks : (s : Nodes) → DependsOnChildren s (pats_step s)
pats_asks s f g (node.Pat id) h = ap (λ rest. id ∷ rest) (pats_agree f g (calls_of s (node.Pat id)) h)
pats_asks s f g (node.Expr id) h = refl
pats_asks s f g (node.TypeRef id) h = refl

exprs_in_asks : (s : Nodes) → DependsOnChildren s (exprs_in_step s)
exprs_in_asks s f g (node.Pat id) h = exprs_agree f g (calls_of s (node.Pat id)) h
exprs_in_asks s f g (node.Expr id) h = refl
exprs_in_asks s f g (node.TypeRef id) h = refl

pub flat_map-twice : {X Y Z : Type 0} (f : Y → List Z) (g : X → List Y) (xs : List X) → flat_map f (flat_map g xs) ≡ flat_map (λ x. flat_map f (g x)) xs
flat_map-twice f g [] = refl
flat_map-twice f g (x ∷ xs) = flat_map-append f (g x) (flat_map g xs) ∙ ap (λ rest. flat_map f (g x) ++ rest) (flat_map-twice f g xs)

module _ (s : Nodes) (fall : RankDecreases s) where
  pub pats_unfold : (id : ℕ) → id < length s.pats → pats s id ≡ id ∷ flat_map (pats s) (child_pats_of s id)
  unfolding pats
  pats_unfold id h = fold_down_at s fall (pats_step s) [] (pats_asks s) (node.Pat id)

  pub exprs_in_unfold : (id : ℕ) → id < length s.pats → exprs_in s id ≡ flat_map (exprs_from (exprs_in s)) (calls_of s (node.Pat id))
  unfolding exprs_in
  exprs_in_unfold id h = fold_down_at s fall (exprs_in_step s) [] (exprs_in_asks s) (node.Pat id)

  pub bindings_in_unfold : (id : ℕ) → id < length s.pats → bindings_in s id ≡ bindings_at s id ++ flat_map (bindings_in s) (child_pats_of s id)
  bindings_in_unfold id h = ap (flat_map (bindings_at s)) (pats_unfold id h) ∙ ap (λ rest. bindings_at s id ++ rest) (flat_map-twice (bindings_at s) (pats s) (child_pats_of s id))

-- among calls the patterns come first: their expressions are those of the patterns, and then those of the others
module _ (inside : ℕ → List ℕ) where
  abbrev Parted : List Call → Type 0
  Parted calls = flat_map (exprs_from inside) calls ≡ flat_map inside (flat_map pat_of_call calls) ++ flat_map own_exprs calls

  -- where no pattern is among them
  own_alone : (calls : List Call) → flat_map pat_of_call calls ≡ [] → flat_map (exprs_from inside) calls ≡ flat_map own_exprs calls
  own_alone [] h = refl
  own_alone (OnExpr id ∷ calls) h = ap (λ rest. id ∷ rest) (own_alone calls h)
  own_alone (OnAnonConst id ∷ calls) h = ap (λ rest. id ∷ rest) (own_alone calls h)
  own_alone (OnPat id ∷ calls) h = absurd (cc)
  own_alone (OnType id ∷ calls) h = own_alone calls h
  own_alone (OnLifetime id ∷ calls) h = own_alone calls h

  parted-none : (calls : List Call) → flat_map pat_of_call calls ≡ [] → Parted calls
  parted-none calls h = rw h (own_alone calls h)

  parted-then : {X : Type 0} (f : X → ℕ) (xs : List X) (calls : List Call) → Parted calls → Parted (flat_map (λ x. p (f x)) xs ++ calls)
  parted-then f [] calls h = h
  parted-then f (x ∷ xs) calls h =
      let more = parted-then f xs calls h in
      let pats = flat_map inside (flat_map pat_of_call (flat_map (λ y. p (f y)) xs ++ calls)) in
      let own = flat_map own_exprs (flat_map (λ y. p (f y)) xs ++ calls) in
      ap (λ rest. inside (f x) ++ rest) more ∙ sym (append_assoc (inside (f x)) pats own)

  parted-all : {X : Type 0} (f : X → ℕ) (xs : List X) → Parted (flat_map (λ x. p (f x)) xs)
  parted-all f xs = rw append-nil at (parted-then f xs [] refl)

  parted-opt : (o : Option ℕ) (calls : List Call) → Parted calls → Parted (opt p o ++ calls)
  parted-opt None calls h = h
  parted-opt (Some id) calls h = parted-then (λ x. x) (id ∷ []) calls h

  parted-one : (id : ℕ) → Parted (p id)
  parted-one id = parted-all (λ x. x) (id ∷ [])

  none-range : (start end : Option ℕ) → flat_map pat_of_call (opt e start ++ opt e end) ≡ []
  none-range None None = refl
  none-range None (Some y) = refl
  none-range (Some x) None = refl
  none-range (Some x) (Some y) = refl

  pub pats_first : (x : Pat) → Parted (pat_calls x)
  pats_first pat.Missing = refl
  pats_first pat.Rest = refl
  pats_first pat.Wild = refl
  pats_first pat.NotNull = refl
  pats_first (pat.Tuple args ellipsis) = parted-all (λ x. x) args
  pats_first (pat.Or args) = parted-all (λ x. x) args
  pats_first (pat.Record ellipsis path args) = parted-then (λ field. field.pat) args (path_calls path) (parted-none (path_calls path) (none-path path))
  pats_first (pat.Range start end range_type) = parted-none (opt e start ++ opt e end) (none-range start end)
  pats_first (pat.Slice prefix slice suffix) =
      rw (append_assoc (flat_map p prefix) (opt p slice) (flat_map p suffix))
      (parted-then (λ x. x) prefix (opt p slice ++ flat_map p suffix) (parted-opt slice (flat_map p suffix) (parted-all (λ x. x) suffix)))
  pats_first (pat.Path path) = parted-none (path_calls path) (none-path path)
  pats_first (pat.Lit id) = refl
  pats_first (pat.Expr id) = refl
  pats_first (pat.Bind id None) = refl
  pats_first (pat.Bind id (Some sub)) = parted-one sub
  pats_first (pat.TupleStruct path args ellipsis) = parted-then (λ x. x) args (path_calls path) (parted-none (path_calls path) (none-path path))
  pats_first (pat.Ref sub mutability) = parted-one sub
  pats_first (pat.Box sub) = parted-one sub
  pats_first (pat.Deref sub) = parted-one sub

-- the expressions of a pattern are those of its child patterns, and then its own
pub exprs_in_parted : (s : Nodes) → RankDecreases s → (id : ℕ) → id < length s.pats
    → exprs_in s id ≡ flat_map (exprs_in s) (child_pats_of s id) ++ flat_map own_exprs (calls_of s (node.Pat id))
exprs_in_parted s fall id h = let x = item_at s.pats id h in exprs_in_unfold s fall id h ∙ (rw x.1 (pats_first (exprs_in s) x.0))
