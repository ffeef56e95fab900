-- Reading formals and marking them one by one; and what a body without a fault is.
use Rattle.std.proofs.Common.{◌≡◌, ℕ, zero, suc, ◌+◌, ◌-◌, ◌<◌, ◌⊎◌, ◌↔◌, List, [], ◌∷◌, ◌++◌, Option, Some, None, inl, inr, ⊎_elim, refl, ap, sym, ◌∙◌, subst, arith, length, map, take, get_or, slice_get, Contains}
use Rattle.std.proofs.lemmas.List.{length-map, length_push, get_or-map, take_more, take-map, map-append, get_or_default, get_or-take, length-take-le}
use Rattle.std.proofs.lemmas.List.Elements.{Contains-append_cases, Contains-append_left, Contains-append_right, Contains-push, Contains-push_cases}
use Rattle.std.proofs.lemmas.Option.{get_or_from_slice_get}
use Rattle.hir_forest.proofs.VerdictLemmas.{IsOne, unless-one, before-one, first_below-one}
use Rattle.hir_node.specs.declared.node_id.NodeId.{NodeId}
use Rattle.hir_node.specs.declared.node_id.NodeId.TheVariants as node
use Rattle.hir_path.specs.Lists.{last_of}
use Rattle.hir_validate.specs.Sizes.{HasNode}
use Rattle.hir_store_core.specs.NodeSets.{MarkedNodes, IsIn, Gains}
use Rattle.hir_body.specs.declared.formals.Param.{Param}
use Rattle.hir_body.specs.declared.body_fault.BodyFault.{BodyFault}
use Rattle.hir_body.specs.declared.body_fault.BodyFault.TheVariants.{NoRoot, SelfOutOfRange, ParamOutOfRange, ParamRepeated, ParamUnder, RootInParam}
use Rattle.hir_body.specs.Bodies.{BodyContents, formals_of, user_written_of, last_root, fault_at_root, apart_fault, body_fault}
use Rattle.hir_body.specs.internal.Bodies.{GainsAll}

pub read_at : {X : Type 0} (f : X → ℕ) (xs : List X) (i : ℕ) (x : X) → i < length xs → x ≡ get_or xs i x → get_or (map f xs) i 0 ≡ f x
read_at f xs i x h e = get_or-map f xs i x 0 h ∙ ap f (sym e)

-- the members of patterns as nodes
pub node_of_pat : (xs : List ℕ) (x : ℕ) → Contains xs x → Contains (map node.Pat xs) (node.Pat x)
node_of_pat xs x m = (m.0, omega (arith, m.1, length-map xs node.Pat), get_or-map node.Pat xs m.0 x (node.Pat x) m.1 ∙ ap node.Pat m.2)

pub pat_of_node : (xs : List ℕ) (x : ℕ) → Contains (map node.Pat xs) (node.Pat x) → Contains xs x
pat_of_node xs x m =
    let h : m.0 < length xs = omega (arith, m.1, length-map xs node.Pat) in
    let e : node.Pat (get_or xs m.0 x) ≡ node.Pat x = sym (get_or-map node.Pat xs m.0 x (node.Pat x) h) ∙ m.2 in
    (m.0, h, cc)

-- one formal more is in the set
pub gains_more : (old now new : MarkedNodes) (xs : List ℕ) (i x : ℕ) → i < length xs → get_or xs i 0 ≡ x
    → GainsAll old (map node.Pat (take i xs)) now → Gains now (node.Pat x) new → GainsAll old (map node.Pat (take (i + 1) xs)) new
gains_more old now new xs i x h e all one = (
  one.sizes ∙ all.0,
  λ n k.
      let more = one.members n (subst (λ z. HasNode z n) (sym all.0) k) in
      let before = all.1 n k in
      let grown : map node.Pat (take (i + 1) xs) ≡ map node.Pat (take i xs) ++ node.Pat x ∷ [] = rw (take_more xs i 0 h, e) (map-append node.Pat (take i xs) (x ∷ [])) in
      rw grown (
        λ m. ⊎_elim (λ b. ⊎_elim inl (λ c. inr (Contains-append_left (map node.Pat (take i xs)) _ n c)) (before.0 b)) (λ s. inr (subst (Contains (map node.Pat (take i xs) ++ node.Pat x ∷ [])) (sym s) (Contains-push (map node.Pat (take i xs)) (node.Pat x)))) (more.0 m),
        λ m. more.1 (⊎_elim (λ b. inl (before.1 (inl b))) (λ c. ⊎_elim (λ d. inl (before.1 (inr d))) (λ d. inr (sym d)) (Contains-push_cases (map node.Pat (take i xs)) (node.Pat x) n c)) m),
      ),
)

-- a body's parts have one first fault at most
fault_at_root-one : (b : BodyContents) (root : Option ℕ) → IsOne (fault_at_root b root)
unfolding apart_fault
fault_at_root-one b None f g h k = h ∙ sym k
fault_at_root-one b (Some root) f g h k =
    before-one _ _ (unless-one _ _) (before-one _ _ (first_below-one _ _ (λ i. unless-one _ _))
    (before-one _ _ (first_below-one _ _ (λ i. unless-one _ _)) (before-one _ _ (first_below-one _ _ (λ i. unless-one _ _)) (unless-one _ _)))) f g h k

pub body_fault-one : (b : BodyContents) → IsOne (body_fault b)
unfolding body_fault
body_fault-one b = fault_at_root-one b (last_root b.store)

at_end : (xs : List ℕ) (x : ℕ) → slice_get (xs ++ x ∷ []) (length xs) ≡ Some x
at_end [] x = refl
at_end (y ∷ ys) x = at_end ys x

pub last_push : (xs : List ℕ) (x : ℕ) → last_of (xs ++ x ∷ []) ≡ Some x
last_push xs x =
    let last : length xs ≡ length (xs ++ x ∷ []) - 1 = (let n = length_push xs x in omega arith) in
    subst (λ (n : ℕ). slice_get (xs ++ x ∷ []) n ≡ Some x) last (at_end xs x)
