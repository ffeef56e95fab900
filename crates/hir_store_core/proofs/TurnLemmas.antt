-- The turns of a walk: what comes after each, how many are left, and what they give.
use Rattle.std.proofs.Common.{◌≡◌, ℕ, zero, suc, ◌<◌, ◌≤◌, cond, eqb, false, List, [], ◌∷◌, ◌++◌, Option, Some, None, length, refl, ap, sym, ◌∙◌, subst, arith, append_assoc, append-nil}
use Rattle.std.specs.List.{flat_map, AllByRecursion}
use Rattle.std.proofs.lemmas.Bool.{eqb-true, eq-eqb, false_from_ne_true}
use Rattle.std.proofs.lemmas.List.Concat.{flat_map-append}
use Rattle.hir_node.specs.declared.node_id.NodeId.TheVariants as node
use Rattle.hir_validate.specs.Nodes.{calls_of}
use Rattle.hir_validate.specs.declared.node_arenas.Nodes.{Nodes}
use Rattle.hir_validate.specs.Recursion.{rank, RankDecreases, DependsOnChildren}
use Rattle.hir_validate.proofs.RecursionLemmas.{fold_down_at}
use Rattle.hir_store_core.specs.declared.pat_links.PatLink.{PatLink}
use Rattle.hir_store_core.specs.declared.pat_turns.Turn.{Turn}
use Rattle.hir_store_core.specs.declared.pat_turns.Turn.TheVariants.{Enter, Leave}
use Rattle.hir_store_core.specs.PatLists.{child_pats_of, pats, bindings_at, bindings_in, exprs_in}
use Rattle.hir_store_core.specs.PatLinks.{link_at, AreLinked, HasPatLinks}
use Rattle.hir_store_core.specs.internal.PatTurns.{pat_of, turns_step, turns, entered_pat, exprs_left, turn_within, turn_by, turn_after}
use Rattle.hir_store_core.proofs.PatLemmas.{pats_agree, flat_map-twice, pats_unfold, exprs_in_parted}
use Rattle.hir_store_core.proofs.WalkLemmas.{IsBelow, pats_below}

-- these turns come after the leaving of a pattern, in the turns of the top
pub data AfterLeave (s : Nodes) (top : ℕ) : ℕ → List Turn → Type 0 where
  at_top : AfterLeave s top top []
  below : (m k : ℕ) (front more : List ℕ) (rest : List Turn) → m < length s.pats → child_pats_of s m ≡ front ++ k ∷ more → AfterLeave s top m rest
      → AfterLeave s top k (flat_map (turns s) more ++ Leave m ∷ rest)

-- these turns come after a turn
abbrev pub Behind : Nodes → ℕ → Turn → List Turn → Type 0
Behind s top (Enter p) rest = (after : List Turn) × AfterLeave s top p after × (rest ≡ flat_map (turns s) (child_pats_of s p) ++ Leave p ∷ after)
Behind s top (Leave p) rest = AfterLeave s top p rest

-- it is the first of these turns, and the others come after it
abbrev pub Follows : Nodes → ℕ → List Turn → Option Turn → Type 0
Follows s top rest None = rest ≡ []
Follows s top rest (Some t) = (more : List Turn) × (rest ≡ t ∷ more) × Behind s top t more

-- how many turns come after a turn by the links, as far as a number of steps leads
abbrev pub steps_step : (Turn → ℕ) → Option Turn → ℕ
steps_step self None = 0
steps_step self (Some t) = suc (self t)

abbrev pub steps : Nodes → List PatLink → ℕ → ℕ → Turn → ℕ
steps s links top zero t = 0
steps s links top (suc d) t = steps_step (steps s links top d) (turn_after s links top t)

turns_asks : (s : Nodes) → DependsOnChildren s (turns_step s)
turns_asks s f g (node.Pat id) h = ap (λ inner. Enter id ∷ inner ++ Leave id ∷ []) (pats_agree f g (calls_of s (node.Pat id)) h)
turns_asks s f g (node.Expr id) h = refl
turns_asks s f g (node.TypeRef id) h = refl

-- an item of a list of which all are so
at_split : {X : Type 0} (P : X → Type 0) (front : List X) (x : X) (more : List X) → AllByRecursion P (front ++ x ∷ more) → P x
at_split P [] x more h = h.0
at_split P (y ∷ front) x more h = at_split P front x more h.1

all_append : {X : Type 0} (P : X → Type 0) (xs ys : List X) → AllByRecursion P xs → AllByRecursion P ys → AllByRecursion P (xs ++ ys)
all_append P [] ys h k = k
all_append P (x ∷ xs) ys h k = (h.0, all_append P xs ys h.1 k)

all_flat : {X Y : Type 0} (P : Y → Type 0) (Q : X → Type 0) (f : X → List Y) (xs : List X) → AllByRecursion Q xs → ((x : X) → Q x → AllByRecursion P (f x)) → AllByRecursion P (flat_map f xs)
all_flat P Q f [] h each = tt
all_flat P Q f (x ∷ xs) h each = all_append P (f x) (flat_map f xs) (each x h.0) (all_flat P Q f xs h.1 each)

same_each : {X Y : Type 0} (Q : X → Type 0) (f g : X → List Y) (xs : List X) → AllByRecursion Q xs → ((x : X) → Q x → f x ≡ g x) → flat_map f xs ≡ flat_map g xs
same_each Q f g [] h each = refl
same_each Q f g (x ∷ xs) h each = rw (each x h.0, same_each Q f g xs h.1 each) refl

linked_on : (links : List PatLink) (m k : ℕ) (front more : List ℕ) → AreLinked links m (front ++ k ∷ more) → AreLinked links m (k ∷ more)
linked_on links m k [] more h = h
linked_on links m k (x ∷ []) more h = h.1
linked_on links m k (x ∷ y ∷ front) more h = linked_on links m k (y ∷ front) more h.1

module _ (s : Nodes) (fall : RankDecreases s) where
  pub turns_is : (p : ℕ) → turns s p ≡ Enter p ∷ flat_map (turns s) (child_pats_of s p) ++ Leave p ∷ []
  unfolding turns
  turns_is p = fold_down_at s fall (turns_step s) [] (turns_asks s) (node.Pat p)

  -- each turn is one of a pattern that exists
  in_range_in : (d p : ℕ) → p < length s.pats → rank s (node.Pat p) < d → AllByRecursion (λ t. pat_of t < length s.pats) (turns s p)
  in_range_in zero p h lt = absurd (omega arith)
  in_range_in (suc d) p h lt =
      let inner = all_flat (λ (t : Turn). pat_of t < length s.pats) (IsBelow s p) (turns s) (child_pats_of s p) (pats_below s fall p h) (λ q b. let low = b.lower in in_range_in d q b.in_range (omega arith)) in
      rw (turns_is p) (h, all_append (λ (t : Turn). pat_of t < length s.pats) (flat_map (turns s) (child_pats_of s p)) (Leave p ∷ []) inner (h, tt))

  pub turns_in_range : (p : ℕ) → p < length s.pats → AllByRecursion (λ t. pat_of t < length s.pats) (turns s p)
  turns_in_range p h = in_range_in (suc (rank s (node.Pat p))) p h (omega arith)

  -- what the turns of a pattern give: what its entering gives, what the turns of its children give, what its leaving gives
  gives : {A : Type 0} (g : Turn → List A) (p : ℕ) → flat_map g (turns s p) ≡ g (Enter p) ++ (flat_map (λ q. flat_map g (turns s q)) (child_pats_of s p) ++ g (Leave p))
  gives {A} g p =
      let inner = flat_map-append g (flat_map (turns s) (child_pats_of s p)) (Leave p ∷ []) in
      let children = ap (λ (t : List A). t ++ (g (Leave p) ++ [])) (flat_map-twice g (turns s) (child_pats_of s p)) in
      let own = ap (λ (t : List A). flat_map (λ q. flat_map g (turns s q)) (child_pats_of s p) ++ t) (append-nil (g (Leave p))) in
      ap (flat_map g) (turns_is p) ∙ ap (λ (t : List A). g (Enter p) ++ t) (inner ∙ children ∙ own)

  pats_given : (d p : ℕ) → p < length s.pats → rank s (node.Pat p) < d → flat_map entered_pat (turns s p) ≡ pats s p
  pats_given zero p h lt = absurd (omega arith)
  pats_given (suc d) p h lt =
      let children = same_each (IsBelow s p) (λ q. flat_map entered_pat (turns s q)) (pats s) (child_pats_of s p) (pats_below s fall p h) (λ q b. let low = b.lower in pats_given d q b.in_range (omega arith)) in
      gives entered_pat p ∙ ap (λ t. p ∷ t ++ []) children ∙ ap (λ t. p ∷ t) (append-nil (flat_map (pats s) (child_pats_of s p))) ∙ sym (pats_unfold s fall p h)

  pub pats_of_turns : (p : ℕ) → p < length s.pats → flat_map entered_pat (turns s p) ≡ pats s p
  pats_of_turns p h = pats_given (suc (rank s (node.Pat p))) p h (omega arith)

  pub bindings_of_turns : (p : ℕ) → p < length s.pats → flat_map (λ t. flat_map (bindings_at s) (entered_pat t)) (turns s p) ≡ bindings_in s p
  bindings_of_turns p h = sym (flat_map-twice (bindings_at s) entered_pat (turns s p)) ∙ ap (flat_map (bindings_at s)) (pats_of_turns p h)

  exprs_given : (d p : ℕ) → p < length s.pats → rank s (node.Pat p) < d → flat_map (exprs_left s) (turns s p) ≡ exprs_in s p
  exprs_given zero p h lt = absurd (omega arith)
  exprs_given (suc d) p h lt =
      let children = same_each (IsBelow s p) (λ q. flat_map (exprs_left s) (turns s q)) (exprs_in s) (child_pats_of s p) (pats_below s fall p h) (λ q b. let low = b.lower in exprs_given d q b.in_range (omega arith)) in
      gives (exprs_left s) p ∙ ap (λ t. t ++ exprs_left s (Leave p)) children ∙ sym (exprs_in_parted s fall p h)

  pub exprs_of_turns : (p : ℕ) → p < length s.pats → flat_map (exprs_left s) (turns s p) ≡ exprs_in s p
  exprs_of_turns p h = exprs_given (suc (rank s (node.Pat p))) p h (omega arith)

  module _ (top : ℕ) (here : top < length s.pats) where
    child_below : (m k : ℕ) (front more : List ℕ) → m < length s.pats → child_pats_of s m ≡ front ++ k ∷ more → IsBelow s m k
    child_below m k front more h is = at_split (IsBelow s m) front k more (subst (λ (ks : List ℕ). AllByRecursion (IsBelow s m) ks) is (pats_below s fall m h))

    after_in_range : {p : ℕ} {rest : List Turn} → AfterLeave s top p rest → p < length s.pats
    after_in_range at_top = here
    after_in_range (below m k front more rest h is a) = (child_below m k front more h is).in_range

    after_low : {p : ℕ} {rest : List Turn} → AfterLeave s top p rest → rank s (node.Pat p) ≤ rank s (node.Pat top)
    after_low at_top = omega arith
    after_low (below m k front more rest h is a) = let low = (child_below m k front more h is).lower in let up = after_low a in omega arith

    pub behind_in_range : (t : Turn) (rest : List Turn) → Behind s top t rest → pat_of t < length s.pats
    behind_in_range (Enter p) rest b = after_in_range b.1
    behind_in_range (Leave p) rest b = after_in_range b

    -- the turns of a pattern and those after it begin with its entering
    enters : (q : ℕ) (after : List Turn) → AfterLeave s top q after → Follows s top (turns s q ++ after) (Some (Enter q))
    enters q after a = (
      flat_map (turns s) (child_pats_of s q) ++ Leave q ∷ after,
      ap (λ t. t ++ after) (turns_is q) ∙ ap (λ t. Enter q ∷ t) (append_assoc (flat_map (turns s) (child_pats_of s q)) (Leave q ∷ []) after),
      (after, a, refl),
    )

    within : (p : ℕ) (children : List ℕ) → child_pats_of s p ≡ children → (after : List Turn) → AfterLeave s top p after
        → Follows s top (flat_map (turns s) children ++ Leave p ∷ after) (Some (turn_within p children))
    within p [] is after a = (after, refl, a)
    within p (k ∷ more) is after a =
        subst (λ (r : List Turn). Follows s top r (Some (Enter k))) (sym (append_assoc (turns s k) (flat_map (turns s) more) (Leave p ∷ after)))
        (enters k (flat_map (turns s) more ++ Leave p ∷ after) (below p k [] more after (after_in_range a) is a))

    module _ (links : List PatLink) (known : HasPatLinks s.pats links) where
      by_link : (m k : ℕ) (front more : List ℕ) (rest : List Turn) → m < length s.pats → child_pats_of s m ≡ front ++ k ∷ more → AfterLeave s top m rest → AreLinked links m (k ∷ more)
          → Follows s top (flat_map (turns s) more ++ Leave m ∷ rest) (turn_by (link_at links k))
      by_link m k front [] rest h is a l = rw l (rest, refl, a)
      by_link m k front (q ∷ more) rest h is a l =
          rw l.0
          (subst (λ (r : List Turn). Follows s top r (Some (Enter q))) (sym (append_assoc (turns s q) (flat_map (turns s) more) (Leave m ∷ rest)))
          (enters q (flat_map (turns s) more ++ Leave m ∷ rest) (below m q (front ++ k ∷ []) more rest h (is ∙ sym (append_assoc front (k ∷ []) (q ∷ more))) a)))

      leaves : {p : ℕ} {rest : List Turn} → AfterLeave s top p rest → Follows s top rest (cond (eqb p top) None (turn_by (link_at links p)))
      leaves at_top = rw (eq-eqb top top refl) refl
      leaves (below m k front more rest h is a) =
          let low = (child_below m k front more h is).lower in
          let up = after_low a in
          let other : eqb k top ≡ false = false_from_ne_true (eqb k top) (λ e. let same = ap (λ (n : ℕ). rank s (node.Pat n)) (eqb-true k top e) in omega arith) in
          rw other (by_link m k front more rest h is a (linked_on links m k front more (subst (λ (ks : List ℕ). AreLinked links m ks) is (known.children m h))))

      -- the turn that the links lead to is the next one
      pub follows : (t : Turn) (rest : List Turn) → Behind s top t rest → Follows s top rest (turn_after s links top t)
      follows (Enter p) rest b = subst (λ (r : List Turn). Follows s top r (Some (turn_within p (child_pats_of s p)))) (sym b.2) (within p (child_pats_of s p) refl b.0 b.1)
      follows (Leave p) rest b = leaves b

      steps_next : (d : ℕ) → ((t : Turn) (rest : List Turn) → length rest ≤ d → Behind s top t rest → steps s links top d t ≡ length rest)
          → (o : Option Turn) (rest : List Turn) → length rest ≤ suc d → Follows s top rest o → steps_step (steps s links top d) o ≡ length rest
      steps_next d ih None rest le f = sym (ap length f)
      steps_next d ih (Some t) rest le f =
          let len : length rest ≡ suc (length f.0) = ap length f.1 in
          ap suc (ih t f.0 (omega arith) f.2) ∙ sym len

      -- the steps that the links lead are as many as the turns that come after
      pub steps_is : (d : ℕ) (t : Turn) (rest : List Turn) → length rest ≤ d → Behind s top t rest → steps s links top d t ≡ length rest
      steps_is zero t rest le b = omega arith
      steps_is (suc d) t rest le b = steps_next d (steps_is d) (turn_after s links top t) rest le (follows t rest b)
