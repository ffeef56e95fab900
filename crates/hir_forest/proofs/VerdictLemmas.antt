-- Verdicts that change with their conditions, and verdicts that hold of one result alone.
use Rattle.std.proofs.Common.{◌≡◌, ℕ, ◌<◌, ◌↔◌, Option, Some, None, inl, inr, ⊎_elim, arith, refl, ap, sym, subst, ◌∙◌}
use Rattle.std.proofs.lemmas.Bool.{cases_order}
use Rattle.hir_forest.specs.Verdict.{◌unless◌, ◌before◌, first_below, in_words}

pub unless-same : {F : Type 0} (f : F) (P Q : Type 0) → P ↔ Q → (a : Option F) → (f unless P) a → (f unless Q) a
unless-same f P Q e None h = e.0 h
unless-same f P Q e (Some g) h = (h.0, λ q. h.1 (e.1 q))

pub first_below-same : {F : Type 0} (n : ℕ) (v w : ℕ → Option F → Type 0) → ((i : ℕ) → i < n → (a : Option F) → v i a → w i a) → (a : Option F) → first_below n v a → first_below n w a
first_below-same n v w t None h = λ i b. t i b None (h i b)
first_below-same n v w t (Some f) h = (h.0, h.1, t h.0 h.1 (Some f) h.2, λ j b. t j (omega (arith, h.1)) None (h.3 j b))

-- what comes second may rest on that the first finds nothing
pub before-same : {F : Type 0} (v w x : Option F → Type 0) → (v None → (a : Option F) → w a → x a) → (a : Option F) → (v before w) a → (v before x) a
before-same v w x t None h = (h.0, t h.0 None h.1)
before-same v w x t (Some f) h = ⊎_elim inl (λ k. inr (k.0, t k.0 (Some f) k.1)) h

pub before-first : {F : Type 0} (v w x : Option F → Type 0) → ((a : Option F) → v a → w a) → (a : Option F) → (v before x) a → (w before x) a
before-first v w x t None h = (t None h.0, h.1)
before-first v w x t (Some f) h = ⊎_elim (λ k. inl (t (Some f) k)) (λ k. inr (t None k.0, k.1)) h

pub before-second : {F : Type 0} (v w : Option F → Type 0) → v None → (a : Option F) → w a → (v before w) a
before-second v w n None h = (n, h)
before-second v w n (Some f) h = inr (n, h)

-- a verdict holds of at most one result
abbrev pub IsOne : {F : Type 0} → (Option F → Type 0) → Type 0
IsOne v = (a b : Option _) → v a → v b → a ≡ b

clash : {F : Type 0} (f : F) (P : Type 0) → None ≡ Some f → P
clash f P e = absurd (let h : ⊥ = cc in h)

pub unless-one : {F : Type 0} (f : F) (P : Type 0) → IsOne (f unless P)
unless-one f P None None h k = refl
unless-one f P None (Some g) h k = absurd (k.1 h)
unless-one f P (Some g) None h k = absurd (h.1 k)
unless-one f P (Some g) (Some i) h k = ap Some (h.0 ∙ sym k.0)

pub before-one : {F : Type 0} (v w : Option F → Type 0) → IsOne v → IsOne w → IsOne (v before w)
before-one v w a b None None h k = refl
before-one v w a b None (Some g) h k = ⊎_elim (λ x. a None (Some g) h.0 x) (λ x. b None (Some g) h.1 x.1) k
before-one v w a b (Some f) None h k = ⊎_elim (λ x. a (Some f) None x k.0) (λ x. b (Some f) None x.1 k.1) h
before-one v w a b (Some f) (Some g) h k =
    ⊎_elim
    (λ x. ⊎_elim (λ y. a (Some f) (Some g) x y) (λ y. clash f (Some f ≡ Some g) (a None (Some f) y.0 x)) k)
    (λ x. ⊎_elim (λ y. clash g (Some f ≡ Some g) (a None (Some g) x.0 y)) (λ y. b (Some f) (Some g) x.1 y.1) k)
    h

pub first_below-one : {F : Type 0} (n : ℕ) (v : ℕ → Option F → Type 0) → ((i : ℕ) → IsOne (v i)) → IsOne (first_below n v)
first_below-one n v o None None h k = refl
first_below-one n v o None (Some g) h k = o k.0 None (Some g) (h k.0 k.1) k.2
first_below-one n v o (Some f) None h k = o h.0 (Some f) None h.2 (k h.0 h.1)
first_below-one n v o (Some f) (Some g) h k =
    ⊎_elim
    (λ e. o k.0 (Some f) (Some g) (subst (λ (i : ℕ). v i (Some f)) e h.2) k.2)
    (λ c. ⊎_elim
    (λ l. clash f (Some f ≡ Some g) (o h.0 None (Some f) (k.3 h.0 l) h.2))
    (λ l. clash g (Some f ≡ Some g) (o k.0 None (Some g) (h.3 k.0 l) k.2))
    c)
    (cases_order h.0 k.0)

pub in_words-one : {F G : Type 0} (word : F → G) (v : Option F → Type 0) → IsOne v → IsOne (in_words word v)
in_words-one word v o None None h k = refl
in_words-one word v o None (Some g) h k = clash k.0 (None ≡ Some g) (o None (Some k.0) h k.2)
in_words-one word v o (Some f) None h k = clash h.0 (Some f ≡ None) (o None (Some h.0) k h.2)
in_words-one word v o (Some f) (Some g) h k =
    let e : h.0 ≡ k.0 = (let q = o (Some h.0) (Some k.0) h.2 k.2 in cc) in
    ap Some (h.1 ∙ ap word e ∙ sym k.1)
