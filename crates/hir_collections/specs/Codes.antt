-- Proves that equality of keys decides equality of their codes: of a number, of a code that begins with one,
-- and of any code from which the key can be read back.
use Rattle.std.proofs.Common.{◌≡◌, ℕ, List, [], ◌∷◌, Bool, ◌&&◌, ◌==◌, ap, sym, ◌∙◌, Decides}
use Rattle.std.specs.Prelude.{Option, Some}
use Rattle.std.specs.Cmp.{unsigned_Decides, first_so, second_so}

-- equality of two numbers decides equality of their codes
pub number_tells : (x y : ℕ) → Decides (x == y) (x ∷ [] ≡ y ∷ [])
number_tells x y = (λ h i. (unsigned_Decides x y).0 h i ∷ [], λ e. (unsigned_Decides x y).1 (cc))

-- equality of two codes that begin with a number is decided by the numbers and the rests
pub cons_tells : (a b : Bool) (n m : ℕ) (xs ys : List ℕ) → Decides a (n ≡ m) → Decides b (xs ≡ ys)
    → Decides (a && b) (n ∷ xs ≡ m ∷ ys)
cons_tells a b n m xs ys first rest = (
  λ h.
      let head = first.0 (first_so _ _ h) in
      let tail = rest.0 (second_so _ _ h) in
      λ i. head i ∷ tail i,
  λ e.
      let head = first.1 (cc) in
      let tail = rest.1 (cc) in
      rw (head, tail),
)

same_value : {X : Type 0} (x y : X) → Some x ≡ Some y → x ≡ y
same_value x y e = cc

-- equality of keys decides equality of their codes, if the key can be read back from its code
pub read_back_tells : {X : Type 0} (code : X → List ℕ) (back : List ℕ → Option X)
    → ((x : X) → back (code x) ≡ Some x) → (b : Bool) (x y : X) → Decides b (x ≡ y)
    → Decides b (code x ≡ code y)
read_back_tells code back reads b x y same = (
  λ h. ap code (same.0 h),
  λ e.
      same.1 (same_value x y (sym (reads x) ∙ ap back e ∙ reads y)),
)
