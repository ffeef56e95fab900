-- Defines when the comparisons of a type and its hashes agree.
use Rattle.std.specs.Prelude.{◌≡◌, ◌↔◌, ℕ, List, Bool, IsTrue}
use Rattle.std.specs.declared.cmp.Ordering.{Ordering}
use Rattle.std.specs.declared.cmp.Ordering.TheVariants.{Equal}

-- two values are equal exactly if they are the same, exactly if neither is greater, and then they write the
-- same into a hash
pub record OrderAgrees {X : Type 0} (eq : X → X → Bool) (cmp : X → X → Ordering) (hash_input : X
    → List (List ℕ)) : Type 0 where
  pub same : (x y : X) → IsTrue (eq x y) ↔ (x ≡ y)
  pub order : (x y : X) → IsTrue (eq x y) ↔ (cmp x y ≡ Equal)
  pub hash : (x y : X) → IsTrue (eq x y) → hash_input x ≡ hash_input y
