-- That a test of two fields, one after the other, decides what the two decide together.
use Rattle.std.specs.Prelude.{Bool, ◌&&◌}
use Rattle.std.specs.Bool.{Decides}
use Rattle.std.specs.Cmp.{first_so, second_so}

pub and_decides : {P Q R : Type 0} (a b : Bool) → Decides a P → Decides b Q → (P → Q → R) → (R → P) → (R → Q)
    → Decides (a && b) R
and_decides a b p q join left right = (
  λ h. join (p.0 (first_so a b h)) (q.0 (second_so a b h)),
  λ r. let at_a = p.1 (left r) in let at_b = q.1 (right r) in rw (at_a, at_b),
)

-- two fields, with no other condition
pub both : {P Q : Type 0} (a b : Bool) → Decides a P → Decides b Q → Decides (a && b) (P × Q)
both a b p q = and_decides a b p q (λ x y. (x, y)) (λ r. r.0) (λ r. r.1)
