-- What a line reader is modelled as.
use Rattle.std.specs.Prelude.{ℕ, Bool, List}

-- the line taken last, the bytes that were read and not yet taken, whether the end of the input was reached,
-- and how many lines were taken
pub record LineState : Type 0 where
  pub line : List ℕ
  pub pending : List ℕ
  pub at_end : Bool
  pub count : ℕ
