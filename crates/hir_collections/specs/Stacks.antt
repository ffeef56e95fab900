-- The model of a stack, and what pushing does to it.
use Rattle.std.specs.Prelude.{◌≡◌, Bool, false, List, ◌++◌, reverse}

pub record StackItems (T : Type 0) : Type 0 where
  -- the top first
  pub items : List T
  -- whether an allocation failed: the items say nothing then
  pub refused : Bool

-- these items were pushed, in this order
abbrev pub Defers : {T : Type 0} → StackItems T → List T → StackItems T → Type 0
Defers v xs w = w.refused ≡ false → (v.refused ≡ false) × (w.items ≡ reverse xs ++ v.items)
