-- Defines lists without their last members, and the last member.
use Rattle.std.specs.Prelude.{ℕ, ◌-◌, List, length, take, slice_get, Option}

-- all members but the last n
abbrev pub all_but : {X : Type 0} → ℕ → List X → List X
all_but n xs = take (length xs - n) xs

-- the last member, if there is one
abbrev pub last_of : {X : Type 0} → List X → Option X
last_of xs = slice_get xs (length xs - 1)
