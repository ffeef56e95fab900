-- Defines runs of calls, in which each call changes a value by a stated step.
use Rattle.std.specs.Prelude.{List, [], ◌∷◌}

-- the first value leads to the last by the steps of the calls, one after the other
pub data Runs {V C : Type 0} (step : V → C → V → Type 0) : V → List C → V → Type 0 where
  no_call : {v : V} → Runs step v [] v
  a_call : {u v w : V} {c : C} {cs : List C} → step u c v → Runs step v cs w → Runs step u (c ∷ cs) w

-- each call may be made, for all values that the steps of the calls before it allow
pub data MayRun {V C : Type 0} (may : V → C → Type 0) (step : V → C → V → Type 0) : V → List C → Type 0 where
  at_end : {v : V} → MayRun may step v []
  at_call : {v : V} {c : C} {cs : List C} → may v c → ((w : V) → step v c w → MayRun may step w cs)
      → MayRun may step v (c ∷ cs)
