-- What steps over layouts make of a value, by any step.
use Rattle.std.specs.Prelude.{◌≡◌, List, [], ◌∷◌, ◌++◌}
use Rattle.hir_pretty_layout.specs.Layouts.{Layout}

-- the value after a step for each layout, in order
abbrev pub steps : {W : Type 0} → (Layout → W → W) → List Layout → W → W
steps step [] value = value
steps step (p ∷ ps) value = steps step ps (step p value)

-- Writing stops at a layout for which an allocation fails: those before it were written, and nothing is
-- written after that.
pub record StopsIn {W : Type 0} (step : Layout → W → W) (refuses : Layout → W → W → Type 0)
    (pieces : List Layout) (old new : W) : Type 0 where
  pub before : List Layout
  pub refused : Layout
  pub after : List Layout
  pub parts : pieces ≡ before ++ (refused ∷ after)
  pub value : refuses refused (steps step before old) new
