-- Text and layout, of which printed text is made.
use Rattle.std.specs.Prelude.{ℕ, List}

-- text, by its bytes; a space, unless there is one or a line begins; the end of a line, unless the line is
-- blank; a level more, and a break; a level less, and no empty last lines
pub data Layout : Type 0 where
  Text : List ℕ → Layout
  SoftSpace : Layout
  Break : Layout
  Indent : Layout
  Outdent : Layout
