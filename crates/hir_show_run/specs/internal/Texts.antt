-- Beside Texts.antt: what only contracts within this crate cite.
use Rattle.hir_show_run.specs.Prelude.{ℕ, List, Option, Result, Ok, Err, Appends, AppendsPrefix}

-- all of the text was written, or a prefix of it where a write failed
abbrev pub WritesText : {X E : Type 0} → Option (List ℕ) → Option (List ℕ) → List ℕ → Result X E → Type 0
WritesText old new text (Ok done) = Appends old new text
WritesText old new text (Err e) = AppendsPrefix old new text
