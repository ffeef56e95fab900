-- Beside Tries.antt: what only contracts within this crate cite.
use Rattle.std.specs.Prelude.{◌≡◌, List, Result, Ok, Err}
use Rattle.hir_store_core.specs.Tries.{Tries}

-- what holds where items are tried after a result: a refusal stays, and nothing is tried
abbrev pub TriesAfter : {P A E : Type 0} → (P → A → Result (Unit {0}) E → P → Type 0) → Result (Unit {0}) E
    → P → List A → Result (Unit {0}) E → P → Type 0
TriesAfter step (Ok done) p xs r q = Tries step p xs r q
TriesAfter step (Err e) p xs r q = (r ≡ Err e) × (q ≡ p)
