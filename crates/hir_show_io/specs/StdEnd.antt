-- What the result of one call of a std reader or writer says, and what a failed read leaves.
use Rattle.std.specs.Prelude.{◌≡◌, ◌≢◌, ℕ, ◌<◌, ◌≤◌, Bool, cond, List, length, Option, None, Some, Result, Ok, Err}
use Rattle.std.specs.IoError.{error_kind}
use Rattle.std.specs.declared.io.Error.{Error}
use Rattle.std.specs.declared.io.ErrorKind.TheVariants.{Interrupted}
use Rattle.hir_show_io.specs.declared.std_end.Attempt.{Attempt}
use Rattle.hir_show_io.specs.declared.std_end.Attempt.TheVariants.{Done, Again, Failed, Overrun}

-- a read that took no more than may still be read is done, and an overrun is one that took more; one that was
-- interrupted is retried
abbrev pub ReadMeans : Result ℕ Error → ℕ → Attempt → Type 0
ReadMeans (Ok n) left (Done count) = (count ≡ n) × (n ≤ left)
ReadMeans (Ok n) left Again = ⊥
ReadMeans (Ok n) left Failed = ⊥
ReadMeans (Ok n) left Overrun = left < n
ReadMeans (Err e) left (Done count) = ⊥
ReadMeans (Err e) left Again = error_kind e ≡ Interrupted
ReadMeans (Err e) left Failed = error_kind e ≢ Interrupted
ReadMeans (Err e) left Overrun = ⊥

-- a write that took some of the bytes asked, if there are any, is done; one that was interrupted is retried
abbrev pub WriteMeans : Result ℕ Error → ℕ → Attempt → Type 0
WriteMeans (Ok n) asked (Done count) = (count ≡ n) × (0 < asked → 0 < n)
WriteMeans (Ok n) asked Again = ⊥
WriteMeans (Ok n) asked Failed = (n ≡ 0) × (0 < asked)
WriteMeans (Ok n) asked Overrun = ⊥
WriteMeans (Err e) asked (Done count) = ⊥
WriteMeans (Err e) asked Again = error_kind e ≡ Interrupted
WriteMeans (Err e) asked Failed = error_kind e ≢ Interrupted
WriteMeans (Err e) asked Overrun = ⊥

-- the bytes that a reader has left, as its source shows them: none any more after an overrun, which lost some
abbrev pub unless_overrun : Bool → Option (List ℕ) → Option (List ℕ)
unless_overrun has_overrun known = cond has_overrun None known

-- what a failed read leaves: the shown bytes as they were. They are no longer shown only if they were more
-- than may be read
abbrev pub IsKeptWithin : ℕ → Option (List ℕ) → Option (List ℕ) → Type 0
IsKeptWithin left None new = Unit {0}
IsKeptWithin left (Some xs) None = left < length xs
IsKeptWithin left (Some xs) (Some ys) = ys ≡ xs
