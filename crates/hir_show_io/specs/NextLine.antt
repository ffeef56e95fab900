-- What asking for the next line does: to the lines, to the bytes that the source shows, and to the output
-- that waits.
use Rattle.std.specs.Prelude.{◌≡◌, ℕ, Bool, true, false, List, [], ◌++◌, Option, None, Some, Result, Ok, Err, IfSome}
use Rattle.std.specs.Io.KnownBytes.{Appends, IsAtEnd, Keeps}
use Rattle.hir_show_io.specs.declared.next.LineFault.{LineFault}
use Rattle.hir_show_io.specs.declared.next.LineFault.TheVariants.{OutOfMemory, InputFailed, OutputFailed}
use Rattle.hir_show_io.specs.Effects.{AppendsPrefix, IsWrittenUpTo}
use Rattle.hir_show_io.specs.Text.{HasNoLineEnd, TakesLine}
use Rattle.hir_show_io.specs.LineState.{LineState}

-- the bytes that are still to be taken, if shown: those pending, and after them what the source has left,
-- unless its end was reached
abbrev pub bytes_left : List ℕ → Bool → Option (List ℕ) → Option (List ℕ)
bytes_left pending at_end None = None
bytes_left pending true (Some rest) = Some pending
bytes_left pending false (Some rest) = Some (pending ++ rest)

-- the first line was taken from the shown bytes
abbrev pub TakesTold : Option (List ℕ) → Option (List ℕ) → List ℕ → Bool → Type 0
TakesTold None new line at_end = Unit {0}
TakesTold (Some text) None line at_end = ⊥
TakesTold (Some text) (Some rest) line at_end = TakesLine text rest line at_end

-- the shown bytes are the beginning of a line, and those that weren't read
abbrev pub IsBegunLine : Option (List ℕ) → Option (List ℕ) → List ℕ → Type 0
IsBegunLine None remaining begun = Unit {0}
IsBegunLine (Some text) remaining begun =
    (unread : List ℕ) × (text ≡ begun ++ unread) × HasNoLineEnd begun
    × IfSome remaining (λ rest. rest ≡ unread)

-- what becomes of the lines, by the bytes still to be taken before and after, and those that the source has
-- left
abbrev pub NextTakes : Option (List ℕ) → Option (List ℕ) → Option (List ℕ) → LineState → LineState →
    Result Bool LineFault → Type 0
NextTakes known known' remaining old new (Ok true) = TakesTold known known' new.line new.at_end
NextTakes known known' remaining old new (Ok false) =
    IsAtEnd known × IsAtEnd known' × (new.line ≡ []) × (new.pending ≡ []) × (new.at_end ≡ true)
NextTakes known known' remaining old new (Err InputFailed) =
    IsBegunLine known remaining new.pending × (old.at_end ≡ false) × (new.at_end ≡ false)
NextTakes known known' remaining old new (Err OutputFailed) = Keeps known known'
NextTakes known known' remaining old new (Err OutOfMemory) = Keeps known known' × (new.line ≡ [])

-- what becomes of the bytes that the sink has and of those that wait
abbrev pub NextWrites : Option (List ℕ) → Option (List ℕ) → List ℕ → List ℕ → Result Bool LineFault → Type 0
NextWrites contents contents' waiting waiting' (Ok found) = IsWrittenUpTo contents contents' waiting waiting'
NextWrites contents contents' waiting waiting' (Err InputFailed) =
    Appends contents contents' waiting × (waiting' ≡ [])
NextWrites contents contents' waiting waiting' (Err OutputFailed) =
    AppendsPrefix contents contents' waiting × (waiting' ≡ [])
NextWrites contents contents' waiting waiting' (Err OutOfMemory) =
    Appends contents contents' waiting × (waiting' ≡ [])

abbrev pub is_found : Result Bool LineFault → Bool
is_found (Ok found) = found
is_found (Err fault) = false

abbrev pub is_failed_input : Result Bool LineFault → Bool
is_failed_input (Ok found) = false
is_failed_input (Err InputFailed) = true
is_failed_input (Err OutputFailed) = false
is_failed_input (Err OutOfMemory) = false

abbrev pub is_failed_output : Result Bool LineFault → Bool
is_failed_output (Ok found) = false
is_failed_output (Err InputFailed) = false
is_failed_output (Err OutputFailed) = true
is_failed_output (Err OutOfMemory) = false
