-- What is true at the end of a part of a run, by how it ends.
use Rattle.std.specs.Prelude.{ℕ, Bool, true, false, Result, Ok, Err}
use Rattle.hir_show_run.specs.declared.fault.RunFault.{RunFault}
use Rattle.hir_show_run.specs.declared.fault.RunFault.TheVariants.{BadLine, Refused, BodyRefused, InputFailed, OutputFailed, OutOfMemory}

-- one fact for each outcome: it is done, a line is bad, what was made is refused, a read or a write failed,
-- an allocation failed
abbrev pub Outcomes : {X : Type 0} → (X → Type 0) → (ℕ → Type 0) → (RunFault → Type 0) → Type 0 → Type 0
    → Type 0 →
    Result X RunFault → Type 0
Outcomes done bad refused input output memory (Ok x) = done x
Outcomes done bad refused input output memory (Err (BadLine number)) = bad number
Outcomes done bad refused input output memory (Err (Refused fault)) = refused (Refused fault)
Outcomes done bad refused input output memory (Err (BodyRefused fault)) = refused (BodyRefused fault)
Outcomes done bad refused input output memory (Err InputFailed) = input
Outcomes done bad refused input output memory (Err OutputFailed) = output
Outcomes done bad refused input output memory (Err OutOfMemory) = memory

abbrev pub is_input_failed : {X : Type 0} → Result X RunFault → Bool
is_input_failed (Ok x) = false
is_input_failed (Err (BadLine number)) = false
is_input_failed (Err (Refused fault)) = false
is_input_failed (Err (BodyRefused fault)) = false
is_input_failed (Err InputFailed) = true
is_input_failed (Err OutputFailed) = false
is_input_failed (Err OutOfMemory) = false

abbrev pub is_output_failed : {X : Type 0} → Result X RunFault → Bool
is_output_failed (Ok x) = false
is_output_failed (Err (BadLine number)) = false
is_output_failed (Err (Refused fault)) = false
is_output_failed (Err (BodyRefused fault)) = false
is_output_failed (Err InputFailed) = false
is_output_failed (Err OutputFailed) = true
is_output_failed (Err OutOfMemory) = false
