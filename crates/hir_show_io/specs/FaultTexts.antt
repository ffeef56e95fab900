-- The text of each fault of this crate.
use Rattle.std.specs.Prelude.{ℕ, List, codes}
use Rattle.hir_show_io.specs.declared.lines.FillFault.{FillFault}
use Rattle.hir_show_io.specs.declared.lines.FillFault.TheVariants as fill
use Rattle.hir_show_io.specs.declared.next.LineFault.{LineFault}
use Rattle.hir_show_io.specs.declared.next.LineFault.TheVariants as line

abbrev pub end_failed_text : List ℕ
end_failed_text = codes "EndFailed"

abbrev pub fill_fault_text : FillFault → List ℕ
fill_fault_text fill.OutOfMemory = codes "OutOfMemory"
fill_fault_text fill.InputFailed = codes "InputFailed"

abbrev pub line_fault_text : LineFault → List ℕ
line_fault_text line.OutOfMemory = codes "OutOfMemory"
line_fault_text line.InputFailed = codes "InputFailed"
line_fault_text line.OutputFailed = codes "OutputFailed"
