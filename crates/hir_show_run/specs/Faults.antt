-- Why a run ends where a part of it fails, and its exit status.
use Rattle.hir_show_run.specs.Prelude.{ℕ, Result, Ok, Err, LineFault, FinishFault, BodyFault}
use Rattle.hir_show_io.specs.declared.next.LineFault.TheVariants as line
use Rattle.hir_validate.specs.declared.fault.FinishFault.TheVariants as finish
use Rattle.hir_body.specs.declared.body_fault.BodyFault.TheVariants as body
use Rattle.hir_show_run.specs.declared.fault.RunFault.{RunFault}
use Rattle.hir_show_run.specs.declared.fault.RunFault.TheVariants.{BadLine, Refused, BodyRefused, InputFailed, OutputFailed, OutOfMemory}

-- the fault of a run in which a line can't be read
abbrev pub fault_of_line : LineFault → RunFault
fault_of_line line.OutOfMemory = OutOfMemory
fault_of_line line.InputFailed = InputFailed
fault_of_line line.OutputFailed = OutputFailed

-- the fault of a run whose builder has this fault
abbrev pub fault_of_finish : FinishFault → RunFault
fault_of_finish finish.Memory = OutOfMemory
fault_of_finish finish.NoRoots = Refused finish.NoRoots
fault_of_finish (finish.IdOutOfRange node) = Refused (finish.IdOutOfRange node)
fault_of_finish (finish.NotAPath node) = Refused (finish.NotAPath node)
fault_of_finish (finish.NoReturnType node) = Refused (finish.NoReturnType node)
fault_of_finish (finish.NoSelfArgument node) = Refused (finish.NoSelfArgument node)
fault_of_finish (finish.ArgumentLists node) = Refused (finish.ArgumentLists node)
fault_of_finish (finish.SharedChild node) = Refused (finish.SharedChild node)
fault_of_finish (finish.Cycle node) = Refused (finish.Cycle node)
fault_of_finish (finish.RootOutOfRange index) = Refused (finish.RootOutOfRange index)
fault_of_finish (finish.RootRepeated index) = Refused (finish.RootRepeated index)
fault_of_finish (finish.RootUnderRoot index) = Refused (finish.RootUnderRoot index)
fault_of_finish (finish.RootEnds index) = Refused (finish.RootEnds index)

-- the fault of a run whose body has this fault
abbrev pub fault_of_body : BodyFault → RunFault
fault_of_body body.Memory = OutOfMemory
fault_of_body body.NoRoot = BodyRefused body.NoRoot
fault_of_body body.SelfOutOfRange = BodyRefused body.SelfOutOfRange
fault_of_body (body.ParamOutOfRange index) = BodyRefused (body.ParamOutOfRange index)
fault_of_body (body.ParamRepeated index) = BodyRefused (body.ParamRepeated index)
fault_of_body (body.ParamUnder index) = BodyRefused (body.ParamUnder index)
fault_of_body body.RootInParam = BodyRefused body.RootInParam

-- the exit status
abbrev pub status_of : Result (Unit {0}) RunFault → ℕ
status_of (Ok done) = 0
status_of (Err (BadLine number)) = 1
status_of (Err (Refused fault)) = 2
status_of (Err (BodyRefused fault)) = 2
status_of (Err InputFailed) = 3
status_of (Err OutputFailed) = 3
status_of (Err OutOfMemory) = 4
