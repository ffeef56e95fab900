-- What is written about the end of a run: the text of each fault.
use Rattle.std.specs.Prelude.{◌∷◌, ◌++◌}
use Rattle.hir_show_run.specs.Prelude.{ℕ, List, [], Option, Some, Result, Ok, Err, codes, decimal, option_append, NodeId, FinishFault, body_fault_text}
use Rattle.hir_node.specs.declared.node_id.NodeId.TheVariants as node
use Rattle.hir_validate.specs.declared.fault.FinishFault.TheVariants as finish
use Rattle.hir_validate.specs.contracts.fault.FinishFaultDisplay.TheImpl as finish_fault
use Rattle.hir_show_run.specs.declared.fault.RunFault.{RunFault}
use Rattle.hir_show_run.specs.declared.fault.RunFault.TheVariants.{BadLine, Refused, BodyRefused, InputFailed, OutputFailed, OutOfMemory}

-- the kind of an id and its number
abbrev pub node_text : NodeId → List ℕ
node_text (node.Expr id) = codes "ExprId(" ++ decimal id ++ codes ")"
node_text (node.Pat id) = codes "PatId(" ++ decimal id ++ codes ")"
node_text (node.TypeRef id) = codes "TypeRefId(" ++ decimal id ++ codes ")"

-- the name of the fault and, after a space, the node or the index
abbrev pub finish_fault_text : FinishFault → List ℕ
finish_fault_text finish.NoRoots = codes "NoRoots"
finish_fault_text (finish.IdOutOfRange id) = codes "IdOutOfRange " ++ node_text id
finish_fault_text (finish.NotAPath id) = codes "NotAPath " ++ node_text id
finish_fault_text (finish.NoReturnType id) = codes "NoReturnType " ++ node_text id
finish_fault_text (finish.NoSelfArgument id) = codes "NoSelfArgument " ++ node_text id
finish_fault_text (finish.ArgumentLists id) = codes "ArgumentLists " ++ node_text id
finish_fault_text (finish.SharedChild id) = codes "SharedChild " ++ node_text id
finish_fault_text (finish.Cycle id) = codes "Cycle " ++ node_text id
finish_fault_text (finish.RootOutOfRange index) = codes "RootOutOfRange " ++ decimal index
finish_fault_text (finish.RootRepeated index) = codes "RootRepeated " ++ decimal index
finish_fault_text (finish.RootUnderRoot index) = codes "RootUnderRoot " ++ decimal index
finish_fault_text (finish.RootEnds index) = codes "RootEnds " ++ decimal index
finish_fault_text finish.Memory = codes "Memory"

abbrev pub fault_text : RunFault → List ℕ
fault_text (BadLine number) = codes "bad line " ++ decimal number
fault_text (Refused fault) = codes "refused " ++ finish_fault_text fault
fault_text (BodyRefused fault) = codes "refused " ++ body_fault_text fault
fault_text InputFailed = codes "input failed"
fault_text OutputFailed = codes "output failed"
fault_text OutOfMemory = codes "out of memory"

-- the text that `{}` writes: that of a refusal is stated as far as the text of its fault is
abbrev pub display_text : RunFault → Option (List ℕ)
display_text (BadLine number) = Some (fault_text (BadLine number))
display_text (Refused fault) = option_append (Some (codes "refused ")) (finish_fault.ghosts.output fault)
display_text (BodyRefused fault) = Some (fault_text (BodyRefused fault))
display_text InputFailed = Some (fault_text InputFailed)
display_text OutputFailed = Some (fault_text OutputFailed)
display_text OutOfMemory = Some (fault_text OutOfMemory)

-- what is written of an outcome: nothing of a good one, and of a fault its text and a line end
abbrev pub text_of : Result (Unit {0}) RunFault → List ℕ
text_of (Ok done) = []
text_of (Err fault) = fault_text fault ++ 10 ∷ []
