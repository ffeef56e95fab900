-- Defines the error that a refused builder turns into.
use Rattle.hir_error.specs.Prelude.{Option, Some, None, NodeId, FinishFault, Nodes}
use Rattle.hir_validate.specs.declared.fault.FinishFault.TheVariants as finish
use Rattle.hir_error.specs.declared.named_id.NamedId.{NamedId}
use Rattle.hir_error.specs.declared.error.HirError.{HirError}
use Rattle.hir_error.specs.declared.error.HirError.TheVariants as error
use Rattle.hir_error.specs.NamedIds.{missing_id}

-- the error of a node that names an id that doesn't exist: with that id, where it is found
abbrev pub out_of_range : NodeId → Option NamedId → HirError
out_of_range node None = error.Store (finish.IdOutOfRange node)
out_of_range node (Some named) = error.IdOutOfRange node named

-- the error that a builder with these nodes and this fault turns into: of `IdOutOfRange` it has the id of the
-- node that doesn't exist, and of any other fault it is the fault
abbrev pub store_error : Nodes → FinishFault → HirError
store_error s (finish.IdOutOfRange node) = out_of_range node (missing_id s node)
store_error s finish.NoRoots = error.Store finish.NoRoots
store_error s (finish.NotAPath node) = error.Store (finish.NotAPath node)
store_error s (finish.NoReturnType node) = error.Store (finish.NoReturnType node)
store_error s (finish.NoSelfArgument node) = error.Store (finish.NoSelfArgument node)
store_error s (finish.ArgumentLists node) = error.Store (finish.ArgumentLists node)
store_error s (finish.SharedChild node) = error.Store (finish.SharedChild node)
store_error s (finish.Cycle node) = error.Store (finish.Cycle node)
store_error s (finish.RootOutOfRange i) = error.Store (finish.RootOutOfRange i)
store_error s (finish.RootRepeated i) = error.Store (finish.RootRepeated i)
store_error s (finish.RootUnderRoot i) = error.Store (finish.RootUnderRoot i)
store_error s (finish.RootEnds i) = error.Store (finish.RootEnds i)
store_error s finish.Memory = error.Store finish.Memory
