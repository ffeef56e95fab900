-- These goals close with no answer too, in several times the time.
use Rattle.std.proofs.Common.{rules}
use Rattle.hir_node.proofs.type_ref.TypeRefClone.clone.Goals as goal

pub returns-in-Never : goal.returns-in-Never
returns-in-Never c = search rules

pub returns-in-Placeholder : goal.returns-in-Placeholder
returns-in-Placeholder c = search rules

pub returns-in-Error : goal.returns-in-Error
returns-in-Error c = search rules

pub returns-in-RawPtr : goal.returns-in-RawPtr
returns-in-RawPtr c = search rules

pub returns-in-Slice : goal.returns-in-Slice
returns-in-Slice c = search rules

pub returns-in-TypeParam : goal.returns-in-TypeParam
returns-in-TypeParam c = search rules

pub returns-in-PatternType : goal.returns-in-PatternType
returns-in-PatternType c = search rules

pub returns-in_ok-try_clone-in-Tuple : goal.returns-in_ok-try_clone-in-Tuple
returns-in_ok-try_clone-in-Tuple c = search rules

pub returns-in_ok-try_clone-in-Path : goal.returns-in_ok-try_clone-in-Path
returns-in_ok-try_clone-in-Path c = search rules

pub returns-in_ok-try_clone-in-Reference : goal.returns-in_ok-try_clone-in-Reference
returns-in_ok-try_clone-in-Reference c = search rules

pub returns-in_ok-try_clone-in-Array : goal.returns-in_ok-try_clone-in-Array
returns-in_ok-try_clone-in-Array c = search rules

pub returns-in_ok-try_clone-in-Fn : goal.returns-in_ok-try_clone-in-Fn
returns-in_ok-try_clone-in-Fn c = search rules

pub returns-in_ok-try_clone-in-ImplTrait : goal.returns-in_ok-try_clone-in-ImplTrait
returns-in_ok-try_clone-in-ImplTrait c = search rules

pub returns-in_ok-try_clone-in-DynTrait : goal.returns-in_ok-try_clone-in-DynTrait
returns-in_ok-try_clone-in-DynTrait c = search rules
