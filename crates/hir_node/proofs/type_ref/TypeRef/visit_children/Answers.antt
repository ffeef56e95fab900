use Rattle.hir_node.specs.Runs.{a_call}
use Rattle.hir_node.proofs.RunLemmas.{may_here, may_then, runs_one}
use Rattle.hir_node.proofs.type_ref.TypeRef.visit_children.Goals as goal

pub on_types-requires : goal.on_types-requires
on_types-requires g c = rw c.as_slice.ensures (rw c.in-Tuple.is at c.requires)

pub returns-in-Tuple : goal.returns-in-Tuple
returns-in-Tuple g c = rw c.in-Tuple.is (rw c.as_slice.ensures at c.on_types.ensures)

pub on_path-requires : goal.on_path-requires
on_path-requires g c = rw c.in-Path.is at c.requires

pub returns-in-Path : goal.returns-in-Path
returns-in-Path g c = rw c.in-Path.is c.on_path.ensures

pub on_type-requires : goal.on_type-requires
on_type-requires g c = may_here (rw c.in-RawPtr.is at c.requires)

pub returns-in-RawPtr : goal.returns-in-RawPtr
returns-in-RawPtr g c = rw c.in-RawPtr.is (runs_one c.on_type.ensures)

pub on_type-requires-in-Array : goal.on_type-requires-in-Array
on_type-requires-in-Array g c = may_here (rw c.in-Array.is at c.requires)

pub on_anon_const_expr-requires : goal.on_anon_const_expr-requires
on_anon_const_expr-requires g c = may_here (may_then (rw c.in-Array.is at c.requires) c.on_type-in-Array.ensures)

pub returns-in-Array : goal.returns-in-Array
returns-in-Array g c = rw c.in-Array.is (a_call c.on_type-in-Array.ensures (runs_one c.on_anon_const_expr.ensures))

pub on_type-requires-in-Slice : goal.on_type-requires-in-Slice
on_type-requires-in-Slice g c = may_here (rw c.in-Slice.is at c.requires)

pub returns-in-Slice : goal.returns-in-Slice
returns-in-Slice g c = rw c.in-Slice.is (runs_one c.on_type-in-Slice.ensures)

pub on_type_bounds-requires : goal.on_type_bounds-requires
on_type_bounds-requires g c = rw c.as_slice-in-ImplTrait.ensures (rw c.in-ImplTrait.is at c.requires)

pub returns-in-ImplTrait : goal.returns-in-ImplTrait
returns-in-ImplTrait g c = rw c.in-ImplTrait.is (rw c.as_slice-in-ImplTrait.ensures at c.on_type_bounds.ensures)

pub on_type_bounds-requires-in-DynTrait : goal.on_type_bounds-requires-in-DynTrait
on_type_bounds-requires-in-DynTrait g c = rw c.as_slice-in-DynTrait.ensures (rw c.in-DynTrait.is at c.requires)

pub returns-in-DynTrait : goal.returns-in-DynTrait
returns-in-DynTrait g c = rw c.in-DynTrait.is (rw c.as_slice-in-DynTrait.ensures at c.on_type_bounds-in-DynTrait.ensures)

pub on_type-requires-in-PatternType : goal.on_type-requires-in-PatternType
on_type-requires-in-PatternType g c = may_here (rw c.in-PatternType.is at c.requires)

pub on_pat-requires : goal.on_pat-requires
on_pat-requires g c = may_here (may_then (rw c.in-PatternType.is at c.requires) c.on_type-in-PatternType.ensures)

pub returns-in-PatternType : goal.returns-in-PatternType
returns-in-PatternType g c = rw c.in-PatternType.is (a_call c.on_type-in-PatternType.ensures (runs_one c.on_pat.ensures))
