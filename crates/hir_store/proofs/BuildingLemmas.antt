-- The first fault of a builder: that roots are missing, or that of its nodes with its roots.
use Rattle.std.proofs.Common.{Option, Some, None, refl, inl, inr}
use Rattle.hir_forest.proofs.VerdictLemmas.{IsOne, unless-one, before-one}
use Rattle.hir_validate.specs.declared.fault.FinishFault.{FinishFault}
use Rattle.hir_validate.specs.declared.fault.FinishFault.TheVariants.{NoRoots}
use Rattle.hir_store_core.specs.declared.side_tables.SideTables.{SideTables}
use Rattle.hir_store_core.specs.Contents.{rooted_of, contents_fault}
use Rattle.hir_store.specs.Building.{Building, HasRoots, contents_of, finish_fault}
use Rattle.hir_validate.proofs.FirstFaultLemmas.{rooted_fault-one}

pub no_roots : (b : Building) → (HasRoots b → ⊥) → finish_fault b (Some NoRoots)
unfolding finish_fault
no_roots b h = inl (refl, h)

pub has_roots : (b : Building) (o : Option FinishFault) → HasRoots b → contents_fault (contents_of b) o → finish_fault b o
unfolding finish_fault
has_roots b None r h = (r, h)
has_roots b (Some f) r h = inr (r, h)

-- side tables have no fault: with others the first fault is the same
pub with_side_tables : (b : Building) (side_tables : SideTables) (o : Option FinishFault) → finish_fault b o → finish_fault (record b { side_tables = side_tables }) o
unfolding finish_fault
with_side_tables b side_tables o h = h

-- a builder has one first fault at most
pub finish_fault-one : (b : Building) → IsOne (finish_fault b)
unfolding finish_fault
finish_fault-one b = before-one _ _ (unless-one NoRoots (HasRoots b)) (rooted_fault-one (rooted_of (contents_of b)))
