use Rattle.std.proofs.Common.{◌≡◌, ◌⊎◌, inl, inr, Err, Some, refl}
use Rattle.std.proofs.lemmas.Result.{err_from_is_err_and}
use Rattle.hir_validate.specs.declared.fault.FinishFault.{FinishFault}
use Rattle.hir_validate.specs.declared.fault.FinishFault.TheVariants as finish
use Rattle.hir_store.specs.Building.{Building, building_of, finish_fault}
use Rattle.hir_show_run.specs.Faults.{fault_of_finish}
use Rattle.hir_show_run.specs.internal.Stages.{Finishes}
use Rattle.hir_show_run.proofs.program.finish.Goals as goal

-- how a run ends where what was built is refused
fault_ends : (fault : FinishFault) (built : Building) → fault ≡ finish.Memory ⊎ finish_fault built (Some fault) → Finishes built (Err (fault_of_finish fault))
fault_ends fault built (inl e) = rw e tt
fault_ends finish.Memory built (inr p) = tt
fault_ends finish.NoRoots built (inr p) = (finish.NoRoots, refl, p)
fault_ends (finish.IdOutOfRange node) built (inr p) = (finish.IdOutOfRange node, refl, p)
fault_ends (finish.NotAPath node) built (inr p) = (finish.NotAPath node, refl, p)
fault_ends (finish.NoReturnType node) built (inr p) = (finish.NoReturnType node, refl, p)
fault_ends (finish.NoSelfArgument node) built (inr p) = (finish.NoSelfArgument node, refl, p)
fault_ends (finish.ArgumentLists node) built (inr p) = (finish.ArgumentLists node, refl, p)
fault_ends (finish.SharedChild node) built (inr p) = (finish.SharedChild node, refl, p)
fault_ends (finish.Cycle node) built (inr p) = (finish.Cycle node, refl, p)
fault_ends (finish.RootOutOfRange index) built (inr p) = (finish.RootOutOfRange index, refl, p)
fault_ends (finish.RootRepeated index) built (inr p) = (finish.RootRepeated index, refl, p)
fault_ends (finish.RootUnderRoot index) built (inr p) = (finish.RootUnderRoot index, refl, p)
fault_ends (finish.RootEnds index) built (inr p) = (finish.RootEnds index, refl, p)

pub returns-in_err-store : goal.returns-in_err-store
returns-in_err-store c =
    let p = err_from_is_err_and c.from_residual.result c.from_residual.ensures.1 in
    rw (p.1, p.2) (fault_ends c.in_err-store.field-0.0.fault (building_of c.args.builder) c.in_err-store.ensures.err.1)
