use Rattle.std.proofs.Common.{arith}
use Rattle.hir_signature.proofs.GenericLists.{early_or_late}
use Rattle.hir_signature.proofs.generic_params.GenericParams.len_no_late.Goals as goal

pub overflow_add-result : goal.overflow_add-result
overflow_add-result c =
    let all = early_or_late c.self.inside.lifetimes in
    omega (arith, all, c.self.invariant, c.len_type_or_consts.ensures.most)
