use Rattle.std.proofs.Common.{arith}
use Rattle.hir_signature.proofs.GenericLists.{early_or_late}
use Rattle.hir_signature.proofs.generic_params.GenericParams.len_late_bound_lifetimes.Goals as goal

pub overflow_sub-result : goal.overflow_sub-result
overflow_sub-result c =
    let all = early_or_late c.self.inside.lifetimes in
    grind (arith, all, c.self.invariant, c.self.view_is, c.len_lifetimes.ensures.len)

pub returns : goal.returns
returns c =
    let all = early_or_late c.self.inside.lifetimes in
    grind (arith, all, c.self.invariant, c.self.view_is, c.len_lifetimes.ensures.len)
