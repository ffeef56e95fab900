use Rattle.std.proofs.Common.{rules}
use Rattle.hir_scope.proofs.DoneLemmas.{closure_pats}
use Rattle.hir_scope.proofs.walk.Walk.open_inside.Goals as goal

pub open-requires-clause-in_range : goal.open-requires-clause-in_range
open-requires-clause-in_range c = search (rules, closure_pats)
