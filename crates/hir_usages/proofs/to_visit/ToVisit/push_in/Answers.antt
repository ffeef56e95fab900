use Rattle.std.proofs.Common.{arith}
use Rattle.hir_usages.proofs.WalkLemmas.{defers_all}
use Rattle.hir_usages.proofs.to_visit.ToVisit.push_in.Goals as goal
use Rattle.std.proofs.lemmas.Grind.{common_steps}

pub returns : goal.returns
returns c = grind (arith, common_steps, defers_all c.visit_form.ensures)
