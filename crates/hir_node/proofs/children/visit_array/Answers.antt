use Rattle.hir_node.specs.Runs.{a_call}
use Rattle.hir_node.proofs.RunLemmas.{runs_one}
use Rattle.hir_node.proofs.children.visit_array.Goals as goal

pub returns-in-Repeat : goal.returns-in-Repeat
returns-in-Repeat g c = rw c.in-Repeat.is (a_call c.on_expr.ensures (runs_one c.on_anon_const_expr.ensures))
