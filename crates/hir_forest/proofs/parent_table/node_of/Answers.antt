use Rattle.std.proofs.Common.{sym, arith}
use Rattle.hir_forest.proofs.ParentLemmas.{node_before}
use Rattle.hir_forest.proofs.parent_table.node_of.Goals as goal

pub returns : goal.returns
returns c = sym (node_before c.args.number (omega arith))
