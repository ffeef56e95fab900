use Rattle.hir_forest.proofs.RowsLemmas.{with_children-more, with_children-fresh, length-with_children}
use Rattle.hir_forest.proofs.laws.child_rows_add_up.Goals as goal

pub returns-clause-more : goal.returns-clause-more
returns-clause-more c = with_children-more

pub returns-clause-fresh : goal.returns-clause-fresh
returns-clause-fresh c = with_children-fresh

pub returns-clause-length : goal.returns-clause-length
returns-clause-length c = length-with_children
