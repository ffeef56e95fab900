use Rattle.std.proofs.Common.{subst, sym}
use Rattle.hir_forest.specs.Parents.{IsParentageOf}
use Rattle.hir_forest.proofs.ParentLemmas.{with_empty_row}
use Rattle.hir_forest.proofs.parents.Parents.begin_row.Goals as goal

pub returns-clause-noted : goal.returns-clause-noted
returns-clause-noted c = λ g h. with_empty_row g record { rows = c.self.inside.rows; parents = c.self.inside.table; shared = c.self.inside.shared } (subst (IsParentageOf g) (sym c.self.view_is) h)
