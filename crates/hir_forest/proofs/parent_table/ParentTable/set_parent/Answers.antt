use Rattle.std.proofs.Common.{◌≡◌, map, sym, ap, ◌∙◌}
use Rattle.hir_forest.specs.internal.Parents.{parent_of, parents_in}
use Rattle.hir_forest.proofs.ParentLemmas.{parent_noted}
use Rattle.hir_forest.proofs.parent_table.ParentTable.set_parent.Goals as goal
use Rattle.hir_forest.proofs.parent_table.ParentTable.set_parent.Goals.{in-Narrow, in-Wide}

pub returns : goal.returns
returns c = elim c.match-self.branch [
  | in-Narrow w ↦
      let was : map parent_of w.in-Narrow.numbers.items ≡ c.args.self.now = sym (ap parents_in w.in-Narrow.is) ∙ c.self.view_is in
      rw w.self-inside-is (parent_noted w.in-Narrow.numbers.items c.args.self.now c.args.node c.args.parent was)
  | in-Wide w ↦
      let was : map parent_of w.in-Wide.numbers.items ≡ c.args.self.now = sym (ap parents_in w.in-Wide.is) ∙ c.self.view_is in
      rw w.self-inside-is (parent_noted w.in-Wide.numbers.items c.args.self.now c.args.node c.args.parent was)
]
