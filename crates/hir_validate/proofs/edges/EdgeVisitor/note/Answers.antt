use Rattle.std.proofs.Common.{refl}
use Rattle.std.proofs.lemmas.Bool.{false≢true}
use Rattle.hir_validate.proofs.RangeLemmas.{and_true}
use Rattle.hir_validate.proofs.EdgeLemmas.{and_false}
use Rattle.hir_validate.proofs.edges.EdgeVisitor.note.Goals as goal

pub returns-then-not-is_in_range : goal.returns-then-not-is_in_range
returns-then-not-is_in_range c = record {
  sizes = refl;
  room = refl;
  rows = refl;
  in_range = rw c.if-not-is_in_range.true (and_false c.args.self.now.all_in_range);
  children = λ t. absurd (false≢true t);
}

pub returns : goal.returns
returns c = record {
  sizes = refl;
  room = c.push_child.ensures.room;
  rows = c.push_child.ensures.rows;
  in_range = rw c.if-not-is_in_range.false (and_true c.args.self.now.all_in_range);
  children = λ t g h. c.push_child.ensures.noted g h;
}
