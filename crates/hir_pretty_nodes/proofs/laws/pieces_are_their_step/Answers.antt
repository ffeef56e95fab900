use Rattle.hir_pretty_nodes.proofs.Common.{sym, subst, pieces_at, docs_decrease}
use Rattle.hir_validate.specs.Recursion.{RankDecreases}
use Rattle.hir_pretty_nodes.proofs.laws.pieces_are_their_step.Goals as goal

pub returns : goal.returns
returns c store fine s e n =
    let fall = subst RankDecreases (sym e) (c.rank_decreases.ensures store fine) in
    pieces_at s (docs_decrease s (λ n k h. fall.lower n (c.parents_are_in_range.ensures s.nodes n k h) k h)) n
