use Rattle.hir_pretty_nodes.proofs.Common.{sym, subst}
use Rattle.hir_validate.specs.Recursion.{RankDecreases}
use Rattle.hir_pretty_nodes.proofs.DocsDecrease as lemma
use Rattle.hir_pretty_nodes.proofs.laws.docs_decrease.Goals as goal

pub returns : goal.returns
returns c store fine s e =
    let fall = subst RankDecreases (sym e) (c.rank_decreases.ensures store fine) in
    lemma.docs_decrease s (λ n k h. fall.lower n (c.parents_are_in_range.ensures s.nodes n k h) k h)
