use Rattle.hir_captures.proofs.CodeLemmas.{code_at}
use Rattle.hir_captures.proofs.laws.code_under_unfold.Goals as goal

pub returns : goal.returns
returns c = λ store fine n a. code_at store.nodes (c.rank_decreases.ensures store fine) n a
