use Rattle.hir_usages.proofs.ConflictLemmas.{uses_keep}
use Rattle.hir_usages.proofs.laws.uses_resolve_along_their_frames.Goals as goal

pub returns : goal.returns
returns c = λ b sound scopes are. uses_keep b scopes are (c.rank_decreases.ensures b.store sound)
