use Rattle.hir_validate.proofs.SoundLemmas.{exprs_sound, pats_sound, types_sound}
use Rattle.hir_store_core.specs.Contents.{rooted_of}
use Rattle.hir_store_core.proofs.laws.nodes_are_sound.Goals as goal

pub returns-clause-exprs : goal.returns-clause-exprs
returns-clause-exprs c = λ s. exprs_sound (rooted_of s)

pub returns-clause-pats : goal.returns-clause-pats
returns-clause-pats c = λ s. pats_sound (rooted_of s)

pub returns-clause-types : goal.returns-clause-types
returns-clause-types c = λ s. types_sound (rooted_of s)
