use Rattle.hir_usages.proofs.AlikeLemmas.{chains_renamed}
use Rattle.hir_usages.proofs.laws.renamed_bodies_have_renamed_chains.Goals as goal

pub returns : goal.returns
returns c = λ b scopes chains binding name expr scope is. chains_renamed b scopes scopes chains binding name expr scope is
