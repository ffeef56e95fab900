use Rattle.hir_usages.proofs.KeptLemmas.{kept_exactly}
use Rattle.hir_usages.proofs.laws.without_a_conflict_each_use_keeps_its_binding.Goals as goal

pub returns : goal.returns
returns c = λ store scopes binding name usages. kept_exactly store scopes binding name usages
