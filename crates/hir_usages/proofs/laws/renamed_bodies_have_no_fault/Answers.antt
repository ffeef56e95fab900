use Rattle.hir_usages.proofs.StoreLemmas.{contents_kept, body_kept}
use Rattle.hir_usages.proofs.laws.renamed_bodies_have_no_fault.Goals as goal

pub returns-clause-store : goal.returns-clause-store
returns-clause-store c = λ b sound scopes binding name. contents_kept b binding name scopes sound

pub returns-clause-body : goal.returns-clause-body
returns-clause-body c = λ b fine scopes binding name. body_kept b binding name scopes fine
