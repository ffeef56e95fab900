use Rattle.std.proofs.Common.{rules}
use Rattle.hir_scope.proofs.ResolveLemmas.{path_of_parent}
use Rattle.hir_scope.proofs.scope_chain.ScopeChainIterator.next.Goals as goal

pub returns-clause-steps : goal.returns-clause-steps
returns-clause-steps c = search (rules, path_of_parent)

pub returns-clause-goes : goal.returns-clause-goes
returns-clause-goes c = search (rules, path_of_parent)
