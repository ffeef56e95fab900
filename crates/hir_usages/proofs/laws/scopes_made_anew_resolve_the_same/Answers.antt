use Rattle.std.proofs.Common.{Some}
use Rattle.hir_scope.specs.Paths.{chain}
use Rattle.hir_usages.specs.{Renamed.renamed_body, Renames.renamed_chain}
use Rattle.hir_usages.proofs.{AlikeLemmas.chains_renamed, ConflictLemmas.all_by_later}
use Rattle.hir_usages.proofs.StoreLemmas.{contents_kept, body_kept}
use Rattle.hir_usages.proofs.laws.scopes_made_anew_resolve_the_same.Goals as goal

pub returns-clause-chains : goal.returns-clause-chains
returns-clause-chains c = λ b sound fine scopes later binding name are are_later expr before after e f.
    c.a_reached_node_has_one_chain.ensures.bodies (renamed_body b scopes binding name)
    (contents_kept b binding name scopes sound) (body_kept b binding name scopes fine) expr
    (chain later.scopes (Some after)) (renamed_chain binding name (chain scopes.scopes (Some before)))
    (are_later.chains expr after f) (chains_renamed b scopes scopes are.chains binding name expr before e)

pub returns-clause-uses : goal.returns-clause-uses
returns-clause-uses c = λ b sound fine scopes later binding name may are_later.
    all_by_later b binding name scopes later are_later (c.rank_decreases.ensures b.store sound)
    (λ x f g. c.a_reached_node_has_one_chain.ensures.bodies (renamed_body b scopes binding name)
    (contents_kept b binding name scopes sound) (body_kept b binding name scopes fine) x f g)
    may.keeps
