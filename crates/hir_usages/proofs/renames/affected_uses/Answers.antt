use Rattle.std.proofs.Common.{◌∙◌, ap, subst, None}
use Rattle.hir_store_core.specs.Contents.{Contents, contents_fault}
use Rattle.hir_usages.specs.{Renames.first_conflict, Usages.usages_of, Usages.usages_of_body}
use Rattle.hir_usages.proofs.AffectedLemmas.{conflict_among, own_among}
use Rattle.hir_usages.proofs.renames.affected_uses.Goals as goal

pub returns-clause-own : goal.returns-clause-own
returns-clause-own c =
    let b = c.args.body.now in
    ap (usages_of c.args.binding) c.in_ok-found.ensures.usages
    ∙ own_among c.args.binding c.args.name.now b.store.nodes (usages_of_body b c.args.scopes.now)

pub returns-clause-conflict : goal.returns-clause-conflict
returns-clause-conflict c =
    let b = c.args.body.now in
    let scopes = c.args.scopes.now in
    let sound = subst (λ (x : Contents). contents_fault x None) c.store.ensures c.has_no_fault.ensures in
    ap (first_conflict b.store scopes c.args.binding c.args.name.now) c.in_ok-found.ensures.usages
    ∙ conflict_among b c.args.binding c.args.name.now scopes (c.rank_decreases.ensures b.store sound) c.requires
