use Rattle.std.proofs.Common.{sym, ap, ◌∙◌, option_map}
use Rattle.hir_store_core.proofs.RootLemmas.{found_at}
use Rattle.hir_store_core.proofs.root_search.first_root.Goals as goal

pub returns-clause-found : goal.returns-clause-found
returns-clause-found c =
    let n = c.count_before-before.ensures in
    c.root_at.ensures ∙ sym (ap (option_map (λ root. root.node)) (found_at c.args.kind c.args.roots.now c.args.id c.count_before-before.result n.before n.behind))
