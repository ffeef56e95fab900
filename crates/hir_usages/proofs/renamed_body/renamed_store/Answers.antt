use Rattle.std.proofs.Common.{ap, ◌∙◌}
use Rattle.hir_validate.specs.declared.node_arenas.Nodes.{Nodes}
use Rattle.hir_store_core.specs.Contents.{Contents, contents_of_parts}
use Rattle.hir_usages.specs.Renamed.{rename_binding, renamed_nodes, with_nodes}
use Rattle.hir_usages.proofs.{ChangeLemmas.uses_are_paths, StoreLemmas.renamed_is_store}
use Rattle.hir_usages.proofs.renamed_body.renamed_store.Goals as goal

pub new-requires : goal.new-requires
new-requires c =
    let parts = c.into_parts-nodes.result in
    renamed_is_store c.args.name.now c.args.binding c.args.usages.now parts.0 c.rename_nodes.new.nodes parts.1 parts.2
    parts.3 c.into_parts-nodes.ensures.store c.in_ok-rename_nodes.ensures

pub returns : goal.returns
returns c =
    let n = c.args.name.now in
    let x = c.args.binding in
    let us = c.args.usages.now in
    let parts = c.into_parts-nodes.result in
    c.new.ensures
    ∙ (ap (λ (s : Nodes). contents_of_parts s parts.1 parts.2)
    (c.in_ok-rename_nodes.ensures ∙ uses_are_paths n (rename_binding n parts.0 x) us)
    ∙ ap (λ (d : Contents). with_nodes d (renamed_nodes n x us d.nodes)) (c.into_parts-nodes.ensures.contents ∙ c.in_ok-copy.ensures))
