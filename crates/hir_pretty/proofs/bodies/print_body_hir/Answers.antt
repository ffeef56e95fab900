use Rattle.hir_pretty_docs.proofs.Common.{sym, adds_then, adds_as}
use Rattle.hir_pretty_nodes.proofs.Common.{refl, adds_more, prints}
use Rattle.hir_pretty.specs.{Bodies.body_docs, FoundParts.parents}
use Rattle.hir_pretty.proofs.bodies.print_body_hir.Goals as goal

pub returns : goal.returns
returns c =
    prints c.new-printer.result {docs = λ s. body_docs s (parents c.args.tables.now) c.args.owner c.args.body.now} (rw c.store.ensures at c.new-printer.ensures) refl
    (adds_as (adds_then (adds_more (adds_then c.add_body_head.ensures c.add_params.ensures) c.add.ensures) c.add_end.ensures)
    (λ s. simp (c.self_param.ensures.self_param, c.params.ensures.params, sym c.root_expr.ensures.last) refl)) c.print.ensures.pieces c.print.ensures.memory
