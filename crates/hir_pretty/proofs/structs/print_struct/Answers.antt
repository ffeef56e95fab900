use Rattle.hir_pretty_docs.proofs.Common.{adds_then, adds_as}
use Rattle.hir_pretty_nodes.proofs.Common.{refl, ◌∷◌, [], adds_more, prints}
use Rattle.std.specs.FinMap as map
use Rattle.hir_pretty.specs.Signatures.{struct_docs}
use Rattle.hir_pretty.proofs.structs.print_struct.Goals as goal

pub returns : goal.returns
returns c =
    let head = adds_then (adds_more (adds_then c.add_repr.ensures c.add_attribute_if.ensures) c.add.ensures) c.add_generics.ensures in
    prints c.new-printer.result {docs = λ s. struct_docs s (map.get c.args.tables.now.reprs (c.args.id ∷ [])) c.args.signature.now} (rw c.store.ensures.store at c.new-printer.ensures) refl
    (adds_as (adds_then (adds_then (adds_then head c.add_begin.ensures) c.add_where.ensures) c.add_end.ensures)
    (λ s. simp (
      c.repr.ensures,
      c.is_fundamental.ensures,
      c.as_str.ensures,
      c.name.ensures,
      c.generic_params.ensures.generic_params,
      c.shape.ensures,
      c.shape-2.ensures,
      c.where_predicates.ensures,
      c.generic_params-2.ensures.generic_params,
    ) refl)) c.print.ensures.pieces c.print.ensures.memory
