use Rattle.hir_pretty_docs.proofs.Common.{◌++◌, codes, text, t, opt, adds, adds_none, adds_then, adds_as}
use Rattle.hir_pretty_nodes.specs.Prelude.{Adds}
use Rattle.hir_pretty_nodes.proofs.Common.{refl, adds_more, prints}
use Rattle.hir_pretty.specs.Signatures.{function_head, function_types, function_docs}
use Rattle.hir_pretty.proofs.ListLemmas.{types_is}
use Rattle.hir_pretty.proofs.functions.print_function.Goals as goal
use Rattle.hir_pretty.proofs.functions.print_function.Goals.{in-Some, in_default}

pub returns : goal.returns
returns c =
    let flags = adds_then (adds_then (adds_then c.add_if.ensures c.add_if-2.ensures) c.add_if-3.ensures) c.add_if-4.ensures in
    let head = adds_as {g = λ s. function_head s c.args.signature.now} (adds_then (adds_more (adds_then flags c.add_abi.ensures) c.add.ensures) c.add_generics.ensures)
    (λ s. simp (
      c.is_const.ensures,
      c.is_async.ensures,
      c.is_unsafe.ensures,
      c.is_explicit_safe.ensures,
      c.abi.ensures,
      c.as_str.ensures,
      c.name.ensures,
      c.generic_params.ensures.generic_params,
    ) refl) in
    let ret : Adds c.add-3.new.self.stack (λ s. opt (λ ret. text (codes " -> ") ++ t ret) c.ret_type.result) c.match-ret_type.tokens.stack = elim c.match-ret_type.branch [
      | in-Some w ↦ rw (w.tokens-is, w.in-Some.is) (adds w.add-in-Some.ensures (λ s. refl))
      | in_default w ↦ rw (w.tokens-is, w.in_default.is) (adds_none (λ s. refl))
    ] in
    let types = adds_as {g = λ s. function_types c.args.signature.now} (adds_then (adds_more (adds_then (adds c.add-2.ensures (λ s. refl)) c.in_ok-add_arguments.ensures) c.add-3.ensures) ret)
    (λ s. types_is c.args.signature.now _ _ _ c.legacy_const_indices.ensures c.params.ensures.params c.ret_type.ensures.ret_type) in
    prints c.new-printer.result {docs = λ s. function_docs s c.args.signature.now} (rw c.store.ensures.store at c.new-printer.ensures) refl
    (adds_as (adds_more (adds_then (adds_then head types) c.add_where.ensures) c.add-4.ensures)
    (λ s. simp (c.where_predicates.ensures, c.generic_params-2.ensures.generic_params) refl)) c.print.ensures.pieces c.print.ensures.memory
