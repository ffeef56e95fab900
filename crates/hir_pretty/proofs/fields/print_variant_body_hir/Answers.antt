use Rattle.hir_pretty_docs.proofs.Common.{adds_then}
use Rattle.hir_pretty_nodes.proofs.Common.{refl, prints, print_env, lookups_of}
use Rattle.hir_pretty_nodes.specs.Prelude.{words_of}
use Rattle.std.proofs.Common.{rules}
use Rattle.hir_pretty.specs.{Prelude.false, FoundParts.parents, Variants.without_fields}
use Rattle.hir_pretty.proofs.OtherLemmas.{fields_outside, in_any_store}
use Rattle.hir_pretty.proofs.fields.print_variant_body_hir.Goals as goal

pub returns-in-Ok : goal.returns-in-Ok
returns-in-Ok c =
    let printed = prints c.new-printer.result (rw c.store.ensures.store at c.new-printer.ensures) refl
    (adds_then c.add_variant_head.ensures (rw (c.shape.ensures, c.fields.ensures.fields) at c.add_fields.ensures)) c.print.ensures.pieces c.print.ensures.memory in
    search rules

pub returns-in-Err : goal.returns-in-Err
returns-in-Err c =
    let tables = c.args.tables.now in
    record {
      found = rw c.in-Err.ensures.absent.1 tt;
      absent = λ e store.
          let s = print_env store (lookups_of tables) (words_of tables.words c.args.edition) false in
          in_any_store s (without_fields s (parents tables) c.args.variant) (fields_outside s (parents tables) c.args.variant) refl
          (prints c.new-printer-in-Err.result c.new-printer-in-Err.ensures refl c.add_without_fields.ensures c.print-in-Err.ensures.pieces c.print-in-Err.ensures.memory);
    }
