use Rattle.std.proofs.Common.{Err, ap, ◌∙◌}
use Rattle.hir_show_run.specs.internal.Printing.{name_of}
use Rattle.hir_show_run.proofs.PrintingLemmas.{over_name, text_is, none_missing}
use Rattle.hir_show_run.proofs.printing.print_body.Goals as goal

pub returns-in-Ok : goal.returns-in-Ok
returns-in-Ok c =
    let name = name_of c.args.tables.now in
    text_is name c.args.body.now c.print_body_hir.result c.in-Ok.text
    (over_name c.args.tables.now name c.args.body.now c.from_raw.result c.print_body_hir.result c.requires.name_alone c.from_raw.ensures c.print_body_hir.ensures) c.in-Ok.is

pub unreachable-requires : goal.unreachable-requires
unreachable-requires c =
    let name = name_of c.args.tables.now in
    none_missing name c.args.body.now c.print_body_hir.result c.in-Err-Missing.field-0-0 c.requires.of_lines
    (over_name c.args.tables.now name c.args.body.now c.from_raw.result c.print_body_hir.result c.requires.name_alone c.from_raw.ensures c.print_body_hir.ensures)
    (c.in-Err-Missing.is ∙ ap Err c.in-Err-Missing.field-0-is)
