use Rattle.std.proofs.Common.{◌∷◌, []}
use Rattle.std.proofs.lemmas.Result.{err_from_is_err_and}
use Rattle.hir_show_run.specs.Texts.{fault_text}
use Rattle.hir_show_run.proofs.Texts.{text_by, text_then, text_failed}
use Rattle.hir_show_run.proofs.reporting.write_line.Goals as goal

pub returns-in_err-write_fault-clause-text : goal.returns-in_err-write_fault-clause-text
returns-in_err-write_fault-clause-text g c =
    let p = err_from_is_err_and c.from_residual.result c.from_residual.ensures.1 in
    rw p.1 (text_failed _ _ (fault_text c.args.fault) (10 ∷ []) c.in_err-write_fault.ensures.text)

pub returns-clause-text : goal.returns-clause-text
returns-clause-text g c =
    let last = text_by (g.W.Sink.contents c.write_fault.new.errors) (g.W.Sink.contents c.write_all.new.writer) (10 ∷ []) c.write_all.result c.write_all.ensures.bytes c.write_all.ensures.err in
    text_then _ _ _ (fault_text c.args.fault) (10 ∷ []) c.write_all.result c.in_ok-write_fault.ensures.text last
