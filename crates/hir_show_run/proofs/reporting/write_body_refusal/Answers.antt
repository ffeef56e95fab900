use Rattle.std.specs.Prelude.{codes}
use Rattle.std.proofs.lemmas.Result.{err_from_is_err_and}
use Rattle.hir_body.specs.FaultTexts.{body_fault_text}
use Rattle.hir_show_run.proofs.Texts.{text_failed}
use Rattle.hir_show_run.proofs.reporting.write_body_refusal.Goals as goal

pub returns-in_err-write_all-clause-text : goal.returns-in_err-write_all-clause-text
returns-in_err-write_all-clause-text g c =
    let p = err_from_is_err_and c.from_residual.result c.from_residual.ensures.1 in
    rw p.1 (text_failed _ _ (codes "refused ") (body_fault_text c.args.fault) c.in_err-write_all.ensures.err)
