use Rattle.std.proofs.Common.{◌++◌, codes, decimal}
use Rattle.std.proofs.lemmas.Result.{err_from_is_err_and}
use Rattle.hir_show_run.proofs.Texts.{text_by, text_then, text_failed}
use Rattle.hir_show_run.proofs.reporting.write_id.Goals as goal

pub returns-in_err-write_numbered-clause-text : goal.returns-in_err-write_numbered-clause-text
returns-in_err-write_numbered-clause-text g c =
    let p = err_from_is_err_and c.from_residual.result c.from_residual.ensures.1 in
    let prefix = rw c.from.ensures at c.in_err-write_numbered.ensures.text in
    rw p.1 (text_failed _ _ (c.args.kind.now ++ decimal c.args.number) (codes ")") prefix)

pub returns-clause-text : goal.returns-clause-text
returns-clause-text g c =
    let words = rw c.from.ensures at c.in_ok-write_numbered.ensures.text in
    let last = text_by (g.W.Sink.contents c.write_numbered.new.errors) (g.W.Sink.contents c.write_all.new.writer) (codes ")") c.write_all.result c.write_all.ensures.bytes c.write_all.ensures.err in
    text_then _ _ _ (c.args.kind.now ++ decimal c.args.number) (codes ")") c.write_all.result words last
