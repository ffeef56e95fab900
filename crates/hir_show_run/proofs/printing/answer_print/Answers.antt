use Rattle.std.proofs.Common.{◌≡◌, ◌∙◌, codes, string_bytes}
use Rattle.hir_show_run.specs.Printing.{body_text}
use Rattle.hir_show_run.specs.internal.Printing.{name_of}
use Rattle.hir_show_run.proofs.WritingLemmas.{put_then}
use Rattle.hir_show_run.proofs.printing.answer_print.Goals as goal

pub returns-clause-ok : goal.returns-clause-ok
returns-clause-ok g c =
    let told : string_bytes c.in_ok-text.text ≡ body_text (name_of c.args.tables.now) c.args.body.now = c.in_ok-text.ensures in
    let bytes : c.as_bytes.result.now ≡ body_text (name_of c.args.tables.now) c.args.body.now = c.as_bytes.ensures.value ∙ c.as_str.ensures.value ∙ told in
    rw (← bytes) (put_then g.W.Sink c.args.output.now c.put.new.self c.put-2.new.self c.as_bytes.result.now (codes "\n") c.put.ensures c.put-2.ensures)
