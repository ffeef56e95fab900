use Rattle.std.proofs.Common.{refl}
use Rattle.hir_show_grammar.specs.Line.{line_of}
use Rattle.hir_show_run.proofs.TakenLineLemmas.{question_of}
use Rattle.hir_show_run.proofs.asking.asked_by.Goals as goal

pub returns-in-Ok : goal.returns-in-Ok
returns-in-Ok c = rw c.line.ensures at c.in-Ok.ensures.asks

pub returns-in-Err-Syntax : goal.returns-in-Err-Syntax
returns-in-Err-Syntax c =
    let does = rw (c.in-Err-Syntax.field-0-is, c.line.ensures) at c.in-Err-Syntax.ensures.asks in
    (does.1.0 refl, c.count.ensures)

pub returns-in-Err-Memory : goal.returns-in-Err-Memory
returns-in-Err-Memory c =
    let does = rw (c.in-Err-Memory.field-0-is, c.line.ensures) at c.in-Err-Memory.ensures.asks in
    question_of (line_of c.args.lines.now.line) does.0 (λ other. let wrong = does.1.1 other in cc)
