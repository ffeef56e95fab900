use Rattle.std.proofs.Common.{refl}
use Rattle.hir_show_grammar.specs.Line.{line_of}
use Rattle.hir_show_run.proofs.TakenLineLemmas.{made_or_left, no_line, no_memory}
use Rattle.hir_show_run.proofs.building.build_line.Goals as goal

pub returns-in-Ok : goal.returns-in-Ok
returns-in-Ok c =
    let does = rw c.line.ensures at c.in-Ok.ensures.makes in
    made_or_left (line_of c.args.lines.now.line) c.args.builder.now c.make.new.builder c.in-Ok.taken does.0 does.1

pub returns-in-Err-Syntax : goal.returns-in-Err-Syntax
returns-in-Err-Syntax c =
    let does = rw (c.in-Err-Syntax.field-0-is, c.line.ensures) at c.in-Err-Syntax.ensures.makes in
    (no_line (line_of c.args.lines.now.line) c.args.builder.now does.1 (does.2.0 refl), c.count.ensures)

pub returns-in-Err-Memory : goal.returns-in-Err-Memory
returns-in-Err-Memory c =
    let does = rw (c.in-Err-Memory.field-0-is, c.line.ensures) at c.in-Err-Memory.ensures.makes in
    no_memory (line_of c.args.lines.now.line) c.args.builder.now does.1 (λ none. let wrong = does.2.1 none in cc)
