use Rattle.std.proofs.Common.{rules, ◌≡◌, true, false, sym, ◌∙◌}
use Rattle.hir_c.specs.Report.{is_taken}
use Rattle.hir_c.proofs.CallLemmas.{opens_not, opens_taken}
use Rattle.hir_c.proofs.open.Goals as goal

pub returns-then-not-is_taken : goal.returns-then-not-is_taken
returns-then-not-is_taken c =
    let how = c.take_text-outcome.result in
    let report = c.report_of-report.ensures in
    let is : is_taken how ≡ false = sym c.is_taken.ensures ∙ c.if-not-is_taken.true in
    opens_not c.args.text.now c.in-Ok.session c.take_text-outcome.new.self how c.in-Ok.ensures.session c.take_text-outcome.ensures
    c.report_of-report.result report.counts.1 report.line c.status_number-status.result c.status_number-status.ensures
    is c.closed-then-not-is_taken.result.slot.kept c.closed-then-not-is_taken.ensures report.counts.0

pub returns-in-Ok-new : goal.returns-in-Ok-new
returns-in-Ok-new c =
    let how = c.take_text-outcome.result in
    let report = c.report_of-report-2.ensures in
    let is : is_taken how ≡ true = sym c.is_taken.ensures ∙ c.if-not-is_taken.false in
    opens_taken c.args.text.now c.in-Ok.session c.take_text-outcome.new.self how c.in-Ok.ensures.session c.take_text-outcome.ensures
    c.report_of-report-2.result report.counts.1 report.line c.status_number-status.result c.status_number-status.ensures
    is c.of.result.slot.kept (search rules) (report.counts.0 ∙ c.kept.ensures)
