use Rattle.std.proofs.Common.{◌≡◌, ◌≢◌, ◌++◌, take, ap, ap₂, sym, ◌∙◌, arith, rules}
use Rattle.std.specs.String.{string_bytes}
use Rattle.hir_pretty_layout.specs.Buffer.{level_of}
use Rattle.hir_pretty_layout.specs.declared.line_format.LineFormat.TheVariants.{Indentation}
use Rattle.hir_pretty_layout.proofs.BufferLemmas.{ended_in_line, ended_twice}
use Rattle.hir_pretty_layout.proofs.buffer.PageBuffer.break_line.Goals as goal

pub returns-then-eq-clause-ok : goal.returns-then-eq-clause-ok
returns-then-eq-clause-ok c =
    let old = c.self.inside in
    let some = rw (← c.self.view_is) at (sym c.ends_in_blank_line.ensures ∙ c.if-ends_in_blank_line.false) in
    let is : old.format ≡ Indentation = search rules in
    let cut = c.truncate.ensures.bytes ∙ ap (take old.kept) c.in_ok-reserve.ensures.bytes in
    let one = c.in_ok-push.ensures.bytes ∙ ap₂ ◌++◌ cut (c.in_ok-push.ensures.ascii (omega arith)) in
    let two = c.in_ok-push_str.ensures.bytes ∙ ap₂ ◌++◌ one (c.as_str-indentation.ensures.value ∙ c.self.invariant.spaces) in
    let bytes = c.in_ok-push-2.ensures.bytes ∙ ap₂ ◌++◌ two (c.in_ok-push-2.ensures.ascii (omega arith)) in
    rw (← c.self.view_is, bytes, is) (ended_twice (string_bytes old.text) old.kept (level_of (string_bytes old.indentation)) c.self.invariant.kept some)

pub returns-clause-ok : goal.returns-clause-ok
returns-clause-ok c =
    let old = c.self.inside in
    let some = rw (← c.self.view_is) at (sym c.ends_in_blank_line.ensures ∙ c.if-ends_in_blank_line.false) in
    let not : old.format ≢ Indentation = λ e. search rules in
    let bytes = c.in_ok-push-3.ensures.bytes ∙ ap₂ ◌++◌ c.truncate-2.ensures.bytes (c.in_ok-push-3.ensures.ascii (omega arith)) in
    rw (← c.self.view_is, bytes, c.after_end-after.ensures)
    (ended_in_line (string_bytes old.text) old.kept (level_of (string_bytes old.indentation)) c.self.invariant.kept some old.format not)
