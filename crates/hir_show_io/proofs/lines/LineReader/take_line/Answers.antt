use Rattle.std.proofs.Common.{◌≤◌, length, refl, arith, inl, inr}
use Rattle.hir_show_io.proofs.Ranges.{length_range, range_none}
use Rattle.hir_show_io.proofs.HeldBytes.{no_end_on, found_line, found_rest}
use Rattle.hir_show_io.proofs.lines.LineReader.take_line.Goals as goal

pub invariant_of-self-then-not-self : goal.invariant_of-self-then-not-self
invariant_of-self-then-not-self c =
    let b = c.self.inside in
    let kept = c.self.invariant in
    let none = rw (c.deref.ensures.value, c.in-None.is) at c.find_line_end.ensures in
    (kept.0, kept.1, omega arith, omega arith, kept.4, kept.5, no_end_on b.bytes.items b.start b.scanned b.filled kept.2 kept.3 kept.6 none)

pub returns-then-not-self : goal.returns-then-not-self
returns-then-not-self c =
    let b = c.self.inside in
    let kept = c.self.invariant in
    let none = rw (c.deref.ensures.value, c.in-None.is) at c.find_line_end.ensures in
    rw (← c.self.view_is) (refl, c.if-not-self.true, no_end_on b.bytes.items b.start b.scanned b.filled kept.2 kept.3 kept.6 none)

pub returns-in-Some : goal.returns-in-Some
returns-in-Some c =
    let b = c.self.inside in
    let kept = c.self.invariant in
    let place = rw (c.deref.ensures.value, c.in-Some.is) at c.find_line_end.ensures in
    let fits : b.filled ≤ length b.bytes.items = omega (arith, kept.4, b.bytes.ok.0) in
    rw (← c.self.view_is)
    ((found_line b.bytes.items b.start b.scanned b.filled c.in-Some.i kept.2 kept.3 fits place kept.6, inl (found_rest b.bytes.items b.start b.scanned b.filled c.in-Some.i kept.2 kept.3 fits place)), refl, refl)

pub returns-else-self : goal.returns-else-self
returns-else-self c =
    let b = c.self.inside in
    let kept = c.self.invariant in
    let none = rw (c.deref.ensures.value, c.in-None.is) at c.find_line_end.ensures in
    let fits : b.filled ≤ length b.bytes.items = omega (arith, kept.4, b.bytes.ok.0) in
    let no_end = no_end_on b.bytes.items b.start b.scanned b.filled kept.2 kept.3 kept.6 none in
    rw (← c.self.view_is)
    ((no_end, inr (c.if-not-self.false, omega (arith, length_range b.bytes.items b.start b.filled fits, kept.2, kept.3, c.if-self.false), refl, range_none b.bytes.items b.filled)), refl, refl)
