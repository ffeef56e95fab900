use Rattle.std.proofs.Common.{◌≡◌, ◌==◌, ◌||◌, Bool, true, false, sym, ap, ◌∙◌, arith}
use Rattle.std.specs.String.{string_bytes}
use Rattle.std.proofs.lemmas.Bool.Decides.{nat_tests}
use Rattle.hir_pretty_layout.proofs.BufferLemmas.{blank_by_len}
use Rattle.hir_pretty_layout.proofs.buffer.PageBuffer.ends_in_blank_line.Goals as goal

or_left : (a b c : Bool) → a ≡ b || c → b ≡ true → b ≡ a
or_left a b c e t = t ∙ sym (e ∙ ap (λ x. x || c) t)

or_right : (a b c : Bool) → a ≡ b || c → b ≡ false → c ≡ a
or_right a b c e f = sym (e ∙ ap (λ x. x || c) f)

pub returns-then-self-eq0 : goal.returns-then-self-eq0
returns-then-self-eq0 c =
    rw (← c.self.view_is) (or_left _ _ _ (blank_by_len (string_bytes c.self.inside.text) c.self.inside.kept c.self.invariant.kept) (grind (arith, nat_tests)))

pub returns-else-self-eq0 : goal.returns-else-self-eq0
returns-else-self-eq0 c =
    let no : (c.self.inside.kept == 0) ≡ false = grind (arith, nat_tests) in
    rw (← c.self.view_is, c.as_bytes-text.ensures.value) (or_right _ _ _ (blank_by_len (string_bytes c.self.inside.text) c.self.inside.kept c.self.invariant.kept) no)
