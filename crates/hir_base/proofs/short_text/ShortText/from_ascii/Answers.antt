use Rattle.std.proofs.lemmas.Str.{IsUtf8-from_ascii}
use Rattle.hir_base.proofs.short_text.ShortText.from_ascii.Goals as goal

pub invariant_of-result : goal.invariant_of-result
invariant_of-result c =
    let text = c.args.text.now in
    (c.requires.short, rw c.with_zeros.ensures (∣ IsUtf8-from_ascii text c.requires.ascii ∣₁))
