use Rattle.std.proofs.Common.{◌≡◌, ◌≤◌, ◌+◌, ◌-◌, ◌++◌, ◌∙◌, ℕ, List, ap, sym, arith, length, take, drop, length-append, take-append-drop}
use Rattle.std.proofs.lemmas.List.{take_rest, take-append-le, length-take-le, length-drop}
use Rattle.std.proofs.lemmas.Slice.{take-put_mid}
use borrow.Rule.Slice.PartMut.{put_mid}
use Rattle.hir_base.proofs.short_text.copy_ends.Goals as goal

-- a prefix of the text, and after it the last bytes, are the text
ends : (n : ℕ) (text old : List ℕ) → n ≤ length text → length text ≤ n + n →
    let rest : ℕ = length text - n in
    take (length text) (put_mid rest (length text - rest) (take n text ++ old) (drop rest text)) ≡ text
ends n text old fits covers =
    let rest : ℕ = length text - n in
    let size = length-take-le n text fits in
    let there : rest ≤ length (take n text ++ old) = omega (arith, covers, fits, size, length-append (take n text) old) in
    let sum : length text ≡ rest + length (drop rest text) = omega (arith, fits, length-drop rest text) in
    let begun : take rest (take n text ++ old) ≡ take rest text =
    take-append-le rest (take n text) old (omega (arith, covers, size))
    ∙ sym (take-append-le rest (take n text) (drop n text) (omega (arith, covers, size)))
    ∙ ap (take rest) (take-append-drop n text) in
    take-put_mid rest (length text - rest) (take n text ++ old) (drop rest text) (length text) sum there
    ∙ ap (λ (xs : List ℕ). xs ++ drop rest text) begun
    ∙ take-append-drop rest text

pub returns : goal.returns
returns g c =
    let n = g.row.N in
    let text = c.args.text.now in
    rw (c.copy_from_slice.ensures.after, c.copy_from_slice-2.ensures.after, take_rest text (length text - n)) (ends n text _ c.requires.fits c.requires.covers)
