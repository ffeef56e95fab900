-- The bytes that a line reader holds: where a line ends in them, and what moving and reading leave.
use Rattle.std.proofs.Common.{◌≡◌, ◌+◌, ◌-◌, ◌≤◌, ℕ, Bool, false, eqb, List, [], ◌∷◌, ◌++◌, Some, take, drop, length, refl, sym, ap, ◌∙◌, arith, append_assoc, length-take}
use Rattle.std.specs.Prelude.{slice_range}
use Rattle.std.proofs.lemmas.List.{take-take, take_at, drop_at, take-append-le}
use Rattle.std.proofs.lemmas.List.Elements.{All-append}
use Rattle.hir_show_io.specs.Text.{is_line_end, HasNoLineEnd}
use Rattle.hir_show_io.specs.internal.Text.{IsFirstLineEnd}
use borrow.Rule.Slice.PartMut.{put_mid, post_of}
use Rattle.hir_show_io.specs.LineState.{LineState}
use Rattle.hir_show_io.specs.Reading.{with_bytes}
use Rattle.hir_show_io.proofs.Ranges.{range_take, range_drop, range_joined, length_range}

pub no_end_on : (xs : List ℕ) (a b c : ℕ) → a ≤ b → b ≤ c → HasNoLineEnd (slice_range xs a b) → HasNoLineEnd (slice_range xs b c) → HasNoLineEnd (slice_range xs a c)
no_end_on xs a b c ab bc before suffix =
    rw (range_joined xs a b c ab bc) (All-append (λ v. is_line_end v ≡ false) (slice_range xs a b) (slice_range xs b c) before suffix)

-- a line end at place i of the part that wasn't searched before
module _ (xs : List ℕ) (a s f i : ℕ) (ord : a ≤ s) (sf : s ≤ f) (fits : f ≤ length xs) (found : IsFirstLineEnd (slice_range xs s f) (Some i)) where
  within : s + (i + 1) ≤ f
  within = omega (arith, length_range xs s f fits)

  line_here : take i (slice_range xs s f) ≡ slice_range xs s (s + i)
  line_here = let h = within in range_take xs s f i (omega arith)

  pub found_line : HasNoLineEnd (slice_range xs a s) → HasNoLineEnd (slice_range xs a (s + i))
  found_line before = no_end_on xs a s (s + i) ord (omega arith) before (rw line_here at found.1)

  pub found_rest : slice_range xs a f ≡ slice_range xs a (s + i) ++ 10 ∷ slice_range xs ((s + i) + 1) f
  found_rest =
      let place : s + (i + 1) ≡ (s + i) + 1 = omega arith in
      let rest : drop (i + 1) (slice_range xs s f) ≡ slice_range xs ((s + i) + 1) f = rw place at (range_drop xs s f (i + 1) within) in
      let parted = rw (line_here, rest) at found.2 in
      let line = range_joined xs a s (s + i) ord (omega arith) in
      range_joined xs a s f ord sf ∙ ap (λ v. slice_range xs a s ++ v) parted ∙ sym (append_assoc (slice_range xs a s) (slice_range xs s (s + i)) (10 ∷ slice_range xs ((s + i) + 1) f))
      ∙ ap (λ v. v ++ 10 ∷ slice_range xs ((s + i) + 1) f) (sym line)

-- what was moved to the front is searched as far as before
pub moved_prefix : (xs ys : List ℕ) (start scanned filled : ℕ) → start ≤ scanned → scanned ≤ filled → take (filled - start) ys ≡ slice_range xs start filled → slice_range ys 0 (scanned - start) ≡ slice_range xs start scanned
moved_prefix xs ys start scanned filled a b moved =
    let shorter : scanned - start ≤ filled - start = omega arith in
    let same : start + (scanned - start) ≡ scanned = omega arith in
    let none : (scanned - start) - 0 ≡ scanned - start = omega arith in
    rw none
    (sym (take-take (scanned - start) (filled - start) ys shorter) ∙ ap (take (scanned - start)) moved ∙ rw same at (range_take xs start filled (scanned - start) (omega arith)))

-- what n bytes read behind p others leave
pub read_after : (ys buffer : List ℕ) (p k n : ℕ) → p ≤ length ys → n ≤ length buffer → slice_range (put_mid p k ys buffer) 0 (p + n) ≡ take p ys ++ take n buffer
read_after ys buffer p k n hp hn =
    let all = put_mid p k ys buffer in
    let size : length (take p ys) ≡ p = omega (arith, length-take p ys) in
    let none : p - 0 ≡ p = omega arith in
    let some : (p + n) - p ≡ n = omega arith in
    let prefix : slice_range all 0 p ≡ take p ys = rw none (take_at (take p ys) (buffer ++ post_of p k ys) p size) in
    let suffix : drop p all ≡ buffer ++ post_of p k ys = drop_at (take p ys) (buffer ++ post_of p k ys) p size in
    let back : slice_range all p (p + n) ≡ take n buffer = rw (some, suffix) (take-append-le n buffer (post_of p k ys) hn) in
    range_joined all 0 p (p + n) (omega arith) (omega arith) ∙ rw (prefix, back) refl

pub is_with_bytes : (line pending bytes : List ℕ) (at_end : Bool) (count : ℕ) (old : LineState) → line ≡ [] → pending ≡ old.pending ++ bytes → at_end ≡ eqb (length bytes) 0 → count ≡ old.count → record { line = line; pending = pending; at_end = at_end; count = count } ≡ with_bytes old bytes
is_with_bytes line pending bytes at_end count old e1 e2 e3 e4 = rw (e1, e2, e3, e4) refl
