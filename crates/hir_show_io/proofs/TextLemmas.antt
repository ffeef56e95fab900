-- The lines of a text, line by line.
use Rattle.std.proofs.Common.{◌≡◌, ◌<◌, ℕ, Bool, List, [], ◌∷◌, ◌++◌, length, refl, sym, ap, ◌∙◌, inl, inr, arith, append_assoc, flat_map}
use Rattle.std.specs.List.{slice_split, AllByRecursion}
use Rattle.std.proofs.lemmas.List.Splits.{slice_split_at, slice_split_none, length-slice_split}
use Rattle.hir_show_io.specs.Text.{lines, with_line_end, is_line_end, HasNoLineEnd, without_empty_last, TakesLine}

-- a part before other parts stays
part_stays : (line : List ℕ) (parts : List (List ℕ)) → 0 < length parts → without_empty_last (line ∷ parts) ≡ line ∷ without_empty_last parts
part_stays line [] h = absurd (omega arith)
part_stays [] (other ∷ parts) h = refl
part_stays (b ∷ bs) (other ∷ parts) h = refl

-- the first line of a text
pub lines-first : (line rest : List ℕ) → HasNoLineEnd line → lines (line ++ 10 ∷ rest) ≡ line ∷ lines rest
lines-first line rest free = rw (slice_split_at is_line_end line 10 rest free refl) (part_stays line (slice_split is_line_end rest) (omega (arith, length-slice_split is_line_end rest)))

-- the last line of a text, without its end
pub lines-last : (line : List ℕ) → HasNoLineEnd line → 0 < length line → lines line ≡ line ∷ []
lines-last [] free h = absurd (omega arith)
lines-last (b ∷ bs) free h = ap without_empty_last (slice_split_none is_line_end (b ∷ bs) free)

pub lines-ended : (texts : List (List ℕ)) (rest : List ℕ) → AllByRecursion HasNoLineEnd texts → lines (flat_map with_line_end texts ++ rest) ≡ texts ++ lines rest
lines-ended [] rest all = refl
lines-ended (text ∷ texts) rest all =
    let regrouped : flat_map with_line_end (text ∷ texts) ++ rest ≡ text ++ 10 ∷ (flat_map with_line_end texts ++ rest) = simp append_assoc in
    ap lines regrouped ∙ lines-first text (flat_map with_line_end texts ++ rest) all.0 ∙ ap (λ v. text ∷ v) (lines-ended texts rest all.1)

-- the lines of a text are the one that is taken and those of the rest
pub lines-taken : (text rest line : List ℕ) (at_end : Bool) → TakesLine text rest line at_end → lines text ≡ line ∷ lines rest
lines-taken text rest line at_end (free, inl e) = ap lines e ∙ lines-first line rest free
lines-taken text rest line at_end (free, inr (met, some, whole, none)) =
    ap lines whole ∙ lines-last line free some ∙ ap (λ v. line ∷ lines v) (sym none)

pub ended-append : (texts more : List (List ℕ)) → flat_map with_line_end (texts ++ more) ≡ flat_map with_line_end texts ++ flat_map with_line_end more
ended-append [] more = refl
ended-append (text ∷ texts) more = ap (λ v. with_line_end text ++ v) (ended-append texts more) ∙ sym (append_assoc (with_line_end text) (flat_map with_line_end texts) (flat_map with_line_end more))

pub all-append : (texts more : List (List ℕ)) → AllByRecursion HasNoLineEnd texts → AllByRecursion HasNoLineEnd more → AllByRecursion HasNoLineEnd (texts ++ more)
all-append [] more a b = b
all-append (text ∷ texts) more a b = (a.0, all-append texts more a.1 b)
