-- Reading on: what one more line, the end, a failed read or a second stage make of the lines that were read.
use Rattle.std.proofs.Common.{◌≡◌, ℕ, Bool, true, false, List, [], ◌∷◌, ◌++◌, Option, None, Some, refl, sym, ap, ◌∙◌, inl, inr, append_assoc, append-nil, flat_map}
use Rattle.std.specs.Io.KnownBytes.{IsAtEnd}
use Rattle.hir_show_io.specs.Text.{lines, with_line_end, TakesLine, IsRead}
use Rattle.hir_show_io.proofs.TextLemmas.{lines-ended, lines-taken, ended-append, all-append}
use Rattle.hir_show_io.specs.NextLine.{TakesTold, IsBegunLine}
use Rattle.hir_show_io.specs.Reads.{ReadsLines, ReadsAll, ReadsPrefix, ReadsUntilFailure}

-- the lines of the input are those read and those of the rest
pub is_read_lines : (input : List ℕ) (texts : List (List ℕ)) (rest : List ℕ) (at_end : Bool) → IsRead input texts rest at_end → lines input ≡ texts ++ lines rest
is_read_lines input texts rest true r = r
is_read_lines input texts rest false r = ap lines r.0 ∙ lines-ended texts rest r.1

-- what was read in two stages
pub is_read_joined : (input : List ℕ) (texts more : List (List ℕ)) (mid rest : List ℕ) (was at_end : Bool) → IsRead input texts mid was → IsRead mid more rest at_end → (was ≡ true → at_end ≡ true) → IsRead input (texts ++ more) rest at_end
is_read_joined input texts more mid rest was true r s stays =
    is_read_lines input texts mid was r ∙ ap (λ v. texts ++ v) s ∙ sym (append_assoc texts more (lines rest))
is_read_joined input texts more mid rest false false r s stays =
    (r.0 ∙ ap (λ v. flat_map with_line_end texts ++ v) s.0 ∙ sym (append_assoc (flat_map with_line_end texts) (flat_map with_line_end more) rest) ∙ ap (λ v. v ++ rest) (sym (ended-append texts more)), all-append texts more r.1 s.1)
is_read_joined input texts more mid rest true false r s stays = absurd (cc (stays refl))

-- one line was taken
pub is_read_line : (text rest line : List ℕ) (at_end : Bool) → TakesLine text rest line at_end → IsRead text (line ∷ []) rest at_end
is_read_line text rest line true t = lines-taken text rest line true t
is_read_line text rest line false (free, inl e) = (e ∙ sym (append_assoc line (10 ∷ []) rest) ∙ ap (λ v. v ++ rest) (sym (append-nil (with_line_end line))), (free, tt))
is_read_line text rest line false (free, inr e) = absurd (cc e.0)

-- before the first line
pub ReadsLines-none : (known : Option (List ℕ)) (at_end : Bool) → ReadsLines known [] known at_end
ReadsLines-none None at_end = tt
ReadsLines-none (Some input) true = refl
ReadsLines-none (Some input) false = (refl, tt)

-- one line more
pub ReadsLines-more : (known old new : Option (List ℕ)) (texts : List (List ℕ)) (line : List ℕ) (was at_end : Bool) → ReadsLines known texts old was → TakesTold old new line at_end → (was ≡ true → at_end ≡ true) → ReadsLines known (texts ++ line ∷ []) new at_end
ReadsLines-more None old new texts line was at_end r t stays = tt
ReadsLines-more (Some input) None new texts line was at_end r t stays = absurd r
ReadsLines-more (Some input) (Some text) None texts line was at_end r t stays = absurd t
ReadsLines-more (Some input) (Some text) (Some rest) texts line was at_end r t stays = is_read_joined input texts (line ∷ []) text rest was at_end r (is_read_line text rest line at_end t) stays

-- a second stage, which began where the first ended
pub ReadsLines-joined : (known mid new : Option (List ℕ)) (texts more : List (List ℕ)) (was at_end : Bool) → ReadsLines known texts mid was → ReadsLines mid more new at_end → (was ≡ true → at_end ≡ true) → ReadsLines known (texts ++ more) new at_end
ReadsLines-joined None mid new texts more was at_end r s stays = tt
ReadsLines-joined (Some input) None new texts more was at_end r s stays = absurd r
ReadsLines-joined (Some input) (Some text) None texts more was at_end r s stays = absurd s
ReadsLines-joined (Some input) (Some text) (Some rest) texts more was at_end r s stays = is_read_joined input texts more text rest was at_end r s stays

-- nothing is left to be taken
pub ReadsAll-end : (known old : Option (List ℕ)) (texts : List (List ℕ)) (at_end : Bool) → ReadsLines known texts old at_end → IsAtEnd old → ReadsAll known texts
ReadsAll-end None old texts at_end r e = tt
ReadsAll-end (Some input) None texts at_end r e = absurd r
ReadsAll-end (Some input) (Some rest) texts at_end r e = is_read_lines input texts rest at_end r ∙ ap (λ v. texts ++ lines v) e ∙ append-nil texts

pub ReadsAll-joined : (known mid : Option (List ℕ)) (texts more : List (List ℕ)) (was : Bool) → ReadsLines known texts mid was → ReadsAll mid more → ReadsAll known (texts ++ more)
ReadsAll-joined None mid texts more was r s = tt
ReadsAll-joined (Some input) None texts more was r s = absurd r
ReadsAll-joined (Some input) (Some text) texts more was r s = is_read_lines input texts text was r ∙ ap (λ v. texts ++ v) s

-- whatever comes behind them
pub ReadsPrefix-now : (known old : Option (List ℕ)) (texts : List (List ℕ)) (at_end : Bool) → ReadsLines known texts old at_end → ReadsPrefix known texts
ReadsPrefix-now None old texts at_end r = tt
ReadsPrefix-now (Some input) None texts at_end r = absurd r
ReadsPrefix-now (Some input) (Some rest) texts at_end r = (lines rest, is_read_lines input texts rest at_end r)

pub ReadsPrefix-before : (known : Option (List ℕ)) (texts more : List (List ℕ)) → ReadsPrefix known (texts ++ more) → ReadsPrefix known texts
ReadsPrefix-before None texts more r = tt
ReadsPrefix-before (Some input) texts more r = (more ++ r.0, r.1 ∙ append_assoc texts more r.0)

pub ReadsPrefix-joined : (known mid : Option (List ℕ)) (texts more : List (List ℕ)) (was : Bool) → ReadsLines known texts mid was → ReadsPrefix mid more → ReadsPrefix known (texts ++ more)
ReadsPrefix-joined None mid texts more was r s = tt
ReadsPrefix-joined (Some input) None texts more was r s = absurd r
ReadsPrefix-joined (Some input) (Some text) texts more was r s =
    (s.0, is_read_lines input texts text was r ∙ ap (λ v. texts ++ v) s.1 ∙ sym (append_assoc texts more s.0))

-- a read failed
pub ReadsUntilFailure-now : (known old remaining : Option (List ℕ)) (texts : List (List ℕ)) (begun : List ℕ) (at_end : Bool) → ReadsLines known texts old at_end → at_end ≡ false → IsBegunLine old remaining begun → ReadsUntilFailure known texts begun remaining
ReadsUntilFailure-now None old remaining texts begun at_end r w b = tt
ReadsUntilFailure-now (Some input) None remaining texts begun at_end r w b = absurd r
ReadsUntilFailure-now (Some input) (Some rest) remaining texts begun at_end r w b =
    let read = rw w at r in
    (b.0, record { whole = read.0 ∙ ap (λ v. flat_map with_line_end texts ++ v) b.1 ∙ sym (append_assoc (flat_map with_line_end texts) begun b.0); each = read.1; no_end = b.2 }, b.3)

pub ReadsUntilFailure-joined : (known mid remaining : Option (List ℕ)) (texts more : List (List ℕ)) (begun : List ℕ) (was : Bool) → ReadsLines known texts mid was → was ≡ false → ReadsUntilFailure mid more begun remaining → ReadsUntilFailure known (texts ++ more) begun remaining
ReadsUntilFailure-joined None mid remaining texts more begun was r w s = tt
ReadsUntilFailure-joined (Some input) None remaining texts more begun was r w s = absurd r
ReadsUntilFailure-joined (Some input) (Some text) remaining texts more begun was r w s =
    let read = rw w at r in
    let regrouped : (flat_map with_line_end more ++ begun) ++ s.0 ≡ flat_map with_line_end more ++ (begun ++ s.0) = append_assoc (flat_map with_line_end more) begun s.0 in
    let joined : flat_map with_line_end (texts ++ more) ++ begun ++ s.0 ≡ flat_map with_line_end texts ++ (flat_map with_line_end more ++ begun ++ s.0) =
    rw (ended-append texts more) (simp append_assoc) in
    (s.0, record { whole = read.0 ∙ ap (λ v. flat_map with_line_end texts ++ v) s.1.whole ∙ sym joined; each = all-append texts more read.1 s.1.each; no_end = s.1.no_end }, s.2)
