-- Asking for the next line, step by step: what is still to be taken, and what was written.
use Rattle.std.proofs.Common.{◌≡◌, ℕ, Bool, true, false, eqb, List, [], ◌∷◌, ◌++◌, Option, None, Some, Ok, length, ◌⊎◌, inl, inr, refl, sym, ap, ◌∙◌, arith, append_assoc, append-nil, subst}
use Rattle.std.specs.Io.KnownBytes.{Consumes, IsAtEnd, Keeps, Appends, append_known}
use Rattle.std.proofs.lemmas.Bool.Decides.{nat_tests}
use Rattle.hir_show_io.specs.Effects.{IsKeptOrUntold, AppendsPrefix, IsWrittenUpTo}
use Rattle.hir_show_io.proofs.EndLemmas.{Appends-twice, AppendsPrefix-after}
use Rattle.hir_show_io.specs.Text.{HasNoLineEnd, TakesLine}
use Rattle.hir_show_io.specs.LineState.{LineState}
use Rattle.hir_show_io.specs.Reading.{Fills}
use Rattle.hir_show_io.specs.NextLine.{bytes_left, TakesTold, IsBegunLine}

pub Keeps-same : (known : Option (List ℕ)) → Keeps known known
Keeps-same None = tt
Keeps-same (Some xs) = refl

pub Keeps-twice : (old mid new : Option (List ℕ)) → Keeps old mid → Keeps mid new → Keeps old new
Keeps-twice None mid new p q = tt
Keeps-twice (Some xs) None new p q = absurd p
Keeps-twice (Some xs) (Some ys) None p q = absurd q
Keeps-twice (Some xs) (Some ys) (Some zs) p q = q ∙ p

-- a read takes nothing from what is still to be taken
pub filled_keeps : (pending bytes : List ℕ) (rem rem' : Option (List ℕ)) → Consumes rem rem' bytes → (bytes ≡ [] → IsAtEnd rem) → Keeps (bytes_left pending false rem) (bytes_left (pending ++ bytes) (eqb (length bytes) 0) rem')
filled_keeps pending bytes None rem' c e = tt
filled_keeps pending bytes (Some xs) None c e = absurd c
filled_keeps pending [] (Some xs) (Some ys) c e = ap (λ v. pending ++ v) (sym (e refl))
filled_keeps pending (b ∷ bs) (Some xs) (Some ys) c e =
    let some : eqb (length (b ∷ bs)) 0 ≡ false = grind (arith, nat_tests) in
    rw some (append_assoc pending (b ∷ bs) ys ∙ ap (λ v. pending ++ v) (sym c))

pub kept_filled : (old rem rem' : Option (List ℕ)) (before after : LineState) → Keeps old (bytes_left before.pending before.at_end rem) → before.at_end ≡ false → Fills before after rem rem' (Ok tt) → Keeps old (bytes_left after.pending after.at_end rem')
kept_filled old rem rem' before after k more fills =
    let pending : after.pending ≡ before.pending ++ fills.0 = ap (λ v. v.pending) fills.2 in
    let at_end : after.at_end ≡ eqb (length fills.0) 0 = ap (λ v. v.at_end) fills.2 in
    rw (pending, at_end) (Keeps-twice old _ _ (rw more at k) (filled_keeps before.pending fills.0 rem rem' fills.1 fills.3))

-- a line of the pending bytes is one of all that is still to be taken
line_of_more : (pending rest more line : List ℕ) → TakesLine pending rest line false → TakesLine (pending ++ more) (rest ++ more) line false
line_of_more pending rest more line (free, inl e) = (free, inl (ap (λ v. v ++ more) e ∙ append_assoc line (10 ∷ rest) more))
line_of_more pending rest more line (free, inr e) = absurd (cc e.0)

pub taken_told : (pending rest line : List ℕ) (at_end : Bool) (rem : Option (List ℕ)) → TakesLine pending rest line at_end → TakesTold (bytes_left pending at_end rem) (bytes_left rest at_end rem) line at_end
taken_told pending rest line at_end None t = tt
taken_told pending rest line true (Some more) t = t
taken_told pending rest line false (Some more) t = line_of_more pending rest more line t

pub taken_after : (old mid new : Option (List ℕ)) (line : List ℕ) (at_end : Bool) → Keeps old mid → TakesTold mid new line at_end → TakesTold old new line at_end
taken_after None mid new line at_end k t = tt
taken_after (Some xs) None new line at_end k t = absurd k
taken_after (Some xs) (Some ys) None line at_end k t = absurd t
taken_after (Some xs) (Some ys) (Some zs) line at_end k t = let P : List ℕ → Type 0 = λ v. TakesLine v zs line at_end in subst P k t

-- nothing is left where the end was met and nothing is pending
pub none_left : (old rem : Option (List ℕ)) → Keeps old (bytes_left [] true rem) → IsAtEnd old × IsAtEnd (bytes_left [] true rem)
none_left None None k = (tt, tt)
none_left None (Some rest) k = (tt, refl)
none_left (Some xs) None k = absurd k
none_left (Some xs) (Some rest) k = (sym k, refl)

-- a read that failed leaves the beginning of a line
pub begins_line : (old rem rem' : Option (List ℕ)) (pending : List ℕ) → Keeps old (bytes_left pending false rem) → IsKeptOrUntold rem rem' → HasNoLineEnd pending → IsBegunLine old rem' pending
begins_line None rem rem' pending k u free = tt
begins_line (Some xs) None rem' pending k u free = absurd k
begins_line (Some xs) (Some rest) None pending k u free = (rest, sym k, free, tt)
begins_line (Some xs) (Some rest) (Some rest') pending k u free = (rest, sym k, free, cc)

-- what waited was written before the read
pub written_all : (old mid new : Option (List ℕ)) (waiting rest : List ℕ) → IsWrittenUpTo old mid waiting rest → Appends mid new rest → IsWrittenUpTo old new waiting []
written_all old mid new waiting rest w a = (w.0 ++ rest, w.1 ∙ sym (append-nil (w.0 ++ rest)), Appends-twice old mid new w.0 rest w.2 a)

pub written_prefix : (old mid new : Option (List ℕ)) (waiting rest : List ℕ) → IsWrittenUpTo old mid waiting rest → AppendsPrefix mid new rest → AppendsPrefix old new waiting
written_prefix old mid new waiting rest w g = let P : List ℕ → Type 0 = λ v. AppendsPrefix old new v in subst P (sym w.1) (AppendsPrefix-after old mid new w.0 rest w.2 g)

pub written_same : (old new : Option (List ℕ)) (waiting rest : List ℕ) → IsWrittenUpTo old new waiting rest → Keeps (append_known old waiting) (append_known new rest)
written_same None new waiting rest w = tt
written_same (Some xs) None waiting rest w = absurd w.2
written_same (Some xs) (Some ys) waiting rest w = ap (λ v. v ++ rest) w.2 ∙ append_assoc xs w.0 rest ∙ ap (λ v. xs ++ v) (sym w.1)

-- the lines that were asked for had no line end pending, and the end wasn't met
pub late_now : {A B C D : Type 0} (now entry : LineState) → ((A × B × C × (now ≡ entry)) ⊎ (HasNoLineEnd entry.pending × (entry.at_end ≡ false) × D)) → now.at_end ≡ false → HasNoLineEnd now.pending → HasNoLineEnd entry.pending × (entry.at_end ≡ false)
late_now now entry (inl p) more free = (rw p.3 at free, rw p.3 at more)
late_now now entry (inr p) more free = (p.0, p.1)
