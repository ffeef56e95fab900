-- How lines grow.
use Rattle.std.proofs.Common.{◌≡◌, ◌≢◌, ℕ, suc, ◌<◌, Bool, true, false, List, [], ◌∷◌, ◌++◌, length, ◌==◌, cond, refl, sym, ap}
use Rattle.std.proofs.Common.{◌∙◌, append_assoc, append-nil, arith, ◌*◌, replicate, rules}
use Rattle.std.proofs.lemmas.Bool.Decides.{nat_tests}
use Rattle.hir_pretty_layout.specs.declared.line_format.LineFormat.{LineFormat}
use Rattle.hir_pretty_layout.specs.declared.line_format.LineFormat.TheVariants.{Oneline, Newline, Indentation}
use Rattle.hir_pretty_layout.specs.Buffer.{one_more, continue_lines, lines_of}
use Rattle.hir_pretty_layout.specs.internal.Buffer.{HasNoEnd}
use Rattle.hir_pretty_layout.specs.Page.{Lines, Page, begin, is_blank, put, put_all, lines_text, format_in_line, format_after_end, trim, line_ended}
use Rattle.std.proofs.lemmas.Grind.{common_steps}

pub continued-append : (l : Lines) (xs ys : List ℕ) → continue_lines l (xs ++ ys) ≡ continue_lines (continue_lines l xs) ys
continued-append l [] ys = refl
continued-append l (x ∷ xs) ys = continued-append (one_more x l) xs ys

pub lines_of-append : (xs ys : List ℕ) → lines_of (xs ++ ys) ≡ continue_lines (lines_of xs) ys
unfolding lines_of
lines_of-append xs ys = continued-append ([], []) xs ys

not_end : (c : ℕ) → c ≢ 10 → (c == 10) ≡ false
not_end c ne = grind (arith, nat_tests)

-- characters that are no line end stand in the last line
pub continued-plain : (l : Lines) (cs : List ℕ) → HasNoEnd cs → continue_lines l cs ≡ (l.0, l.1 ++ cs)
continued-plain l [] h = ap (λ x. (l.0, x)) (sym (append-nil l.1))
continued-plain l (c ∷ cs) h =
    let here : one_more c l ≡ (l.0, l.1 ++ (c ∷ [])) = ap (λ b. cond b (l.1 ∷ l.0, []) (l.0, l.1 ++ (c ∷ []))) (not_end c (h 0 (omega arith))) in
    ap (λ m. continue_lines m cs) here ∙ continued-plain (l.0, l.1 ++ (c ∷ [])) cs (λ i lt. h (suc i) (omega arith)) ∙ ap (λ x. (l.0, x)) (append_assoc l.1 (c ∷ []) cs)

pub lines_of-plain : (xs cs : List ℕ) → HasNoEnd cs → lines_of (xs ++ cs) ≡ ((lines_of xs).0, (lines_of xs).1 ++ cs)
lines_of-plain xs cs h = lines_of-append xs cs ∙ continued-plain (lines_of xs) cs h

pub lines_of-end : (xs : List ℕ) → lines_of (xs ++ (10 ∷ [])) ≡ ((lines_of xs).1 ∷ (lines_of xs).0, [])
lines_of-end xs = lines_of-append xs (10 ∷ [])

-- a character that is no line end
pub put_plain : (c : ℕ) (p : Page) → c ≢ 10 → put c p ≡ (let q = begin p in record q { last = q.last ++ (c ∷ []); format = format_in_line p.format })
put_plain c p ne = search (rules, not_end)

-- a character that is no line end, within a line
put_in_line : (c : ℕ) (above : List (List ℕ)) (last : List ℕ) (level : ℕ) (format : LineFormat) → c ≢ 10
    → put c (record { above = above; last = last; level = level; format = format_in_line format })
    ≡ record { above = above; last = last ++ (c ∷ []); level = level; format = format_in_line format }
put_in_line c above last level Oneline ne = put_plain c (record { above = above; last = last; level = level; format = Oneline }) ne
put_in_line c above last level Newline ne = put_plain c (record { above = above; last = last; level = level; format = Newline }) ne
put_in_line c above last level Indentation ne = put_plain c (record { above = above; last = last; level = level; format = Newline }) ne

-- a text without a line end, within a line
put_all-plain : (above : List (List ℕ)) (last : List ℕ) (level : ℕ) (format : LineFormat) (cs : List ℕ) → HasNoEnd cs
    → put_all cs (record { above = above; last = last; level = level; format = format_in_line format })
    ≡ record { above = above; last = last ++ cs; level = level; format = format_in_line format }
put_all-plain above last level format [] h = search (rules, append-nil)
put_all-plain above last level format (c ∷ cs) h =
    let page : List ℕ → Page = λ l. record { above = above; last = l; level = level; format = format_in_line format } in
    ap (put_all cs) (put_in_line c above last level format (h 0 (omega arith))) ∙ put_all-plain above (last ++ (c ∷ [])) level format cs (λ i lt. h (suc i) (omega arith))
    ∙ ap page (append_assoc last (c ∷ []) cs)

-- a text without a line end, where text goes on in its line
pub put_all_in_line : (p : Page) (cs : List ℕ) → p.format ≡ format_in_line p.format → HasNoEnd cs → put_all cs p ≡ record p { last = p.last ++ cs }
put_all_in_line p cs e h = grind (arith, common_steps, put_all-plain p.above p.last p.level p.format cs h)

-- a text that is not empty and has no line end
pub put_line : (p : Page) (cs : List ℕ) → 0 < length cs → HasNoEnd cs
    → put_all cs p ≡ (let q = begin p in record q { last = q.last ++ cs; format = format_in_line p.format })
put_line p [] lt h = absurd (omega arith)
put_line p (c ∷ cs) lt h =
    let q = begin p in
    let page : List ℕ → Page = λ l. record { above = q.above; last = l; level = q.level; format = format_in_line p.format } in
    ap (put_all cs) (put_plain c p (h 0 (omega arith))) ∙ put_all-plain q.above (q.last ++ (c ∷ [])) q.level p.format cs (λ i lt. h (suc i) (omega arith))
    ∙ ap page (append_assoc q.last (c ∷ []) cs)

pub put_all-append : (xs ys : List ℕ) (p : Page) → put_all (xs ++ ys) p ≡ put_all ys (put_all xs p)
put_all-append [] ys p = refl
put_all-append (x ∷ xs) ys p = put_all-append xs ys (put x p)

text_continued : (l : Lines) (cs : List ℕ) → lines_text (continue_lines l cs).0 (continue_lines l cs).1 ≡ lines_text l.0 l.1 ++ cs
text_continued l [] = sym (append-nil (lines_text l.0 l.1))
text_continued l (c ∷ cs) = text_continued (one_more c l) cs ∙ ap (λ t. t ++ cs) (text_one_more (c == 10) refl) ∙ append_assoc (lines_text l.0 l.1) (c ∷ []) cs
  where
    in_last : (above : List (List ℕ)) → lines_text above (l.1 ++ (c ∷ [])) ≡ lines_text above l.1 ++ (c ∷ [])
    in_last [] = refl
    in_last (line ∷ above) = sym (append_assoc (lines_text above line) (10 ∷ l.1) (c ∷ []))

    text_one_more : (b : Bool) → (c == 10) ≡ b → lines_text (one_more c l).0 (one_more c l).1 ≡ lines_text l.0 l.1 ++ (c ∷ [])
    text_one_more true e = search (rules, nat_tests)
    text_one_more false e = search (rules, in_last)

-- the lines of a text, joined, are the text
pub text_of_lines : (bs : List ℕ) → lines_text (lines_of bs).0 (lines_of bs).1 ≡ bs
unfolding lines_of
text_of_lines bs = text_continued ([], []) bs

-- a begun line keeps the format
pub begun_format : (p : Page) → (begin p).format ≡ p.format
begun_format p = search rules

-- What a break makes of a line that is not blank, within it and where the next text begins a line.

still_not_blank : (cs : List ℕ) (b : Bool) → cond b (is_blank cs) false ≡ false
    → (is_blank cs ≡ false → is_blank (trim cs) ≡ false) → cond b (is_blank (trim cs)) false ≡ false
still_not_blank cs true e h = h e
still_not_blank cs false e h = refl

trimmed_not_blank : (cs : List ℕ) → is_blank cs ≡ false → is_blank (trim cs) ≡ false
trimmed_not_blank [] e = e
trimmed_not_blank (c ∷ cs) e = ap (λ b. is_blank (cond b [] (c ∷ trim cs))) e ∙ still_not_blank cs (c == 32) e (trimmed_not_blank cs)

pub one_line_ended : (above : List (List ℕ)) (last : List ℕ) (level : ℕ) (format : LineFormat) → format ≢ Indentation → is_blank last ≡ false
    → line_ended (record { above = above; last = last; level = level; format = format })
    ≡ record { above = trim last ∷ above; last = []; level = level; format = format_after_end format }
one_line_ended above last level Oneline ne h = search rules
one_line_ended above last level Newline ne h = search rules
one_line_ended above last level Indentation ne h = absurd (ne refl)

pub two_lines_ended : (p : Page) → p.format ≡ Indentation → is_blank p.last ≡ false
    → line_ended p ≡ record p { above = replicate (4 * p.level) 32 ∷ trim p.last ∷ p.above; last = [] }
two_lines_ended p e h = search (rules, trimmed_not_blank)
