-- What a page becomes as the text grows.
use Rattle.std.proofs.Common.{◌≡◌, ℕ, suc, false, List, [], ◌∷◌, ◌++◌, length, get_or, take, replicate, ◌-◌, ◌*◌, ◌≢◌, ◌==◌, ◌||◌}
use Rattle.std.proofs.Common.{nat_lt, refl, sym, ap, ◌∙◌, arith, ◌≤◌, subst, append_assoc, append-nil, rules}
use Rattle.std.proofs.lemmas.Bool.Decides.{nat_tests}
use Rattle.hir_pretty_layout.specs.declared.line_format.LineFormat.{LineFormat}
use Rattle.hir_pretty_layout.specs.declared.line_format.LineFormat.TheVariants.{Indentation}
use Rattle.hir_pretty_layout.specs.Buffer.{lines_of, IsTrimmedLen, IsGrown}
use Rattle.hir_pretty_layout.specs.internal.Buffer.{HasNoEnd}
use Rattle.hir_pretty_layout.specs.Page.{Lines, Page, is_blank, trim, ends_in_space, is_empty_line, is_empty_text, lines_text, page_text, line_ended, format_after_end}
use Rattle.hir_pretty_layout.proofs.PageLemmas.{lines_of-plain, lines_of-end, text_of_lines, one_line_ended, two_lines_ended}
use Rattle.hir_pretty_layout.proofs.EndLemmas.{no_end_in_spaces, ending, indentation_more}
use Rattle.std.specs.Str.{IsUtf8}
use Rattle.std.proofs.lemmas.Str.{IsCharBoundary-from_take}
use Rattle.std.proofs.Math.Seq.{take-append_seam}
use Rattle.std.specs.String.Boundary.{IsSplitPoint}
use Rattle.std.proofs.lemmas.Grind.{common_steps}

-- the page of a text, a level and a format
abbrev pub page : List ℕ → ℕ → LineFormat → Page
page bs level format = let l = lines_of bs in record { above = l.0; last = l.1; level = level; format = format }

pub page_plain : (bs cs : List ℕ) (level : ℕ) (format : LineFormat) → HasNoEnd cs
    → page (bs ++ cs) level format ≡ record (page bs level format) { last = (lines_of bs).1 ++ cs }
page_plain bs cs level format h = let make : Lines → Page = λ l. record { above = l.0; last = l.1; level = level; format = format } in ap make (lines_of-plain bs cs h)

pub page_spaces : (bs : List ℕ) (n level : ℕ) (format : LineFormat)
    → page (bs ++ replicate n 32) level format ≡ record (page bs level format) { last = (lines_of bs).1 ++ replicate n 32 }
page_spaces bs n level format = page_plain bs (replicate n 32) level format (no_end_in_spaces n)

pub page_end : (bs : List ℕ) (level : ℕ) (format : LineFormat)
    → page (bs ++ (10 ∷ [])) level format ≡ record { above = (lines_of bs).1 ∷ (lines_of bs).0; last = []; level = level; format = format }
page_end bs level format = let make : Lines → Page = λ l. record { above = l.0; last = l.1; level = level; format = format } in ap make (lines_of-end bs)

-- whether the last line is blank, by the trimmed length
pub blank_by_len : (text : List ℕ) (len : ℕ) → IsTrimmedLen text len → is_blank (lines_of text).1 ≡ ((len == 0) || (get_or text (len - 1) 0 == 10))
blank_by_len text len t = grind (arith, common_steps, ending text len t)

-- the text up to its trimmed length is that without its trailing spaces
pub page_trimmed : (text : List ℕ) (len level : ℕ) (format : LineFormat) → IsTrimmedLen text len
    → page (take len text) level format ≡ record (page text level format) { last = trim (lines_of text).1 }
page_trimmed text len level format t = grind (arith, common_steps, ending text len t)

-- a page whose last line is not blank, after a break in lines
module _ (text : List ℕ) (len level : ℕ) (t : IsTrimmedLen text len) (some : is_blank (lines_of text).1 ≡ false) where
  abbrev ended : Page → Page
  ended q = record q { above = q.last ∷ q.above; last = [] }

  one_end : (format : LineFormat) → page (take len text ++ (10 ∷ [])) level format ≡ ended (record (page text level format) { last = trim (lines_of text).1 })
  one_end format = page_end (take len text) level format ∙ ap ended (page_trimmed text len level format t)

  pub ended_in_line : (format : LineFormat) → format ≢ Indentation
      → page (take len text ++ (10 ∷ [])) level (format_after_end format) ≡ line_ended (page text level format)
  ended_in_line format ne = one_end (format_after_end format) ∙ sym (one_line_ended (lines_of text).0 (lines_of text).1 level format ne some)

  pub ended_twice : page (((take len text ++ (10 ∷ [])) ++ replicate (4 * level) 32) ++ (10 ∷ [])) level Indentation ≡ line_ended (page text level Indentation)
  ended_twice =
      let indented : Page → Page = λ q. ended (record q { last = q.last ++ replicate (4 * level) 32 }) in
      page_end _ level Indentation ∙ ap ended (page_spaces _ (4 * level) level Indentation) ∙ ap indented (one_end Indentation)
      ∙ sym (two_lines_ended (page text level Indentation) refl some)

-- whether the last line ends in a space, and whether there is no text
pub space_by_len : (text : List ℕ) (len : ℕ) → IsTrimmedLen text len → ends_in_space (lines_of text).1 ≡ nat_lt len (length text)
space_by_len text len t = grind (arith, common_steps, ending text len t, nat_tests)

not_zero : (n : ℕ) → (suc n == 0) ≡ false
not_zero n = grind (arith, nat_tests)

empty_by_text : (above : List (List ℕ)) (last : List ℕ) → is_empty_text above last ≡ is_empty_line (lines_text above last)
empty_by_text [] last = refl
empty_by_text (line ∷ above) last = some (lines_text above line)
  where
    some : (cs : List ℕ) → false ≡ is_empty_line (cs ++ (10 ∷ last))
    some [] = refl
    some (c ∷ cs) = refl

pub empty_by_len : (text : List ℕ) → is_empty_text (lines_of text).0 (lines_of text).1 ≡ (length text == 0)
empty_by_len text = search (rules, empty_by_text, text_of_lines, not_zero)

-- Pages to which text was added.

pub grown_none : {p : Page} → IsGrown p p
grown_none {p} = record { added = []; text = sym (append-nil (page_text p)); level = refl }

pub grown_then : {p q r : Page} → IsGrown p q → IsGrown q r → IsGrown p r
grown_then {p} {q} {r} g h = search (rules, append_assoc)

pub grown_by : (bs added : List ℕ) (level : ℕ) (format : LineFormat) → IsGrown (page bs level format) (page (bs ++ added) level format)
grown_by bs added level format = record { added = added; text = text_of_lines (bs ++ added) ∙ ap (λ t. t ++ added) (sym (text_of_lines bs)); level = refl }

-- the text that was there is left where what was added is cut off
pub grown_back : (bs cs : List ℕ) {l m : ℕ} {f g : LineFormat} (n : ℕ) → n ≡ length bs → IsGrown (page bs l f) (page cs m g) → take n cs ≡ bs
grown_back bs cs n e h = search (rules, text_of_lines, take-append_seam)

pub grown_cut : (bs cs : List ℕ) {l m : ℕ} {f g : LineFormat} (n : ℕ) → IsUtf8 bs → IsUtf8 cs → n ≡ length bs → n ≤ length cs
    → IsGrown (page bs l f) (page cs m g) → IsSplitPoint cs n
grown_cut bs cs n u v e le h =
    let b = IsCharBoundary-from_take cs n v le (subst IsUtf8 (sym (grown_back bs cs n e h)) u) in
    (b.0, λ some. b.1)

pub ruleset grown = (grown_none, grown_then, grown_by, lines_of-plain, lines_of-end, no_end_in_spaces, indentation_more)
