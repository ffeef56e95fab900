-- The end of a text: its trailing spaces and what stands before them.
use Rattle.std.proofs.Common.{◌≡◌, ◌≢◌, ℕ, zero, suc, ◌+◌, ◌-◌, ◌<◌, ◌≤◌, Bool, true, false, List, [], ◌∷◌, ◌++◌, length, get_or}
use Rattle.std.proofs.Common.{take, drop, take-append-drop, replicate, ◌==◌, ◌||◌, cond, refl, sym, ap, ap₂, ◌∙◌, nat_lt}
use Rattle.std.proofs.Common.{append-nil, arith, ◌*◌, length-append, rules}
use Rattle.std.proofs.lemmas.Bool.Decides.{nat_tests}
use Rattle.std.proofs.lemmas.Grind.{common_steps}
use Rattle.std.proofs.lemmas.List.{drop_more, take_more, take_all, drop-append-le, length-replicate, get_or_append_left, get_or-append-add, replicate-append-replicate}
use Rattle.hir_pretty_layout.specs.Buffer.{lines_of, IsTrimmedLen, level_of}
use Rattle.hir_pretty_layout.specs.internal.Buffer.{HasNoEnd}
use Rattle.hir_pretty_layout.specs.Page.{Lines, cut_lines, is_blank, trim, ends_in_space, is_empty_line}
use Rattle.hir_pretty_layout.proofs.PageLemmas.{lines_of-plain, lines_of-end}
use Rattle.std.proofs.Math.Seq.{drop-append-add}

pub spaces_more : (text : List ℕ) (n : ℕ) → 0 < n → n ≤ length text → get_or text (n - 1) 0 ≡ 32 → drop n text ≡ replicate (length text - n) 32
    → drop (n - 1) text ≡ replicate (length text - (n - 1)) 32
spaces_more text zero lt le e d = absurd (omega arith)
spaces_more text (suc n) lt le e d =
    let one : suc n - 1 ≡ n = omega arith in
    let count : length text - n ≡ suc (length text - suc n) = omega arith in
    rw (one, count) (drop_more text n 0 (omega arith) ∙ ap₂ (λ c cs. c ∷ cs) (rw one at e) (ap (λ k. drop k text) (let s : n + 1 ≡ suc n = omega arith in s) ∙ d))

pub no_end_in_spaces : (n : ℕ) → HasNoEnd (replicate n 32)
no_end_in_spaces n i lt e = absurd (grind (arith, common_steps))

is_space : (c : ℕ) → c ≢ 32 → (c == 32) ≡ false
is_space c ne = grind (arith, nat_tests)

blank_spaces : (n : ℕ) → is_blank (replicate n 32) ≡ true
blank_spaces zero = refl
blank_spaces (suc n) = blank_spaces n

blank_not : (x : List ℕ) (c n : ℕ) → c ≢ 32 → is_blank ((x ++ (c ∷ [])) ++ replicate n 32) ≡ false
blank_not [] c n ne = ap (λ b. cond b (is_blank (replicate n 32)) false) (is_space c ne)
blank_not (d ∷ x) c n ne = search (rules, blank_not x c n ne)

trimmed_spaces : (n : ℕ) → trim (replicate n 32) ≡ []
trimmed_spaces zero = refl
trimmed_spaces (suc n) = ap (λ b. cond b [] (32 ∷ trim (replicate n 32))) (blank_spaces n)

trimmed_kept : (x : List ℕ) (c n : ℕ) → c ≢ 32 → trim ((x ++ (c ∷ [])) ++ replicate n 32) ≡ x ++ (c ∷ [])
trimmed_kept [] c n ne = search (rules, blank_not, trimmed_spaces)
trimmed_kept (d ∷ x) c n ne = search (rules, blank_not, trimmed_kept x c n ne)

-- a line that ends in a space, and one that doesn't
ends_spaces : (x : List ℕ) (n : ℕ) → ends_in_space (x ++ replicate (suc n) 32) ≡ true
ends_spaces [] zero = refl
ends_spaces [] (suc n) = ends_spaces [] n
ends_spaces (d ∷ []) n = ends_spaces [] n
ends_spaces (d ∷ e ∷ x) n = ends_spaces (e ∷ x) n

space_push : (x : List ℕ) (c : ℕ) → ends_in_space (x ++ (c ∷ [])) ≡ (c == 32)
space_push [] c = refl
space_push (d ∷ []) c = refl
space_push (d ∷ e ∷ x) c = space_push (e ∷ x) c

none_less : nat_lt 0 zero ≡ false
none_less = grind (arith, nat_tests)

some_more : (n : ℕ) → nat_lt 0 (suc n) ≡ true
some_more n = grind (arith, nat_tests)

space_if_some : (x : List ℕ) (n : ℕ) → ends_in_space x ≡ false → ends_in_space (x ++ replicate n 32) ≡ nat_lt 0 n
space_if_some x zero e = ap ends_in_space (append-nil x) ∙ e ∙ sym none_less
space_if_some x (suc n) e = ends_spaces x n ∙ sym (some_more n)

pub unspaced_blank : (line : List ℕ) → ends_in_space line ≡ false → is_blank line ≡ is_empty_line line
unspaced_blank [] e = refl
unspaced_blank (c ∷ []) e = ap (λ b. cond b true false) e
unspaced_blank (c ∷ d ∷ cs) e = search (rules, unspaced_blank (d ∷ cs) e)

-- The lines of a text, by its trimmed length: the lines above, the last line without its trailing spaces, and what is known of it.
pub record Ending (text : List ℕ) (len : ℕ) : Type 0 where
  pub above : List (List ℕ)
  pub kept : List ℕ
  pub whole : lines_of text ≡ (above, kept ++ replicate (length text - len) 32)
  pub short : lines_of (take len text) ≡ (above, kept)
  pub blank : is_blank (kept ++ replicate (length text - len) 32) ≡ is_empty_line kept
  pub cut : trim (kept ++ replicate (length text - len) 32) ≡ kept
  pub space : ends_in_space (kept ++ replicate (length text - len) 32) ≡ nat_lt 0 (length text - len)
  pub empty : is_empty_line kept ≡ ((len == 0) || (get_or text (len - 1) 0 == 10))

module _ (text : List ℕ) (len : ℕ) (t : IsTrimmedLen text len) where
  whole_of : (above : List (List ℕ)) (kept : List ℕ) → lines_of (take len text) ≡ (above, kept) → lines_of text ≡ (above, kept ++ replicate (length text - len) 32)
  whole_of above kept short =
      let spaces = replicate (length text - len) 32 in
      let parts : text ≡ take len text ++ spaces = sym (take-append-drop len text) ∙ ap (λ d. take len text ++ d) t.spaces in
      let lines : Lines → Lines = λ l. (l.0, l.1 ++ spaces) in
      ap lines_of parts ∙ lines_of-plain (take len text) spaces (no_end_in_spaces (length text - len)) ∙ ap lines short

pub no_end_one : (c : ℕ) → c ≢ 10 → HasNoEnd (c ∷ [])
no_end_one c ne zero lt = ne
no_end_one c ne (suc i) lt = absurd (omega arith)

pub empty_push : (x : List ℕ) (c : ℕ) → is_empty_line (x ++ (c ∷ [])) ≡ false
empty_push [] c = refl
empty_push (d ∷ x) c = refl

pub lines_of-nil : lines_of [] ≡ ([], [])
unfolding lines_of
lines_of-nil = refl

pub ending : (text : List ℕ) (len : ℕ) → IsTrimmedLen text len → Ending text len
ending text zero t = search (rules, whole_of, lines_of-nil, blank_spaces, trimmed_spaces, space_if_some)
ending text (suc n) t = by_end (get_or text n 0 == 10) refl
  where
    index : suc n - 1 ≡ n
    index = omega arith

    last : ℕ
    last = get_or text n 0

    taken : take (suc n) text ≡ take n text ++ (get_or text n 0 ∷ [])
    taken = let lt = t.within in let s : suc n ≡ n + 1 = omega arith in rw s (take_more text n 0 (omega arith))

    empty_is : (k : List ℕ) (b : Bool) → (get_or text n 0 == 10) ≡ b → is_empty_line k ≡ b → is_empty_line k ≡ ((suc n == 0) || (get_or text (suc n - 1) 0 == 10))
    empty_is k b e f = let zero_not : (suc n == 0) ≡ false = grind (arith, nat_tests) in rw (index, zero_not, e) f

    by_end : (b : Bool) → (get_or text n 0 == 10) ≡ b → Ending text (suc n)
    by_end true e =
        let ends : get_or text n 0 ≡ 10 = grind (arith, nat_tests) in
        let lines = lines_of (take n text) in
        let short : lines_of (take (suc n) text) ≡ (lines.1 ∷ lines.0, []) = ap lines_of (rw ends at taken) ∙ lines_of-end (take n text) in
        record {
          above = lines.1 ∷ lines.0;
          kept = [];
          whole = whole_of text (suc n) t (lines.1 ∷ lines.0) [] short;
          short = short;
          blank = blank_spaces (length text - suc n);
          cut = trimmed_spaces (length text - suc n);
          space = space_if_some [] (length text - suc n) refl;
          empty = empty_is [] true e refl;
        }
    by_end false e =
        let c = get_or text n 0 in
        let differs : c ≢ 10 = grind (arith, nat_tests) in
        let no_end = no_end_one c differs in
        let no_space : c ≢ 32 = rw index at (t.before (omega arith)) in
        let lines = lines_of (take n text) in
        let short : lines_of (take (suc n) text) ≡ (lines.0, lines.1 ++ (c ∷ [])) = ap lines_of taken ∙ lines_of-plain (take n text) (c ∷ []) no_end in
        record {
          above = lines.0;
          kept = lines.1 ++ (c ∷ []);
          whole = whole_of text (suc n) t lines.0 (lines.1 ++ (c ∷ [])) short;
          short = short;
          blank = blank_not lines.1 c (length text - suc n) no_space ∙ sym (empty_push lines.1 c);
          cut = trimmed_kept lines.1 c (length text - suc n) no_space;
          space = space_if_some (lines.1 ++ (c ∷ [])) (length text - suc n) (space_push lines.1 c ∙ is_space c no_space);
          empty = empty_is (lines.1 ++ (c ∷ [])) false e (empty_push lines.1 c);
        }

-- the last character and what is before it, where the text doesn't end in a line end
lines_in_line : (text : List ℕ) → 0 < length text → ((front : List ℕ) → text ≢ front ++ (10 ∷ []))
    → lines_of text ≡ ((lines_of (take (length text - 1) text)).0, (lines_of (take (length text - 1) text)).1 ++ (get_or text (length text - 1) 0 ∷ []))
lines_in_line text some h =
    let front = take (length text - 1) text in
    let last = get_or text (length text - 1) 0 in
    let whole : text ≡ front ++ (last ∷ []) = search (rules, take_all, take_more) in
    ap lines_of whole ∙ lines_of-plain front (last ∷ []) (no_end_one last (λ e. h front (rw e at whole)))

cut_push : (above : List (List ℕ)) (x : List ℕ) (c : ℕ) → cut_lines above (x ++ (c ∷ [])) ≡ (above, x ++ (c ∷ []))
cut_push [] x c = refl
cut_push (line ∷ above) [] c = refl
cut_push (line ∷ above) (d ∷ x) c = refl

-- a text that does not end in a line end is cut
pub cut_done : (text : List ℕ) → ((front : List ℕ) → text ≢ front ++ (10 ∷ [])) → cut_lines (lines_of text).0 (lines_of text).1 ≡ lines_of text
cut_done [] h = ap (λ l. cut_lines l.0 l.1) lines_of-nil ∙ sym lines_of-nil
cut_done (b ∷ bs) h = search (rules, lines_in_line, cut_push)

-- a text that does is cut as the text before its last character
pub cut_more : (text : List ℕ) → text ≡ take (length text - 1) text ++ (10 ∷ [])
    → cut_lines (lines_of text).0 (lines_of text).1 ≡ (let l = lines_of (take (length text - 1) text) in cut_lines l.0 l.1)
cut_more text e = ap (λ l. cut_lines l.0 l.1) (ap lines_of e ∙ lines_of-end (take (length text - 1) text))

-- The length of a text without its trailing spaces, as the text grows.

-- spaces more
pub kept_spaces : (text : List ℕ) (kept n : ℕ) → IsTrimmedLen text kept → IsTrimmedLen (text ++ replicate n 32) kept
kept_spaces text kept n t = search (rules, length-append, length-replicate, drop-append-le, replicate-append-replicate, get_or_append_left)

-- a part more that doesn't hold spaces alone
pub kept_part : (text part : List ℕ) (of_part : ℕ) → IsTrimmedLen part of_part → 0 < of_part → IsTrimmedLen (text ++ part) (length text + of_part)
kept_part text part of_part t some = search (rules, length-append, drop-append-add, get_or-append-add)

-- a part more that holds spaces alone
pub kept_blank : (text part : List ℕ) (kept : ℕ) → IsTrimmedLen text kept → IsTrimmedLen part 0 → IsTrimmedLen (text ++ part) kept
kept_blank text part kept t blank = grind (arith, common_steps, kept_spaces)

-- an indentation of so many levels
pub level_is : (spaces : List ℕ) (level : ℕ) → spaces ≡ replicate (4 * level) 32 → level_of spaces ≡ level
level_is spaces level e = search (rules, length-replicate)

pub indentation_more : (spaces : List ℕ) → spaces ≡ replicate (4 * level_of spaces) 32
    → (spaces ++ replicate 4 32 ≡ replicate (4 * level_of (spaces ++ replicate 4 32)) 32) × (level_of (spaces ++ replicate 4 32) ≡ level_of spaces + 1)
indentation_more spaces e =
    let level = level_of spaces in
    let sum : 4 * level + 4 ≡ 4 * (level + 1) = omega arith in
    let more : spaces ++ replicate 4 32 ≡ replicate (4 * (level + 1)) 32 = ap (λ s. s ++ replicate 4 32) e
    ∙ replicate-append-replicate (4 * level) 4 32 ∙ ap (λ k. replicate k 32) sum in
    let is = level_is (spaces ++ replicate 4 32) (level + 1) more in
    (more ∙ ap (λ l. replicate (4 * l) 32) (sym is), is)
