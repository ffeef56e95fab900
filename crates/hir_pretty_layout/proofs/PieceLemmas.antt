-- Lists of pieces, written one after another.
use Rattle.std.proofs.Common.{◌≡◌, ◌⊎◌, ℕ, ◌<◌, ◌≤◌, true, false, List, [], ◌∷◌, ◌++◌, length, cond, ◌==◌, nat_lt, codes, refl}
use Rattle.std.proofs.Common.{sym, ap, subst, ◌∙◌, append_assoc, append-nil, arith, rules}
use Rattle.std.specs.Prelude.{Result, Ok, Err, OnErr}
use Rattle.std.specs.Char.{digit_char, encode_utf8, is_ascii_control}
use Rattle.std.proofs.lemmas.Bool.Decides.{nat_tests}
use Rattle.hir_pretty_layout.specs.Layouts.{Layout, Text}
use Rattle.hir_pretty_layout.specs.Steps.{steps, StopsIn}
use Rattle.hir_pretty_layout.specs.Literals.{escaped_by, long_escape, control_escape, hexadecimal, two_digits, byte_escape}
use Rattle.std.proofs.lemmas.Grind.{common_steps}

-- what is true whatever was answered
pub on_err : {T E P : Type 0} (r : Result T E) → P → OnErr r P
on_err (Ok x) p = tt
on_err (Err e) p = p

module _ {W : Type 0} (step : Layout → W → W) where
  pub steps-append : (ps qs : List Layout) (value : W) → steps step (ps ++ qs) value ≡ steps step qs (steps step ps value)
  steps-append [] qs value = refl
  steps-append (p ∷ ps) qs value = steps-append ps qs (step p value)

-- The first pieces of a list were written, and these are left.
pub record LeftOf {W : Type 0} (step : Layout → W → W) (whole rest : List Layout) (old new : W) : Type 0 where
  pub done : List Layout
  pub parts : whole ≡ done ++ rest
  pub value : new ≡ steps step done old

module _ {W : Type 0} {step : Layout → W → W} where
  pub all_left : {ps : List Layout} {value : W} → LeftOf step ps ps value value
  all_left = record { done = []; parts = refl; value = refl }

  pub some_written : {whole : List Layout} (ps : List Layout) {rest : List Layout} {old between new : W}
      → LeftOf step whole (ps ++ rest) old between → new ≡ steps step ps between → LeftOf step whole rest old new
  some_written ps {rest} {old} l e = grind (arith, common_steps, append_assoc l.done ps rest, steps-append step l.done ps old)

  pub none_left : {whole : List Layout} {old new : W} → LeftOf step whole [] old new → new ≡ steps step whole old
  none_left {old = old} l = l.value ∙ ap (λ ps. steps step ps old) (sym (l.parts ∙ append-nil l.done))

module _ {W : Type 0} {step : Layout → W → W} {refuses : Layout → W → W → Type 0} where
  pub stops_in_rest : {whole ps : List Layout} (rest : List Layout) {old between new : W}
      → LeftOf step whole (ps ++ rest) old between → StopsIn step refuses ps between new → StopsIn step refuses whole old new
  stops_in_rest rest {old} {new = new} l s =
      grind (
        arith,
        common_steps,
        append_assoc s.before (s.refused ∷ s.after) rest,
        append_assoc l.done s.before (s.refused ∷ (s.after ++ rest)),
        steps-append step l.done s.before old,
      )

  -- a list whose first piece is refused, or is written
  pub stops_here : {p : Layout} {ps : List Layout} {old new : W} → refuses p old new → StopsIn step refuses (p ∷ ps) old new
  stops_here {p} {ps} r = record { before = []; refused = p; after = ps; parts = refl; value = r }

  pub stops_next : {p : Layout} {ps : List Layout} {old between new : W} → between ≡ step p old
      → StopsIn step refuses ps between new → StopsIn step refuses (p ∷ ps) old new
  stops_next {p} {new = new} e s = record {
    before = p ∷ s.before;
    refused = s.refused;
    after = s.after;
    parts = ap (λ ps. p ∷ ps) s.parts;
    value = subst (λ v. refuses s.refused v new) (ap (steps step s.before) e) s.value;
  }

  -- pieces between two others
  pub stops_inside : {first : Layout} (last : Layout) {ps : List Layout} {old one new : W} → one ≡ step first old
      → StopsIn step refuses ps one new → StopsIn step refuses (first ∷ (ps ++ (last ∷ []))) old new
  stops_inside last e s = stops_next e (stops_in_rest (last ∷ []) all_left s)

  pub stops_at_last : {first : Layout} (last : Layout) (ps : List Layout) {old one two new : W} → one ≡ step first old
      → two ≡ steps step ps one → refuses last two new → StopsIn step refuses (first ∷ (ps ++ (last ∷ []))) old new
  stops_at_last last ps e f r = stops_next e (stops_in_rest [] (some_written ps all_left f) (stops_here {p = last} {ps = []} r))

pub long_plain : (c : ℕ) → is_ascii_control c ≡ false → long_escape c ≡ Text (encode_utf8 c) ∷ []
long_plain c e = ap (λ b. cond b (control_escape c) (Text (encode_utf8 c) ∷ [])) e

pub long_control : (c : ℕ) → is_ascii_control c ≡ true → long_escape c ≡ control_escape c
long_control c e = ap (λ b. cond b (control_escape c) (Text (encode_utf8 c) ∷ [])) e

pub hexadecimal_one : (n : ℕ) → n < 16 → hexadecimal n ≡ Text (digit_char n ∷ []) ∷ []
hexadecimal_one n lt = let e : nat_lt n 16 ≡ true = grind (arith, nat_tests) in ap (λ b. cond b (Text (digit_char n ∷ []) ∷ []) (two_digits n)) e

pub byte_plain : (b : ℕ) → 32 ≤ b → b ≤ 126 → byte_escape b ≡ Text (b ∷ []) ∷ []
byte_plain b low high = search (rules, nat_tests)

pub byte_coded : (b : ℕ) → (b < 32) ⊎ ((32 ≤ b) × (126 < b)) → byte_escape b ≡ Text (codes "\\x") ∷ two_digits b
byte_coded b e = search (rules, nat_tests)

-- the piece of a text that is the escape, where there is one
pub is_escape : (escape : List ℕ) (long : List Layout) → (length escape == 0) ≡ false → escaped_by escape long ≡ Text escape ∷ []
is_escape [] long e = absurd (cc)
is_escape (c ∷ cs) long e = refl

pub no_escape : (escape : List ℕ) (long : List Layout) → (length escape == 0) ≡ true → escaped_by escape long ≡ long
no_escape [] long e = refl
no_escape (c ∷ cs) long e = absurd (grind (arith, nat_tests))

pub ruleset pieces = (steps-append, all_left, stops_here, stops_next, stops_inside, stops_at_last, is_escape, long_plain, hexadecimal_one)
