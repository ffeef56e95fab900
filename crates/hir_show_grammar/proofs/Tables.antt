-- What stands behind a first word is read by its form in a table.
use Rattle.std.proofs.Common.{◌≡◌, ◌≢◌, ℕ, Bool, true, false, List, [], ◌∷◌, Option, None, Some, Result, Ok, Err, refl, sym, ap, ◌∙◌, subst, length, arith}
use Rattle.std.specs.Prelude.{◌↔◌, MatchResult, if◌then◌else◌, ⊤}
use Rattle.std.specs.Option.{option_map, option_and_then}
use Rattle.std.specs.Str.{bytes_eq}
use Rattle.std.proofs.lemmas.Bool.{false≢true}
use Rattle.hir_show_grammar.specs.declared.question.Question.{Question}
use Rattle.hir_show_grammar.specs.declared.line_error.LineError.{LineError}
use Rattle.hir_show_grammar.specs.Line.{Line, Blank, asks, by_words, line_of, maker, maker_forms, makes, question, question_forms}
use Rattle.hir_show_grammar.specs.Makers.{Maker}
use Rattle.hir_show_grammar.specs.Readings.{Reading, ◌>>=◌, alone, gives, look_up, split_parts, whole}
use Rattle.hir_show_grammar.specs.internal.Readings.{StartsOtherwise}
use Rattle.hir_show_grammar.specs.LineEffects.{Makes, PutsRead, Steps, with, with_line}
use Rattle.hir_show_grammar.specs.Words.{by, one_of}
use Rattle.hir_show_grammar.proofs.Forms.{same_bytes}
use Rattle.hir_show_grammar.proofs.WrittenLines.{asks_it}

-- no word of the table stands first
abbrev pub NoneFirst : {Y : Type 0} → List (List ℕ × Reading Y) → List (List ℕ) → Type 0
NoneFirst [] words = ⊤
NoneFirst (form ∷ forms) words = StartsOtherwise form.0 words × NoneFirst forms words

none_found : {Y : Type 0} (forms : List (List ℕ × Reading Y)) (word : List ℕ) (words : List (List ℕ)) → NoneFirst forms (word ∷ words) → look_up forms word ≡ None
none_found [] word words h = refl
none_found {Y} (form ∷ forms) word words h = by_test (none_found forms word words h.1) (bytes_eq word form.0) refl where
  by_test : look_up forms word ≡ None → (same : Bool) → bytes_eq word form.0 ≡ same → (if same then Some form.1 else look_up forms word) ≡ None
  by_test others true is = absurd (h.0 words (ap (λ w. w ∷ words) (same_bytes word form.0 is)))
  by_test others false is = others

pub form_of : {Y : Type 0} (forms : List (List ℕ × Reading Y)) (head : List ℕ) {found : Option (Reading Y)} → look_up forms head ≡ found → (words mid : List (List ℕ)) → words ≡ head ∷ mid → one_of forms words ≡ by found mid
form_of forms head is words mid e = ap (one_of forms) e ∙ ap (λ found. by found mid) is

abbrev all : {Y : Type 0} → Option (Y × List (List ℕ)) → Option Y
all {Y} found = option_and_then (λ (f : Y × List (List ℕ)). alone f.0 f.1) found

pub whole_by : {Y : Type 0} (forms : List (List ℕ × Reading Y)) (head : List ℕ) (form : Reading Y) → look_up forms head ≡ Some form → (words mid : List (List ℕ)) → words ≡ head ∷ mid → whole (one_of forms) words ≡ whole form mid
whole_by forms head form is words mid e = ap all (form_of forms head is words mid e)

pub whole_none : {Y : Type 0} (forms : List (List ℕ × Reading Y)) (words : List (List ℕ)) → NoneFirst forms words → whole (one_of forms) words ≡ None
whole_none forms [] h = refl
whole_none forms (word ∷ words) h = ap (λ found. all (by found words)) (none_found forms word words h)

-- a form that makes something of what another one says
pub whole_then : {X Y : Type 0} (make : X → Y) (inner : Reading X) (words : List (List ℕ)) → whole (inner >>= λ x. gives (make x)) words ≡ option_map make (whole inner words)
whole_then {X} make inner words = by_found (inner words) where
  by_found : (found : Option (X × List (List ℕ))) → all (option_and_then (λ (f : X × List (List ℕ)). gives (make f.0) f.1) found) ≡ option_map make (all found)
  by_found None = refl
  by_found (Some f) = by_rest f.1 where
    by_rest : (rest : List (List ℕ)) → alone (make f.0) rest ≡ option_map make (alone f.0 rest)
    by_rest [] = refl
    by_rest (word ∷ words) = refl

module _ {B : Type 0} (has_self has_name : B → Bool) (add : B → Maker → B) (old new : B) where
  abbrev then_with : {X : Type 0} → (X → Maker) → Option X → Option B
  then_with make found = option_and_then (λ x. with has_self has_name add old (make x)) found

  -- a line by the word that it begins with
  made_line : (text head : List ℕ) (form : Reading Maker) (mid : List (List ℕ)) → (length text ≡ 0 → ⊥) → look_up maker_forms head ≡ Some form → look_up question_forms head ≡ None → split_parts 32 text ≡ head ∷ mid → line_of text ≡ by_words (whole form mid) None
  unfolding line_of maker question
  made_line [] head form mid some is none e = absurd (some refl)
  made_line (b ∷ bs) head form mid some is none e =
      ap (λ m. by_words m (whole question (split_parts 32 (b ∷ bs)))) (whole_by maker_forms head form is _ mid e)
      ∙ ap (λ q. by_words (whole form mid) q) (ap all (form_of question_forms head none _ mid e))

  with_made : (found : Option Maker) → with_line has_self has_name add old (by_words found None) ≡ then_with (λ maker. maker) found
  with_made None = refl
  with_made (Some made) = refl

  made_asks : (found : Option Maker) → asks (by_words found None) ≡ false
  made_asks None = refl
  made_asks (Some made) = refl

  taken_so : (line : Line) (found : Option B) (outcome : Result (Unit {0}) LineError) (result : Result Bool LineError) → with_line has_self has_name add old line ≡ found → asks line ≡ false → Steps found old new outcome →
      MatchResult outcome (λ done. result ≡ Ok true) (λ why. result ≡ Err why) → Makes has_self has_name add line old new result
  taken_so line found (Ok done) result e asked steps is =
      subst (λ r. Makes has_self has_name add line old new r) (sym is) (λ _. e ∙ steps, λ wrong. absurd (false≢true (sym wrong)))
  taken_so line found (Err why) result e asked steps is =
      subst (λ r. Makes has_self has_name add line old new r) (sym is) (steps.0, asked, (λ bad. e ∙ steps.1.0 bad, λ none. steps.1.1 (sym e ∙ none)))

  -- a line is taken by the form of its first word
  pub takes_by : (text head : List ℕ) (form : Reading Maker) (mid : List (List ℕ)) → (length text ≡ 0 → ⊥) → look_up maker_forms head ≡ Some form → look_up question_forms head ≡ None → split_parts 32 text ≡ head ∷ mid →
      (outcome : Result (Unit {0}) LineError) (result : Result Bool LineError) → PutsRead has_self has_name add (λ maker. maker) form mid old new outcome → MatchResult outcome (λ done. result ≡ Ok true) (λ why. result ≡ Err why) →
      Makes has_self has_name add (line_of text) old new result
  takes_by text head form mid some is none e outcome result puts taken =
      let line = made_line text head form mid some is none e in
      taken_so (line_of text) _ outcome result (ap (with_line has_self has_name add old) line ∙ with_made (whole form mid)) (ap asks line ∙ made_asks (whole form mid)) puts taken

  -- so where the form makes something of what another one says
  pub inner_put : {X : Type 0} (make : X → Maker) (inner : Reading X) (mid : List (List ℕ)) (outcome : Result (Unit {0}) LineError) → PutsRead has_self has_name add make inner mid old new outcome →
      PutsRead has_self has_name add (λ maker. maker) (inner >>= λ x. gives (make x)) mid old new outcome
  inner_put {X} make inner mid outcome puts =
      subst (λ (found : Option B). Steps found old new outcome) (sym (ap (then_with (λ maker. maker)) (whole_then make inner mid) ∙ mapped (whole inner mid))) puts where
        mapped : (found : Option X) → then_with (λ maker. maker) (option_map make found) ≡ then_with make found
        mapped None = refl
        mapped (Some x) = refl

-- an empty line
pub empty_line : (text : List ℕ) → length text ≡ 0 → line_of text ≡ Blank
unfolding line_of
empty_line [] none = refl
empty_line (b ∷ bs) none = absurd (omega (arith, none))

-- another first word was tried than stands there
pub tried : (head : List ℕ) {words old new : List (List ℕ)} → words ≡ old → (new ≡ old) × StartsOtherwise head old → (words ≡ new) × StartsOtherwise head words
tried head is other = (is ∙ sym other.0, λ others e. other.1 others (sym is ∙ e))

-- a line whose first word makes nothing is left
pub left_line : (text : List ℕ) → (length text ≡ 0 → ⊥) → NoneFirst maker_forms (split_parts 32 text) → makes (line_of text) ≡ false
unfolding line_of maker
left_line [] some none = absurd (some refl)
left_line (b ∷ bs) some none =
    ap (λ m. makes (by_words m (whole question (split_parts 32 (b ∷ bs))))) (whole_none maker_forms (split_parts 32 (b ∷ bs)) none) ∙ by_asked (whole question (split_parts 32 (b ∷ bs)))
  where
    by_asked : (asked : Option Question) → makes (by_words None asked) ≡ false
    by_asked None = refl
    by_asked (Some asked) = refl

-- a line that isn't empty asks what its words ask, or nothing
pub asks_by : (text : List ℕ) → (length text ≡ 0 → ⊥) → (line_of text ≢ Blank) × (asks (line_of text) ≡ false ↔ whole question (split_parts 32 text) ≡ None)
unfolding line_of
asks_by [] some = absurd (some refl)
asks_by (b ∷ bs) some = (
  by_any (whole maker (split_parts 32 (b ∷ bs))) (whole question (split_parts 32 (b ∷ bs))),
  (
    λ e. by_question (whole question (split_parts 32 (b ∷ bs))) refl e,
    λ e. ap (λ q. asks (by_words (whole maker (split_parts 32 (b ∷ bs))) q)) e ∙ no_question (whole maker (split_parts 32 (b ∷ bs))),
  ),
) where
  by_any : (made : Option Maker) (asked : Option Question) → by_words made asked ≡ Blank → ⊥
  by_any (Some made) asked e = cc
  by_any None (Some asked) e = cc
  by_any None None e = cc

  no_question : (made : Option Maker) → asks (by_words made None) ≡ false
  no_question None = refl
  no_question (Some made) = refl

  by_question : (asked : Option Question) → whole question (split_parts 32 (b ∷ bs)) ≡ asked → asks (line_of (b ∷ bs)) ≡ false → whole question (split_parts 32 (b ∷ bs)) ≡ None
  by_question None is e = is
  by_question (Some q) is e = absurd (false≢true (sym e ∙ ap asks (asks_it (b ∷ bs) q is)))
