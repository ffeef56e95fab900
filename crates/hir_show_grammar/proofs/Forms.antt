-- What readings accept, and that what they read is written so: both go form by form.
use Rattle.std.proofs.Common.{◌≡◌, ℕ, Bool, true, false, List, [], ◌∷◌, Option, None, Some, refl, sym, ap, ◌∙◌, subst}
use Rattle.std.specs.Prelude.{◌↔◌, if◌then◌else◌, map}
use Rattle.std.specs.List.{AllZip}
use Rattle.std.specs.Option.{option_map, option_and_then}
use Rattle.std.specs.Str.{bytes_eq}
use Rattle.std.proofs.lemmas.Slice.Eq.{bytes_eq-Decides}
use Rattle.hir_show_grammar.specs.Readings.{Reading, ◌>>=◌, gives, first_word, each, all_of, look_up, whole, alone}
use Rattle.hir_show_grammar.specs.Words.{by, one_of}
use Rattle.hir_show_grammar.specs.Tokens.{Token, Word, IsWord}

-- words of which each is read
pub all_read : {X : Type 0} (Is : X → List ℕ → Type 0) (read : List ℕ → Option X) → ((x : X) (word : List ℕ) → Is x word → read word ≡ Some x) →
    (xs : List X) (words : List (List ℕ)) → AllZip Is xs words → all_of read words ≡ Some xs
all_read Is read reads [] [] h = refl
all_read Is read reads (x ∷ xs) (word ∷ words) h =
    ap (λ found. option_and_then (λ v. option_map (λ vs. v ∷ vs) (all_of read words)) found) (reads x word h.0)
    ∙ ap (λ all. option_map (λ vs. x ∷ vs) all) (all_read Is read reads xs words h.1)
all_read Is read reads _ _ h = absurd h

more_found : {X : Type 0} (found : Option X) (all : Option (List X)) (xs : List X) →
    option_and_then (λ (x : X). option_map (λ (vs : List X). x ∷ vs) all) found ≡ Some xs → (x : X) × (vs : List X) × (found ≡ Some x) × (all ≡ Some vs) × (x ∷ vs ≡ xs)
more_found None all xs e = cc
more_found (Some x) None xs e = cc
more_found (Some x) (Some vs) xs e = (x, vs, refl, refl, cc)

pub all_found : {X : Type 0} (Is : X → List ℕ → Type 0) (read : List ℕ → Option X) → ((x : X) (word : List ℕ) → read word ≡ Some x → Is x word) →
    (xs : List X) (words : List (List ℕ)) → all_of read words ≡ Some xs → AllZip Is xs words
all_found {X} Is read spells xs [] e = let none : [] ≡ xs = cc in subst (λ (vs : List X). AllZip Is vs []) none tt
all_found {X} Is read spells xs (word ∷ words) e =
    let found = more_found (read word) (all_of read words) xs e in
    subst (λ (vs : List X). AllZip Is vs (word ∷ words)) found.4 (spells found.0 word found.2, all_found Is read spells found.1 words found.3)

zip_map : {X : Type 0} (token : X → Token) (xs : List X) (words : List (List ℕ)) → AllZip IsWord (map token xs) words ↔ AllZip (λ x word. IsWord (token x) word) xs words
zip_map token (x ∷ xs) (word ∷ words) = (λ h. (h.0, (zip_map token xs words).0 h.1), λ h. (h.0, (zip_map token xs words).1 h.1))
zip_map token _ _ = (λ h. h, λ h. h)

-- words that are written as these tokens are read as y, and none is left
pub record Accepts {Y : Type 0} (tokens : List Token) (reading : Reading Y) (y : Y) : Type 0 where
  pub reads : (words : List (List ℕ)) → AllZip IsWord tokens words → reading words ≡ Some (y, [])

no_words : {Y : Type 0} (y : Y) (words : List (List ℕ)) → AllZip IsWord [] words → gives y words ≡ Some (y, [])
no_words y [] h = refl
no_words y (word ∷ words) h = absurd h

pub accept_end : {Y : Type 0} {y : Y} → Accepts [] (gives y) y
accept_end {y = y} = record { reads = no_words y }

one_word : {X Y : Type 0} (read : List ℕ → Option X) (token : Token) (x : X) (y : Y) (tokens : List Token) (next : X → Reading Y) →
    ((word : List ℕ) → IsWord token word → read word ≡ Some x) → Accepts tokens (next x) y → (words : List (List ℕ)) → AllZip IsWord (token ∷ tokens) words → (first_word read >>= next) words ≡ Some (y, [])
one_word read token x y tokens next reads rest [] h = absurd h
one_word {X} read token x y tokens next reads rest (word ∷ words) h =
    ap (λ found. option_and_then (λ (f : X × List (List ℕ)). next f.0 f.1) (option_map (λ v. (v, words)) found)) (reads word h.0) ∙ rest.reads words h.1

pub accept_first : {X Y : Type 0} (read : List ℕ → Option X) (token : Token) (x : X) (y : Y) (tokens : List Token) (next : X → Reading Y) →
    ((word : List ℕ) → IsWord token word → read word ≡ Some x) → Accepts tokens (next x) y → Accepts (token ∷ tokens) (first_word read >>= next) y
accept_first read token x y tokens next reads rest = record { reads = one_word read token x y tokens next reads rest }

pub accept_each : {X Y : Type 0} (read : List ℕ → Option X) (token : X → Token) (xs : List X) (make : List X → Y) →
    ((x : X) (word : List ℕ) → IsWord (token x) word → read word ≡ Some x) → Accepts (map token xs) (each read >>= λ all. gives (make all)) (make xs)
accept_each {X} read token xs make reads = record {
  reads = λ words h.
      ap (λ all. option_and_then (λ (f : List X × List (List ℕ)). gives (make f.0) f.1) (option_map (λ v. (v, [])) all))
      (all_read (λ x word. IsWord (token x) word) read reads xs words ((zip_map token xs words).0 h));
}

head_read : {Y : Type 0} (forms : List (List ℕ × Reading Y)) (head : List ℕ) (reading : Reading Y) (y : Y) (tokens : List Token) →
    look_up forms head ≡ Some reading → Accepts tokens reading y → (words : List (List ℕ)) → AllZip IsWord (Word head ∷ tokens) words → one_of forms words ≡ Some (y, [])
head_read forms head reading y tokens is rest [] h = absurd h
head_read forms head reading y tokens is rest (word ∷ words) h =
    ap (λ first. by (look_up forms first) words) h.0 ∙ ap (λ found. by found words) is ∙ rest.reads words h.1

-- words of one form are read by its head
pub accept_head : {Y : Type 0} (forms : List (List ℕ × Reading Y)) (head : List ℕ) (reading : Reading Y) {y : Y} {tokens : List Token} →
    look_up forms head ≡ Some reading → Accepts tokens reading y → Accepts (Word head ∷ tokens) (one_of forms) y
accept_head forms head reading {y = y} {tokens = tokens} is rest = record { reads = head_read forms head reading y tokens is rest }

pub accept_inner : {X Y : Type 0} (inner : Reading X) (tokens : List Token) (x : X) (make : X → Y) →
    Accepts tokens inner x → Accepts tokens (inner >>= λ v. gives (make v)) (make x)
accept_inner {X} inner tokens x make accepts = record {
  reads = λ words h.
      ap (λ found. option_and_then (λ (f : X × List (List ℕ)). gives (make f.0) f.1) found) (accepts.reads words h);
}

-- what is read of all words
pub whole_read : {Y : Type 0} (reading : Reading Y) (words : List (List ℕ)) (y : Y) → reading words ≡ Some (y, []) → whole reading words ≡ Some y
whole_read {Y} reading words y e = ap (λ found. option_and_then (λ (f : Y × List (List ℕ)). alone f.0 f.1) found) e

alone_found : {Y : Type 0} (y z : Y) (words : List (List ℕ)) → alone y words ≡ Some z → ◌≡◌ {A = Option (Y × List (List ℕ))} (Some (y, words)) (Some (z, []))
alone_found y z [] e = let same : y ≡ z = cc in ap (λ v. Some (v, [])) same
alone_found y z (word ∷ words) e = cc

pub whole_found : {Y : Type 0} (found : Option (Y × List (List ℕ))) (y : Y) → option_and_then (λ (f : Y × List (List ℕ)). alone f.0 f.1) found ≡ Some y → found ≡ Some (y, [])
whole_found None y e = cc
whole_found (Some f) y e = alone_found f.0 y f.1 e

-- what is read of words, where none is left, is written so
pub record Sound {Y : Type 0} (Is : Y → List Token → Type 0) (reading : Reading Y) : Type 0 where
  pub written : (words : List (List ℕ)) (y : Y) → reading words ≡ Some (y, []) → (tokens : List Token) × Is y tokens × AllZip IsWord tokens words

pub same_pair : {Y : Type 0} (p q : Y × List (List ℕ)) → Some p ≡ Some q → (p.0 ≡ q.0) × (p.1 ≡ q.1)
same_pair {Y} p q e = let same : p ≡ q = cc in (ap (λ (r : Y × List (List ℕ)). r.0) same, ap (λ (r : Y × List (List ℕ)). r.1) same)

pub sound_end : {Y : Type 0} (Is : Y → List Token → Type 0) (y : Y) → Is y [] → Sound Is (gives y)
sound_end Is y is = record {
  written = λ words z e.
      let same = same_pair (y, words) (z, []) e in
      ([], subst (λ v. Is v []) same.0 is, subst (λ (ws : List (List ℕ)). AllZip IsWord [] ws) (sym same.1) tt);
}

-- what was found in the first word, and behind it
first_found : {X Y : Type 0} (next : X → Reading Y) (words : List (List ℕ)) (found : Option X) (y : Y) →
    option_and_then (λ (f : X × List (List ℕ)). next f.0 f.1) (option_map (λ v. (v, words)) found) ≡ Some (y, []) → (x : X) × (found ≡ Some x) × (next x words ≡ Some (y, []))
first_found next words None y e = cc
first_found next words (Some x) y e = (x, refl, e)

first_written : {X Y : Type 0} (read : List ℕ → Option X) (token : X → Token) (Is : Y → List Token → Type 0) (next : X → Reading Y) →
    ((x : X) (word : List ℕ) → read word ≡ Some x → IsWord (token x) word) → ((x : X) → Sound (λ y tokens. Is y (token x ∷ tokens)) (next x)) →
    (words : List (List ℕ)) (y : Y) → (first_word read >>= next) words ≡ Some (y, []) → (tokens : List Token) × Is y tokens × AllZip IsWord tokens words
first_written read token Is next spells rest [] y e = cc
first_written read token Is next spells rest (word ∷ words) y e =
    let found = first_found next words (read word) y e in
    let suffix = (rest found.0).written words y found.2 in
    (token found.0 ∷ suffix.0, suffix.1, (spells found.0 word found.1, suffix.2))

pub sound_first : {X Y : Type 0} (read : List ℕ → Option X) (token : X → Token) (Is : Y → List Token → Type 0) (next : X → Reading Y) →
    ((x : X) (word : List ℕ) → read word ≡ Some x → IsWord (token x) word) → ((x : X) → Sound (λ y tokens. Is y (token x ∷ tokens)) (next x)) → Sound Is (first_word read >>= next)
sound_first read token Is next spells rest = record { written = first_written read token Is next spells rest }

each_found : {X Y : Type 0} (make : List X → Y) (all : Option (List X)) (y : Y) →
    option_and_then (λ (f : List X × List (List ℕ)). gives (make f.0) f.1) (option_map (λ xs. (xs, [])) all) ≡ Some (y, []) → (xs : List X) × (all ≡ Some xs) × (make xs ≡ y)
each_found make None y e = cc
each_found make (Some xs) y e = (xs, refl, (same_pair (make xs, []) (y, []) e).0)

pub sound_each : {X Y : Type 0} (read : List ℕ → Option X) (token : X → Token) (Is : Y → List Token → Type 0) (make : List X → Y) →
    ((x : X) (word : List ℕ) → read word ≡ Some x → IsWord (token x) word) → ((xs : List X) → Is (make xs) (map token xs)) → Sound Is (each read >>= λ all. gives (make all))
sound_each read token Is make spells is = record {
  written = λ words y e.
      let found = each_found make (all_of read words) y e in
      (map token found.0, subst (λ v. Is v (map token found.0)) found.2 (is found.0), (zip_map token found.0 words).1 (all_found (λ x word. IsWord (token x) word) read spells found.0 words found.1));
}

inner_found : {X Y : Type 0} (make : X → Y) (found : Option (X × List (List ℕ))) (y : Y) →
    option_and_then (λ (f : X × List (List ℕ)). gives (make f.0) f.1) found ≡ Some (y, []) → (x : X) × (found ≡ Some (x, [])) × (make x ≡ y)
inner_found make None y e = cc
inner_found make (Some f) y e =
    let same = same_pair (make f.0, f.1) (y, []) e in
    (f.0, ap (λ words. Some (f.0, words)) same.1, same.0)

pub sound_inner : {X Y : Type 0} (Was : X → List Token → Type 0) (Is : Y → List Token → Type 0) (inner : Reading X) (make : X → Y) →
    Sound Was inner → ((x : X) (tokens : List Token) → Was x tokens → Is (make x) tokens) → Sound Is (inner >>= λ x. gives (make x))
sound_inner Was Is inner make sound is = record {
  written = λ words y e.
      let found = inner_found make (inner words) y e in
      let was = sound.written words found.0 found.1 in
      (was.0, subst (λ v. Is v was.0) found.2 (is found.0 was.0 was.1), was.2);
}

-- each form is written so, behind its head
pub data AllSound {Y : Type 0} (Is : Y → List Token → Type 0) : List (List ℕ × Reading Y) → Type 0 where
  no_form : AllSound Is []
  form : {head : List ℕ} {reading : Reading Y} {forms : List (List ℕ × Reading Y)} →
      Sound (λ (y : Y) tokens. Is y (Word head ∷ tokens)) reading → AllSound Is forms → AllSound Is ((head, reading) ∷ forms)

pub same_bytes : (xs ys : List ℕ) → bytes_eq xs ys ≡ true → xs ≡ ys
same_bytes xs ys e = (bytes_eq-Decides xs ys).0 e

sound_test : {Y : Type 0} (Is : Y → List Token → Type 0) (head text : List ℕ) (reading : Reading Y) (others : Option (Reading Y)) (same : Bool) → bytes_eq head text ≡ same →
    Sound (λ y tokens. Is y (Word text ∷ tokens)) reading → Sound (λ y tokens. Is y (Word head ∷ tokens)) (by others) → Sound (λ y tokens. Is y (Word head ∷ tokens)) (by (if same then Some reading else others))
sound_test Is head text reading others true is here there = record {
  written = λ words y e.
      let found = here.written words y e in
      (found.0, subst (λ word. Is y (Word word ∷ found.0)) (sym (same_bytes head text is)) found.1, found.2);
}
sound_test Is head text reading others false is here there = there

sound_look_up : {Y : Type 0} (Is : Y → List Token → Type 0) (forms : List (List ℕ × Reading Y)) → AllSound Is forms → (head : List ℕ) → Sound (λ y tokens. Is y (Word head ∷ tokens)) (by (look_up forms head))
sound_look_up Is [] no_form head = record { written = λ words y e. cc }
sound_look_up Is ((text, reading) ∷ forms) (form sound all) head =
    sound_test Is head text reading (look_up forms head) (bytes_eq head text) refl sound (sound_look_up Is forms all head)

one_written : {Y : Type 0} (Is : Y → List Token → Type 0) (forms : List (List ℕ × Reading Y)) → AllSound Is forms →
    (words : List (List ℕ)) (y : Y) → one_of forms words ≡ Some (y, []) → (tokens : List Token) × Is y tokens × AllZip IsWord tokens words
one_written Is forms all [] y e = cc
one_written Is forms all (head ∷ words) y e =
    let found = (sound_look_up Is forms all head).written words y e in
    (Word head ∷ found.0, found.1, (refl, found.2))

pub sound_one_of : {Y : Type 0} (Is : Y → List Token → Type 0) (forms : List (List ℕ × Reading Y)) → AllSound Is forms → Sound Is (one_of forms)
sound_one_of Is forms all = record { written = one_written Is forms all }
