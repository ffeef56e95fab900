-- What each take accepts, and that what it reads is written so.
use Rattle.std.proofs.Common.{◌≡◌, ℕ, List, [], ◌∷◌, Option, None, Some, refl, sym, ◌∙◌}
use Rattle.std.specs.List.{AllZip}
use Rattle.std.specs.Prelude.{ℤ}
use Rattle.std.specs.Option.{option_and_then}
use Rattle.hir_base.specs.declared.hygiene.SyntaxContext.{SyntaxContext}
use Rattle.hir_base.specs.declared.hygiene.SyntaxContext.TheVariants.{Expansion}
use Rattle.hir_base.specs.declared.operators.BinaryOp.{BinaryOp}
use Rattle.hir_path.specs.declared.path.Path.{Path}
use Rattle.hir_show_grammar.specs.Numerals.{number_of, int_of}
use Rattle.hir_show_grammar.specs.Names.{name_of}
use Rattle.hir_show_grammar.specs.Operators.{op_of}
use Rattle.hir_show_grammar.specs.Readings.{Reading, ◌>>=◌, gives}
use Rattle.hir_show_grammar.specs.Words.{number, optional, list, name, path, plain, int, op, of_source, expansion, hygiene, optional_of, list_of}
use Rattle.hir_show_grammar.specs.Tokens.{Token, Name, Number, Optional, Numbers, Integer, Operator, IsWord}
use Rattle.hir_show_grammar.proofs.Forms.{Accepts, accept_first, accept_end, Sound, sound_first, sound_end}
use Rattle.hir_show_grammar.proofs.Spellings.{number_reads, number_spells, optional_reads, optional_spells, list_reads, list_spells, name_reads, name_spells, op_reads, op_spells}
use Rattle.hir_show_grammar.proofs.Signs.{int_reads, int_spells}

pub accept_number : {Y : Type 0} {n : ℕ} {y : Y} {tokens : List Token} (next : ℕ → Reading Y) → Accepts tokens (next n) y → Accepts (Number n ∷ tokens) (number >>= next) y
accept_number {n = n} {y = y} {tokens = tokens} next = accept_first number_of (Number n) n y tokens next (number_reads n)

pub accept_optional : {Y : Type 0} {o : Option ℕ} {y : Y} {tokens : List Token} (next : Option ℕ → Reading Y) → Accepts tokens (next o) y → Accepts (Optional o ∷ tokens) (optional >>= next) y
accept_optional {o = o} {y = y} {tokens = tokens} next = accept_first optional_of (Optional o) o y tokens next (optional_reads o)

pub accept_list : {Y : Type 0} {ns : List ℕ} {y : Y} {tokens : List Token} (next : List ℕ → Reading Y) → Accepts tokens (next ns) y → Accepts (Numbers ns ∷ tokens) (list >>= next) y
accept_list {ns = ns} {y = y} {tokens = tokens} next = accept_first list_of (Numbers ns) ns y tokens next (list_reads ns)

pub accept_name : {Y : Type 0} {text : List ℕ} {y : Y} {tokens : List Token} (next : List ℕ → Reading Y) → Accepts tokens (next text) y → Accepts (Name text ∷ tokens) (name >>= next) y
accept_name {text = text} {y = y} {tokens = tokens} next = accept_first name_of (Name text) text y tokens next (name_reads text)

pub accept_int : {Y : Type 0} {z : ℤ} {y : Y} {tokens : List Token} (next : ℤ → Reading Y) → Accepts tokens (next z) y → Accepts (Integer z ∷ tokens) (int >>= next) y
accept_int {z = z} {y = y} {tokens = tokens} next = accept_first int_of (Integer z) z y tokens next (int_reads z)

pub accept_op : {Y : Type 0} {o : BinaryOp} {y : Y} {tokens : List Token} (next : BinaryOp → Reading Y) → Accepts tokens (next o) y → Accepts (Operator o ∷ tokens) (op >>= next) y
accept_op {o = o} {y = y} {tokens = tokens} next = accept_first op_of (Operator o) o y tokens next (op_reads o)

-- reading on with what is made of what was read
made_read : {X Y Z : Type 0} (inner : Reading X) (make : X → Y) (next : Y → Reading Z) (words : List (List ℕ)) → ((inner >>= λ x. gives (make x)) >>= next) words ≡ (inner >>= λ x. next (make x)) words
made_read {X} {Y} inner make next words = by_found (inner words) where
  by_found : (found : Option (X × List (List ℕ))) →
      option_and_then (λ (f : Y × List (List ℕ)). next f.0 f.1) (option_and_then (λ (f : X × List (List ℕ)). gives (make f.0) f.1) found) ≡ option_and_then (λ (f : X × List (List ℕ)). next (make f.0) f.1) found
  by_found None = refl
  by_found (Some f) = refl

pub accept_path : {Y : Type 0} {text : List ℕ} {y : Y} {tokens : List Token} (next : Path → Reading Y) → Accepts tokens (next (plain text)) y → Accepts (Name text ∷ tokens) (path >>= next) y
accept_path next rest = record { reads = λ words h. made_read name plain next words ∙ (accept_name (λ text. next (plain text)) rest).reads words h }

pub accept_expansion : {Y : Type 0} {n : ℕ} {y : Y} {tokens : List Token} (next : SyntaxContext → Reading Y) → Accepts tokens (next (Expansion n)) y → Accepts (Number n ∷ tokens) (expansion >>= next) y
accept_expansion next rest = record { reads = λ words h. made_read number Expansion next words ∙ (accept_number (λ n. next (Expansion n)) rest).reads words h }

source_read : {Y : Type 0} {y : Y} (next : SyntaxContext → Reading Y) → Accepts [] (next of_source) y → (words : List (List ℕ)) → AllZip IsWord [] words → (hygiene >>= next) words ≡ Some (y, [])
source_read next rest [] h = rest.reads [] h
source_read next rest (word ∷ words) h = absurd h

pub accept_source : {Y : Type 0} {y : Y} (next : SyntaxContext → Reading Y) → Accepts [] (next of_source) y → Accepts [] (hygiene >>= next) y
accept_source next rest = record { reads = source_read next rest }

expanded_read : {Y : Type 0} {n : ℕ} {y : Y} {tokens : List Token} (next : SyntaxContext → Reading Y) → Accepts tokens (next (Expansion n)) y →
    (words : List (List ℕ)) → AllZip IsWord (Number n ∷ tokens) words → (hygiene >>= next) words ≡ Some (y, [])
expanded_read next rest [] h = absurd h
expanded_read next rest (word ∷ words) h = (accept_expansion next rest).reads (word ∷ words) h

pub accept_expanded : {Y : Type 0} {n : ℕ} {y : Y} {tokens : List Token} (next : SyntaxContext → Reading Y) → Accepts tokens (next (Expansion n)) y → Accepts (Number n ∷ tokens) (hygiene >>= next) y
accept_expanded next rest = record { reads = expanded_read next rest }

pub ruleset accepting = (accept_end, accept_number, accept_optional, accept_list, accept_name, accept_path, accept_int, accept_op, accept_expansion, accept_source, accept_expanded)

pub sound_number : {Y : Type 0} (Is : Y → List Token → Type 0) (next : ℕ → Reading Y) → ((n : ℕ) → Sound (λ y tokens. Is y (Number n ∷ tokens)) (next n)) → Sound Is (number >>= next)
sound_number Is next = sound_first number_of Number Is next number_spells

pub sound_optional : {Y : Type 0} (Is : Y → List Token → Type 0) (next : Option ℕ → Reading Y) → ((o : Option ℕ) → Sound (λ y tokens. Is y (Optional o ∷ tokens)) (next o)) → Sound Is (optional >>= next)
sound_optional Is next = sound_first optional_of Optional Is next optional_spells

pub sound_list : {Y : Type 0} (Is : Y → List Token → Type 0) (next : List ℕ → Reading Y) → ((ns : List ℕ) → Sound (λ y tokens. Is y (Numbers ns ∷ tokens)) (next ns)) → Sound Is (list >>= next)
sound_list Is next = sound_first list_of Numbers Is next list_spells

pub sound_name : {Y : Type 0} (Is : Y → List Token → Type 0) (next : List ℕ → Reading Y) → ((text : List ℕ) → Sound (λ y tokens. Is y (Name text ∷ tokens)) (next text)) → Sound Is (name >>= next)
sound_name Is next = sound_first name_of Name Is next name_spells

pub sound_int : {Y : Type 0} (Is : Y → List Token → Type 0) (next : ℤ → Reading Y) → ((z : ℤ) → Sound (λ y tokens. Is y (Integer z ∷ tokens)) (next z)) → Sound Is (int >>= next)
sound_int Is next = sound_first int_of Integer Is next int_spells

pub sound_op : {Y : Type 0} (Is : Y → List Token → Type 0) (next : BinaryOp → Reading Y) → ((o : BinaryOp) → Sound (λ y tokens. Is y (Operator o ∷ tokens)) (next o)) → Sound Is (op >>= next)
sound_op Is next = sound_first op_of Operator Is next op_spells

pub sound_path : {Y : Type 0} (Is : Y → List Token → Type 0) (next : Path → Reading Y) → ((text : List ℕ) → Sound (λ y tokens. Is y (Name text ∷ tokens)) (next (plain text))) → Sound Is (path >>= next)
sound_path Is next rest = record { written = λ words y e. (sound_name Is (λ text. next (plain text)) rest).written words y (sym (made_read name plain next words) ∙ e) }

pub sound_expansion : {Y : Type 0} (Is : Y → List Token → Type 0) (next : SyntaxContext → Reading Y) → ((n : ℕ) → Sound (λ y tokens. Is y (Number n ∷ tokens)) (next (Expansion n))) → Sound Is (expansion >>= next)
sound_expansion Is next rest = record { written = λ words y e. (sound_number Is (λ n. next (Expansion n)) rest).written words y (sym (made_read number Expansion next words) ∙ e) }

hygiene_written : {Y : Type 0} (Is : Y → List Token → Type 0) (next : SyntaxContext → Reading Y) → Sound Is (next of_source) → ((n : ℕ) → Sound (λ y tokens. Is y (Number n ∷ tokens)) (next (Expansion n))) →
    (words : List (List ℕ)) (y : Y) → (hygiene >>= next) words ≡ Some (y, []) → (tokens : List Token) × Is y tokens × AllZip IsWord tokens words
hygiene_written Is next source rest [] y e = source.written [] y e
hygiene_written Is next source rest (word ∷ words) y e = (sound_expansion Is next rest).written (word ∷ words) y e

pub sound_hygiene : {Y : Type 0} (Is : Y → List Token → Type 0) (next : SyntaxContext → Reading Y) → Sound Is (next of_source) → ((n : ℕ) → Sound (λ y tokens. Is y (Number n ∷ tokens)) (next (Expansion n))) → Sound Is (hygiene >>= next)
sound_hygiene Is next source rest = record { written = hygiene_written Is next source rest }

pub ruleset sounding = (sound_end, sound_number, sound_optional, sound_list, sound_name, sound_path, sound_int, sound_op, sound_expansion, sound_hygiene)
