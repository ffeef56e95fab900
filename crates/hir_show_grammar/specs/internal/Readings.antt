-- Beside Readings.antt: what only contracts within this crate cite.
use Rattle.std.specs.Prelude.{◌≡◌, ◌≢◌, ◌+◌, ℕ, zero, suc, All, false, List, [], ◌∷◌, Option, None, Some, Result, MatchResult, length, drop, ◌↔◌}
use Rattle.hir_show_grammar.specs.declared.line_error.LineError.{LineError}
use Rattle.hir_show_grammar.specs.declared.line_error.LineError.TheVariants.{Syntax}
use Rattle.hir_show_grammar.specs.Readings.{Reading, is_byte, split_parts, whole}

-- the parts of a text from a place on; none where that is past its end
abbrev pub words_from : ℕ → ℕ → List ℕ → List (List ℕ)
words_from separator zero text = split_parts separator text
words_from separator (suc n) [] = []
words_from separator (suc n) (b ∷ bs) = words_from separator n bs

-- the rest of a text from a place on, which isn't past its end
pub record IsRestFrom (start : ℕ) (text rest : List ℕ) : Type 0 where
  pub size : start + length rest ≡ length text
  pub is : rest ≡ drop start text

-- some word is left
abbrev pub HasWord : List (List ℕ) → Type 0
HasWord words = (word : List ℕ) × (others : List (List ℕ)) × (words ≡ word ∷ others)

-- a text without this byte
abbrev pub Plain : ℕ → List ℕ → Type 0
Plain c text = All (λ b. is_byte c b ≡ false) text

-- the first word is another one, or there is none
abbrev pub StartsOtherwise : List ℕ → List (List ℕ) → Type 0
StartsOtherwise word words = (others : List (List ℕ)) → words ≢ word ∷ others

-- what a word says, or that it says nothing
abbrev pub Says : {X E : Type 0} → (List ℕ → Option X) → List ℕ → Result X E → Type 0
Says read word result = MatchResult result (λ x. read word ≡ Some x) (λ bad. read word ≡ None)

-- what a reading of these words finds, and the words that it leaves; or that the words don't fit
abbrev pub ReadsWords : {X E : Type 0} → Reading X → List (List ℕ) → Result X E → List (List ℕ) → Type 0
ReadsWords reading old result new = MatchResult result (λ x. reading old ≡ Some (x, new))
    (λ bad. reading old ≡ None)

-- what a word says, where memory for it may be refused. It is bad exactly where it says nothing
abbrev pub SaysOrStops : {X : Type 0} → (List ℕ → Option X) → List ℕ → Result X LineError → Type 0
SaysOrStops read word result =
    MatchResult result (λ x. read word ≡ Some x) (λ why. why ≡ Syntax ↔ read word ≡ None)

-- what a reading of these words finds that leaves none, where an allocation may fail. They are bad exactly
-- where there is nothing such
abbrev pub ReadsAll : {X : Type 0} → Reading X → List (List ℕ) → Result X LineError → Type 0
ReadsAll reading words result =
    MatchResult result (λ x. reading words ≡ Some (x, [])) (λ why. why ≡ Syntax ↔ whole reading words ≡ None)

-- what the words say, if none is left after it; or that they say nothing
abbrev pub SaysWhole : {X E : Type 0} → Reading X → List (List ℕ) → Result X E → Type 0
SaysWhole reading words result =
    MatchResult result (λ x. whole reading words ≡ Some x) (λ bad. whole reading words ≡ None)

-- what all these words say, where an allocation may fail. They are bad exactly where they say nothing: an
-- allocation fails only where they say something
abbrev pub SaysAll : {X : Type 0} → Reading X → List (List ℕ) → Result X LineError → Type 0
SaysAll reading words result =
    MatchResult result (λ x. whole reading words ≡ Some x) (λ why. why ≡ Syntax ↔ whole reading words ≡ None)
