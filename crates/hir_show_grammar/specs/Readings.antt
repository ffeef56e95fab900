-- Reading words from the first on. A reading gives what the first words say and the words after them, or
-- nothing where they don't fit.
use Rattle.hir_show_grammar.specs.Prelude.{ℕ, Bool, eqb, List, [], Option, None, Some, slice_split, option_map, option_and_then, bytes_eq}
use Rattle.std.specs.Prelude.{◌∷◌, if◌then◌else◌}

-- the separators of the words of a line, the parts of an arm or a statement, and the numbers of a list
abbrev pub space : ℕ
space = 32

abbrev pub colon : ℕ
colon = 58

abbrev pub comma : ℕ
comma = 44

abbrev pub is_byte : ℕ → ℕ → Bool
is_byte c b = eqb b c

-- the parts of a text, between its separators
abbrev pub split_parts : ℕ → List ℕ → List (List ℕ)
split_parts separator text = slice_split (is_byte separator) text

abbrev pub Reading : Type 0 → Type 0
Reading X = List (List ℕ) → Option (X × List (List ℕ))

infixl 20 ◌>>=◌
-- one reading, and then another of the words after it
abbrev pub ◌>>=◌ : {X Y : Type 0} → Reading X → (X → Reading Y) → Reading Y
◌>>=◌ first next words = option_and_then (λ found. next found.0 found.1) (first words)

-- no word is read
abbrev pub gives : {X : Type 0} → X → Reading X
gives x words = Some (x, words)

-- the first word is read
abbrev pub first_word : {X : Type 0} → (List ℕ → Option X) → Reading X
first_word read [] = None
first_word read (word ∷ words) = option_map (λ x. (x, words)) (read word)

-- the entry of the word in a table of words
abbrev pub look_up : {X : Type 0} → List (List ℕ × X) → List ℕ → Option X
look_up [] word = None
look_up (entry ∷ entries) word = if bytes_eq word entry.0 then Some entry.1 else look_up entries word

-- what these words say, if each says something
abbrev pub all_of : {X : Type 0} → (List ℕ → Option X) → List (List ℕ) → Option (List X)
all_of read [] = Some []
all_of read (word ∷ words) = option_and_then (λ x. option_map (λ xs. x ∷ xs) (all_of read words)) (read word)

-- all words are read
abbrev pub each : {X : Type 0} → (List ℕ → Option X) → Reading (List X)
each read words = option_map (λ xs. (xs, [])) (all_of read words)

abbrev pub alone : {X : Type 0} → X → List (List ℕ) → Option X
alone x [] = Some x
alone x (word ∷ words) = None

-- what the words say, if no word is left
abbrev pub whole : {X : Type 0} → Reading X → List (List ℕ) → Option X
whole reading words = option_and_then (λ found. alone found.0 found.1) (reading words)
