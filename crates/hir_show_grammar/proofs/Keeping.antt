-- Words that are read one after another, and kept behind one another.
use Rattle.std.proofs.Common.{◌≡◌, ℕ, Bool, true, false, List, [], ◌∷◌, ◌++◌, Option, None, Some, refl, sym, ap, ◌∙◌, append_assoc, append-nil}
use Rattle.std.specs.Prelude.{◌↔◌, codes, if◌then◌else◌}
use Rattle.std.specs.Option.{option_map, option_and_then}
use Rattle.std.specs.Str.{bytes_eq}
use Rattle.std.proofs.lemmas.Bool.{false≢true}
use Rattle.hir_show_grammar.specs.Numerals.{number_of}
use Rattle.hir_show_grammar.specs.Readings.{all_of, alone, comma, each, first_word, split_parts, whole}
use Rattle.hir_show_grammar.specs.Words.{list_of}
use Rattle.hir_show_grammar.proofs.Forms.{same_pair}

-- these were read of all words, and those are left
abbrev pub IsReadOf : {X : Type 0} → (List ℕ → Option X) → List (List ℕ) → List X → List (List ℕ) → Type 0
IsReadOf read all items words = option_map (λ xs. items ++ xs) (all_of read words) ≡ all_of read all

pub all_of_itself : {X : Type 0} (read : List ℕ → Option X) (all : List (List ℕ)) → IsReadOf read all [] all
all_of_itself {X} read all = same (all_of read all) where
  same : (found : Option (List X)) → option_map (λ xs. [] ++ xs) found ≡ found
  same None = refl
  same (Some xs) = refl

first_found : {X : Type 0} (read : List ℕ → Option X) (word : List ℕ) (words new : List (List ℕ)) (x : X) (found : Option X) → read word ≡ found → option_map {U = X × List (List ℕ)} (λ y. (y, words)) found ≡ Some (x, new) → (read word ≡ Some x) × (words ≡ new)
first_found read word words new x None is e = cc
first_found read word words new x (Some y) is e = let same = same_pair (y, words) (x, new) e in (is ∙ ap Some same.0, same.1)

item_joins : {X : Type 0} (items : List X) (x : X) (found : Option (List X)) → option_map (λ xs. (items ++ x ∷ []) ++ xs) found ≡ option_map (λ xs. items ++ xs) (option_map (λ xs. x ∷ xs) found)
item_joins items x None = refl
item_joins items x (Some xs) = ap Some (append_assoc items (x ∷ []) xs)

pub read_more : {X : Type 0} (read : List ℕ → Option X) (all : List (List ℕ)) (items : List X) (old new : List (List ℕ)) (x : X) → IsReadOf read all items old → first_word read old ≡ Some (x, new) → IsReadOf read all (items ++ x ∷ []) new
read_more read all items [] new x is e = cc
read_more {X} read all items (word ∷ words) new x is e =
    let found = first_found read word words new x (read word) refl e in
    item_joins items x (all_of read new)
    ∙ ap (λ (ws : List (List ℕ)). option_map (λ xs. items ++ xs) (option_map (λ xs. x ∷ xs) (all_of read ws))) (sym found.1)
    ∙ ap (λ (o : Option X). option_map (λ xs. items ++ xs) (option_and_then (λ y. option_map (λ xs. y ∷ xs) (all_of read words)) o)) (sym found.0)
    ∙ is

pub all_read : {X : Type 0} (read : List ℕ → Option X) (all : List (List ℕ)) (items : List X) (words : List (List ℕ)) → IsReadOf read all items words → words ≡ [] → all_of read all ≡ Some items
all_read read all items words is none = sym is ∙ ap (λ ws. option_map (λ xs. items ++ xs) (all_of read ws)) none ∙ ap Some (append-nil items)

none_of_none : {X : Type 0} (read : List ℕ → Option X) (word : List ℕ) (words : List (List ℕ)) (found : Option X) → read word ≡ found → option_map {U = X × List (List ℕ)} (λ y. (y, words)) found ≡ None → read word ≡ None
none_of_none read word words None is e = is
none_of_none read word words (Some y) is e = cc

pub none_read : {X : Type 0} (read : List ℕ → Option X) (all : List (List ℕ)) (items : List X) (words : List (List ℕ)) → IsReadOf read all items words → (words ≡ [] → ⊥) → first_word read words ≡ None → all_of read all ≡ None
none_read read all items [] is some e = absurd (some refl)
none_read {X} read all items (word ∷ words) is some e =
    sym is
    ∙ ap (λ (o : Option X). option_map (λ xs. items ++ xs) (option_and_then (λ y. option_map (λ xs. y ∷ xs) (all_of read words)) o)) (none_of_none read word words (read word) refl e)

-- all words are read to the last
pub all_alone : {X : Type 0} (read : List ℕ → Option X) (words : List (List ℕ)) → whole (each read) words ≡ all_of read words
all_alone {X} read words = by_found (all_of read words) where
  by_found : (found : Option (List X)) → option_and_then (λ (f : List X × List (List ℕ)). alone f.0 f.1) (option_map (λ xs. (xs, [])) found) ≡ found
  by_found None = refl
  by_found (Some xs) = refl

-- where it isn't so that no word is left, one is
pub some_left : (r : Bool) (words : List (List ℕ)) → r ≡ true ↔ (words ≡ []) → r ≡ false → words ≡ [] → ⊥
some_left r words is other none = absurd (false≢true (sym other ∙ is.1 none))

-- a list that is no dash is numbers
pub list_otherwise : (word : List ℕ) → bytes_eq word (codes "-") ≡ false → list_of word ≡ all_of number_of (split_parts comma word)
unfolding list_of
list_otherwise word other =
    let read : Bool → Option (List ℕ) = λ b. if b then Some [] else all_of number_of (split_parts comma word) in
    ap read other
