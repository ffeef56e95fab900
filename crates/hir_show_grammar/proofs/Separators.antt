-- Texts without a separator, and splitting what was joined.
use Rattle.std.proofs.Common.{◌≡◌, ℕ, Bool, true, false, not, ◌&&◌, List, [], ◌∷◌, ◌++◌, refl, ap, ◌∙◌, arith}
use Rattle.std.specs.Prelude.{All, ⊤}
use Rattle.std.specs.List.{list_all, join_with_byte}
use Rattle.std.proofs.lemmas.Bool.Decides.{nat_tests}
use Rattle.std.proofs.lemmas.List.Folds.{list_all-append}
use Rattle.std.proofs.lemmas.List.Elements.{All-weaker}
use Rattle.std.proofs.lemmas.List.Sums.{AllPass-from_list_all, list_all-from_AllPass}
use Rattle.std.proofs.lemmas.List.Splits.{slice_split_at, slice_split_none}
use Rattle.hir_show_grammar.specs.Readings.{is_byte, split_parts}

abbrev pub lacks : ℕ → List ℕ → Bool
lacks c text = list_all (λ b. not (is_byte c b)) text

abbrev pub AllLack : ℕ → List (List ℕ) → Type 0
AllLack c [] = ⊤
AllLack c (text ∷ texts) = (lacks c text ≡ true) × AllLack c texts

passes_both : (a b : Bool) → a ≡ true → b ≡ true → (a && b) ≡ true
passes_both a b e f = cc

pub lacks-passes : (c : ℕ) (p : ℕ → Bool) → ((b : ℕ) → p b ≡ true → not (is_byte c b) ≡ true) → (text : List ℕ) → list_all p text ≡ true → lacks c text ≡ true
lacks-passes c p weaker text e = list_all-from_AllPass (λ b. not (is_byte c b)) text (λ k d within. weaker _ (AllPass-from_list_all p text e k d within))

pub lacks-append : (c : ℕ) (xs ys : List ℕ) → lacks c xs ≡ true → lacks c ys ≡ true → lacks c (xs ++ ys) ≡ true
lacks-append c xs ys e f = list_all-append (λ b. not (is_byte c b)) xs ys ∙ passes_both _ _ e f

pub lacks-join : (c d : ℕ) → is_byte c d ≡ false → (texts : List (List ℕ)) → AllLack c texts → lacks c (join_with_byte d texts) ≡ true
lacks-join c d apart [] h = refl
lacks-join c d apart (text ∷ []) h = h.0
lacks-join c d apart (text ∷ other ∷ texts) h =
    lacks-append c text (d ∷ join_with_byte d (other ∷ texts)) h.0
    (passes_both _ _ (ap not apart) (lacks-join c d apart (other ∷ texts) h.1))

fails : (b : Bool) → not b ≡ true → b ≡ false
fails true e = cc
fails false e = refl

none_there : (c : ℕ) (text : List ℕ) → lacks c text ≡ true → All (λ b. is_byte c b ≡ false) text
none_there c text e = All-weaker (λ b. not (is_byte c b) ≡ true) (λ b. is_byte c b ≡ false) (λ b h. fails _ h) text (AllPass-from_list_all (λ b. not (is_byte c b)) text e)

same_byte : (c : ℕ) → is_byte c c ≡ true
same_byte c = grind (arith, nat_tests)

-- the parts of texts that were joined are those texts
pub split_parts-join : (c : ℕ) (text : List ℕ) (texts : List (List ℕ)) → AllLack c (text ∷ texts) → split_parts c (join_with_byte c (text ∷ texts)) ≡ text ∷ texts
split_parts-join c text [] h = slice_split_none (is_byte c) text (none_there c text h.0)
split_parts-join c text (other ∷ texts) h =
    slice_split_at (is_byte c) text c (join_with_byte c (other ∷ texts)) (none_there c text h.0) (same_byte c)
    ∙ ap (λ parts. text ∷ parts) (split_parts-join c other texts h.1)
