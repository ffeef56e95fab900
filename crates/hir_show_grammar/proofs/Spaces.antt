-- No word of a line has a space.
use Rattle.std.proofs.Common.{◌≡◌, ◌<◌, ◌^◌, ℕ, suc, Bool, true, not, List, [], ◌∷◌, refl, ap, ◌∙◌, arith, inl, inr, ◌⊎◌}
use Rattle.std.specs.Prelude.{ℤ, pos, negsuc, codes, FitsSigned}
use Rattle.std.specs.Fmt.{decimal, signed_decimal}
use Rattle.std.specs.Int.{w128}
use Rattle.std.specs.List.{AllZip, list_all}
use Rattle.std.proofs.lemmas.Bool.Decides.{nat_tests}
use Rattle.hir_show_grammar.specs.Names.{is_name, continues_name}
use Rattle.hir_show_grammar.specs.Numerals.{is_digit}
use Rattle.hir_show_grammar.specs.Readings.{is_byte}
use Rattle.hir_show_grammar.specs.Tokens.{Token, Word, Name, Number, Optional, Numbers, Integer, Operator, Arm, Stmt, IsWord, IsNumbers, IsInteger}
use Rattle.hir_show_grammar.proofs.Colons.{arm_lacks, statement_lacks}
use Rattle.hir_show_grammar.proofs.Decimals.{digits-decimal}
use Rattle.hir_show_grammar.proofs.Integers.{and_first, and_second}
use Rattle.hir_show_grammar.proofs.Separators.{lacks, AllLack, lacks-passes, lacks-join}
use Rattle.hir_show_grammar.proofs.Spellings.{number_lacks, numbers_there, op_is, optional_lacks, digit_is_other}

no_space_in_name : (b : ℕ) → continues_name b ≡ true → not (is_byte 32 b) ≡ true
no_space_in_name b e = grind (arith, nat_tests)

name_lacks : (name : List ℕ) → is_name name ≡ true → lacks 32 name ≡ true
name_lacks name e = lacks-passes 32 continues_name no_space_in_name name (and_second _ _ (and_second _ _ e))

decimal_lacks : (n : ℕ) → n < 10 ^ 64 → lacks 32 (decimal n) ≡ true
decimal_lacks n small = lacks-passes 32 is_digit (digit_is_other 32 refl) (decimal n) (digits-decimal n small)

signed_lacks : (z : ℤ) → FitsSigned w128 z → lacks 32 (signed_decimal z) ≡ true
signed_lacks (pos n) fits = let below : n < 2 ^ 127 = fits.sfits in decimal_lacks n (omega arith)
signed_lacks (negsuc m) fits = let below : m < 2 ^ 127 = fits.sfits in decimal_lacks (suc m) (omega arith)

integer_lacks : (z : ℤ) (word : List ℕ) → IsInteger z word → lacks 32 word ≡ true
integer_lacks z word h = by_case h.1 where
  by_case : (word ≡ signed_decimal z) ⊎ ((z ≡ pos 0) × (word ≡ codes "-0")) → lacks 32 word ≡ true
  by_case (inl written) = ap (lacks 32) written ∙ signed_lacks z h.0
  by_case (inr zero_so) = ap (lacks 32) zero_so.1

pub numbers_lack : (ns : List ℕ) (word : List ℕ) → IsNumbers ns word → lacks 32 word ≡ true
numbers_lack [] word h = ap (lacks 32) h
numbers_lack (n ∷ ns) word h = ap (lacks 32) h.2 ∙ lacks-join 32 44 refl h.0 (numbers_there 32 refl (n ∷ ns) h.0 h.1)

-- a fixed word without a space, or another token
abbrev pub is_plain : Token → Bool
is_plain (Word text) = lacks 32 text
is_plain _ = true

word_lacks : (token : Token) (word : List ℕ) → IsWord token word → is_plain token ≡ true → lacks 32 word ≡ true
word_lacks (Word text) word h plain = ap (lacks 32) h ∙ plain
word_lacks (Name text) word h plain = ap (lacks 32) h.1 ∙ name_lacks text h.0
word_lacks (Number n) word h plain = number_lacks 32 refl n word h
word_lacks (Optional o) word h plain = optional_lacks 32 refl refl o word h
word_lacks (Numbers ns) word h plain = numbers_lack ns word h
word_lacks (Integer z) word h plain = integer_lacks z word h
word_lacks (Operator op) word h plain = ap (lacks 32) h ∙ (op_is op).1
word_lacks (Arm a) word h plain = arm_lacks a word h
word_lacks (Stmt s) word h plain = statement_lacks s word h

abbrev pub AllPlain : List Token → Type 0
AllPlain tokens = list_all is_plain tokens ≡ true

pub words_lack : (tokens : List Token) (words : List (List ℕ)) → AllZip IsWord tokens words → AllPlain tokens → AllLack 32 words
words_lack [] [] h plain = tt
words_lack (token ∷ tokens) (word ∷ words) h plain =
    (word_lacks token word h.0 (and_first _ _ plain), words_lack tokens words h.1 (and_second _ _ plain))
words_lack _ _ h plain = absurd h
