-- How single words are written is how they are read.
use Rattle.std.proofs.Common.{◌≡◌, ◌<◌, ◌^◌, ℕ, Bool, true, false, not, List, [], ◌∷◌, Option, Some, None, arith, refl, sym, ap, ◌∙◌}
use Rattle.std.specs.Prelude.{if◌then◌else◌, codes, nat_lt}
use Rattle.std.specs.Fmt.{decimal}
use Rattle.std.specs.Option.{option_map}
use Rattle.std.specs.List.{list_all, AllZip, join_with_byte}
use Rattle.std.specs.Str.{bytes_eq}
use Rattle.std.proofs.lemmas.Bool.{false≢true, eqb-true}
use Rattle.std.proofs.lemmas.List.Splits.{join_with_byte-slice_split}
use borrow.Author.Tests.{ltb-true}
use Rattle.hir_base.specs.declared.operators.ArithOp.TheVariants.{Add}
use Rattle.hir_base.specs.declared.operators.LogicOp.TheVariants.{And, Or}
use Rattle.hir_base.specs.declared.operators.Ordering.TheVariants.{Less, Greater}
use Rattle.hir_base.specs.declared.operators.CmpOp.TheVariants.{Eq, Ord}
use Rattle.hir_base.specs.declared.operators.BinaryOp.{BinaryOp}
use Rattle.hir_base.specs.declared.operators.BinaryOp.TheVariants.{LogicOp as Logic, ArithOp as Arith, CmpOp as Cmp, Assignment}
use Rattle.hir_show_grammar.specs.Numerals.{number_of, is_digit, is_numeral, if_below, value}
use Rattle.hir_show_grammar.specs.Operators.{operators, op_of, op_text}
use Rattle.hir_show_grammar.specs.Readings.{look_up, all_of, is_byte, split_parts}
use Rattle.hir_show_grammar.specs.Names.{name_of, is_name}
use Rattle.hir_show_grammar.specs.Words.{optional_of, list_of}
use Rattle.hir_show_grammar.specs.Tokens.{IsNumber, IsOptional, IsNumbers}
use Rattle.hir_show_grammar.proofs.Decimals.{decimal-value, value-decimal, numeral-decimal, digits-decimal}
use Rattle.hir_show_grammar.proofs.Forms.{all_read, all_found, same_bytes}
use Rattle.hir_show_grammar.proofs.Separators.{lacks, AllLack, lacks-passes, split_parts-join}
use Rattle.hir_show_grammar.proofs.Splits.{parts_are_there}
use Rattle.hir_show_grammar.proofs.Integers.{and_first, and_second, if_is_some}
use Rattle.hir_show_grammar.proofs.Digits.{if_below-below}

-- a number
pub number_reads : (n : ℕ) (word : List ℕ) → IsNumber n word → number_of word ≡ Some n
unfolding number_of
number_reads n word h =
    let small : n < 10 ^ 64 = omega (arith, h.0) in
    ap number_of h.1
    ∙ ap (λ b. if b then if_below (2 ^ 32) (value (decimal n)) else None) (numeral-decimal n small)
    ∙ ap (if_below (2 ^ 32)) (value-decimal n small)
    ∙ if_below-below n h.0

pub number_spells : (n : ℕ) (word : List ℕ) → number_of word ≡ Some n → IsNumber n word
unfolding number_of
number_spells n word e =
    let numeral = if_is_some (is_numeral word) (if_below (2 ^ 32) (value word)) n e in
    let found = if_is_some (nat_lt (value word) (2 ^ 32)) (Some (value word)) n numeral.1 in
    let same : value word ≡ n = let some = found.1 in cc in
    let small : value word < 2 ^ 32 = ltb-true _ _ found.0 in
    (omega arith, sym (decimal-value word numeral.0 (omega arith)) ∙ ap decimal same)

-- a dash is no number
not_dash : (word : List ℕ) (n : ℕ) → number_of word ≡ Some n → (dash : Bool) → bytes_eq word (codes "-") ≡ dash → bytes_eq word (codes "-") ≡ false
unfolding number_of
not_dash word n e false is = is
not_dash word n e true is = let wrong : None ≡ Some n = ap number_of (sym (same_bytes word (codes "-") is)) ∙ e in cc

-- a number has digits alone
apart : (c b : ℕ) → is_digit c ≡ false → is_digit b ≡ true → (same : Bool) → is_byte c b ≡ same → is_byte c b ≡ false
apart c b plain digit false e = e
apart c b plain digit true e = absurd (false≢true (sym plain ∙ ap is_digit (sym (eqb-true b c e)) ∙ digit))

pub digit_is_other : (c : ℕ) → is_digit c ≡ false → (b : ℕ) → is_digit b ≡ true → not (is_byte c b) ≡ true
digit_is_other c plain b digit = ap not (apart c b plain digit _ refl)

pub number_lacks : (c : ℕ) → is_digit c ≡ false → (n : ℕ) (word : List ℕ) → IsNumber n word → lacks c word ≡ true
number_lacks c plain n word h = ap (lacks c) h.1 ∙ lacks-passes c is_digit (digit_is_other c plain) (decimal n) (digits-decimal n (omega (arith, h.0)))

-- a number or a dash
pub optional_reads : (o : Option ℕ) (word : List ℕ) → IsOptional o word → optional_of word ≡ Some o
unfolding optional_of
optional_reads None word h = ap optional_of h
optional_reads (Some n) word h =
    let reads = number_reads n word h in
    ap (λ b. if b then Some None else option_map (λ m. Some m) (number_of word)) (not_dash word n reads _ refl)
    ∙ ap (λ found. option_map (λ m. Some m) found) reads

pub optional_spells : (o : Option ℕ) (word : List ℕ) → optional_of word ≡ Some o → IsOptional o word
unfolding optional_of
optional_spells o word e = by_dash (bytes_eq word (codes "-")) refl e where
  of_number : (found : Option ℕ) (o : Option ℕ) → number_of word ≡ found → option_map (λ n. Some n) found ≡ Some o → IsOptional o word
  of_number None o is e = cc
  of_number (Some n) None is e = cc
  of_number (Some n) (Some m) is e = number_spells m word (is ∙ cc)

  of_dash : (o : Option ℕ) → word ≡ codes "-" → Some None ≡ Some o → IsOptional o word
  of_dash None is e = is
  of_dash (Some n) is e = cc

  by_dash : (dash : Bool) → bytes_eq word (codes "-") ≡ dash → (if dash then Some None else option_map (λ n. Some n) (number_of word)) ≡ Some o → IsOptional o word
  by_dash true is e = of_dash o (same_bytes word (codes "-") is) e
  by_dash false is e = of_number (number_of word) o refl e

pub optional_lacks : (c : ℕ) → is_digit c ≡ false → lacks c (codes "-") ≡ true → (o : Option ℕ) (word : List ℕ) → IsOptional o word → lacks c word ≡ true
optional_lacks c plain dash None word h = ap (lacks c) h ∙ dash
optional_lacks c plain dash (Some n) word h = number_lacks c plain n word h

-- a name
pub name_reads : (name word : List ℕ) → (is_name name ≡ true) × (word ≡ name) → name_of word ≡ Some name
name_reads name word h = ap name_of h.1 ∙ ap (λ b. if b then Some name else None) h.0

pub name_spells : (name word : List ℕ) → name_of word ≡ Some name → (is_name name ≡ true) × (word ≡ name)
name_spells name word e =
    let found = if_is_some (is_name word) (Some word) name e in
    let same : word ≡ name = let again = found.1 in cc in
    (ap is_name (sym same) ∙ found.0, same)

-- the operator
pub op_spells : (op : BinaryOp) (word : List ℕ) → op_of word ≡ Some op → word ≡ op_text op
unfolding op_of
op_spells op word e = looked_up operators refl e where
  entry : (text : List ℕ) (made : BinaryOp) (others : Option BinaryOp) (same : Bool) → bytes_eq word text ≡ same → bytes_eq text (op_text made) ≡ true →
      (if same then Some made else others) ≡ Some op → (others ≡ Some op → word ≡ op_text op) → word ≡ op_text op
  entry text made others true is beside e rest = let found : made ≡ op = cc in same_bytes word text is ∙ same_bytes text (op_text made) beside ∙ ap op_text found
  entry text made others false is beside e rest = rest e

  looked_up : (table : List (List ℕ × BinaryOp)) → list_all (λ e. bytes_eq e.0 (op_text e.1)) table ≡ true → look_up table word ≡ Some op → word ≡ op_text op
  looked_up [] all e = cc
  looked_up (first ∷ table) all e =
      entry first.0 first.1 (look_up table word) (bytes_eq word first.0) refl (and_first _ _ all) e (looked_up table (and_second _ _ all))

-- each operator's text is read as it, and has no space
pub op_is : (op : BinaryOp) → (op_of (op_text op) ≡ Some op) × (lacks 32 (op_text op) ≡ true)
unfolding op_of
op_is (Logic And) = (refl, refl)
op_is (Cmp (Eq true)) = (refl, refl)
op_is (Cmp (Ord Less true)) = (refl, refl)
op_is (Cmp (Ord Greater true)) = (refl, refl)
op_is (Arith Add) = (refl, refl)
op_is (Assignment (Some Add)) = (refl, refl)
op_is _ = (refl, refl)

pub op_reads : (op : BinaryOp) (word : List ℕ) → word ≡ op_text op → op_of word ≡ Some op
op_reads op word h = ap op_of h ∙ (op_is op).0

some_part : (parts : List (List ℕ)) → (parts ≡ [] → ⊥) → AllZip IsNumber [] parts → ⊥
some_part [] there h = there refl
some_part (part ∷ parts) there h = h

-- the numbers of a list
pub numbers_there : (c : ℕ) → is_digit c ≡ false → (ns : List ℕ) (words : List (List ℕ)) → AllZip IsNumber ns words → AllLack c words
numbers_there c plain [] [] h = tt
numbers_there c plain (n ∷ ns) (word ∷ words) h = (number_lacks c plain n word h.0, numbers_there c plain ns words h.1)
numbers_there c plain _ _ h = absurd h

parts_are_numbers : (n : ℕ) (ns : List ℕ) (words : List (List ℕ)) → AllZip IsNumber (n ∷ ns) words → split_parts 44 (join_with_byte 44 words) ≡ words
parts_are_numbers n ns [] h = absurd h
parts_are_numbers n ns (word ∷ words) h = split_parts-join 44 word words (numbers_there 44 refl (n ∷ ns) (word ∷ words) h)

dash_is_no_list : (word : List ℕ) (n : ℕ) (ns : List ℕ) → all_of number_of (split_parts 44 word) ≡ Some (n ∷ ns) → (dash : Bool) → bytes_eq word (codes "-") ≡ dash → bytes_eq word (codes "-") ≡ false
unfolding number_of
dash_is_no_list word n ns e false is = is
dash_is_no_list word n ns e true is =
    let wrong : None ≡ Some (n ∷ ns) = ap (λ text. all_of number_of (split_parts 44 text)) (sym (same_bytes word (codes "-") is)) ∙ e in cc

-- a list
pub list_reads : (ns : List ℕ) (word : List ℕ) → IsNumbers ns word → list_of word ≡ Some ns
unfolding list_of
list_reads [] word h = ap list_of h
list_reads (n ∷ ns) word h =
    let all : all_of number_of (split_parts 44 word) ≡ Some (n ∷ ns) =
    ap (λ text. all_of number_of (split_parts 44 text)) h.2 ∙ ap (all_of number_of) (parts_are_numbers n ns h.0 h.1) ∙ all_read IsNumber number_of number_reads (n ∷ ns) h.0 h.1 in
    ap (λ b. if b then Some [] else all_of number_of (split_parts 44 word)) (dash_is_no_list word n ns all _ refl) ∙ all

pub list_spells : (ns : List ℕ) (word : List ℕ) → list_of word ≡ Some ns → IsNumbers ns word
unfolding list_of
list_spells ns word e = by_dash (bytes_eq word (codes "-")) refl e where
  of_numbers : (ns : List ℕ) → all_of number_of (split_parts 44 word) ≡ Some ns → IsNumbers ns word
  of_numbers [] e = absurd (some_part (split_parts 44 word) (parts_are_there (is_byte 44) word) (all_found IsNumber number_of number_spells [] (split_parts 44 word) e))
  of_numbers (n ∷ ns) e = (split_parts 44 word, all_found IsNumber number_of number_spells (n ∷ ns) (split_parts 44 word) e, sym (join_with_byte-slice_split 44 word))

  of_dash : (ns : List ℕ) → word ≡ codes "-" → Some [] ≡ Some ns → IsNumbers ns word
  of_dash [] is e = is
  of_dash (n ∷ ns) is e = cc

  by_dash : (dash : Bool) → bytes_eq word (codes "-") ≡ dash → (if dash then Some [] else all_of number_of (split_parts 44 word)) ≡ Some ns → IsNumbers ns word
  by_dash true is e = of_dash ns (same_bytes word (codes "-") is) e
  by_dash false is e = of_numbers ns e
