use Rattle.std.proofs.Common.{◌≡◌, ℕ, List, [], ◌∷◌, Option, None, Some, Result, Ok, Err, refl, sym, ap, ◌∙◌}
use Rattle.std.specs.Option.{option_map, option_and_then}
use Rattle.std.specs.List.{join_with_byte}
use Rattle.std.proofs.lemmas.List.Splits.{join_with_byte-slice_split}
use Rattle.std.proofs.lemmas.Result.{err_from_is_err_and}
use Rattle.hir_show_grammar.specs.declared.line_error.LineError.{LineError}
use Rattle.hir_show_grammar.specs.internal.Readings.{ReadsAll, SaysOrStops}
use Rattle.hir_show_grammar.specs.Readings.{alone, split_parts, whole}
use Rattle.hir_show_grammar.specs.Words.{list, list_of}
use Rattle.hir_show_grammar.proofs.Separators.{split_parts-join}
use Rattle.hir_show_grammar.proofs.Spaces.{numbers_lack}
use Rattle.hir_show_grammar.proofs.Spellings.{list_spells}
use Rattle.hir_show_grammar.proofs.Splits.{rest_words, words_past}
use Rattle.hir_show_grammar.proofs.words.Words+32.list.Goals as goal

-- no list has a space: a text that is one is one word
list_found : (text ns : List ℕ) → list_of text ≡ Some ns → list (split_parts 32 text) ≡ Some (ns, [])
list_found text ns e =
    ap list (split_parts-join 32 text [] (numbers_lack ns text (list_spells ns text e), tt))
    ∙ ap (option_map {U = List ℕ × List (List ℕ)} (λ (xs : List ℕ). (xs, []))) e

none_found : (words : List (List ℕ)) (text : List ℕ) → text ≡ join_with_byte 32 words → list_of text ≡ None → whole list words ≡ None
none_found [] text joined none = refl
none_found (word ∷ []) text joined none =
    ap (λ (found : Option (List ℕ)). option_and_then (λ (f : List ℕ × List (List ℕ)). alone f.0 f.1) (option_map {U = List ℕ × List (List ℕ)} (λ xs. (xs, [])) found)) (ap list_of (sym joined) ∙ none)
none_found (word ∷ other ∷ words) text joined none = by_found (list_of word) where
  by_found : (found : Option (List ℕ)) → option_and_then (λ (f : List ℕ × List (List ℕ)). alone f.0 f.1) (option_map {U = List ℕ × List (List ℕ)} (λ xs. (xs, other ∷ words)) found) ≡ None
  by_found None = refl
  by_found (Some xs) = refl

list_alone : (text : List ℕ) → whole list (split_parts 32 text) ≡ list_of text
list_alone text = by_found (list_of text) refl where
  by_found : (found : Option (List ℕ)) → list_of text ≡ found → whole list (split_parts 32 text) ≡ found
  by_found None e = none_found (split_parts 32 text) text (sym (join_with_byte-slice_split 32 text)) e
  by_found (Some ns) e = ap (λ found. option_and_then (λ (f : List ℕ × List (List ℕ)). alone f.0 f.1) found) (list_found text ns e)

list_says : (words : List (List ℕ)) (text : List ℕ) (result : Result (List ℕ) LineError) → words ≡ split_parts 32 text → SaysOrStops list_of text result → ReadsAll list words result
list_says words text (Ok ns) e says = ap list e ∙ list_found text ns says
list_says words text (Err why) e says =
    let same : whole list words ≡ list_of text = ap (whole list) e ∙ list_alone text in
    (λ bad. same ∙ says.0 bad, λ none. says.1 (sym same ∙ none))

pub returns-in_err-text : goal.returns-in_err-text
returns-in_err-text g c =
    let p = err_from_is_err_and c.from_residual.result c.from_residual.ensures.1 in
    let none : whole list c.args.self.now ≡ None = ap (whole list) (sym c.self.view_is ∙ words_past 32 c.self.inside.start c.self.inside.text.now (c.in_err-text.ensures {u = tt})) in
    rw (p.1, p.2) (λ _. none, λ _. refl)

pub returns : goal.returns
returns g c = list_says c.args.self.now c.in_ok-text.text.now c.list.result (sym c.self.view_is ∙ rest_words 32 (c.in_ok-text.ensures {u = tt})) c.list.ensures
