use Rattle.std.proofs.Common.{◌≡◌, ℕ, Bool, true, false, List, [], ◌∷◌, Option, None, Some, refl, ap, sym, ◌∙◌}
use Rattle.std.specs.Prelude.{codes, if◌then◌else◌}
use Rattle.std.specs.Option.{option_map}
use Rattle.std.specs.Str.{bytes_eq}
use Rattle.std.proofs.lemmas.Result.{err_from_is_err_and}
use Rattle.hir_show_grammar.specs.Numerals.{number_of}
use Rattle.hir_show_grammar.specs.internal.Readings.{StartsOtherwise}
use Rattle.hir_show_grammar.specs.Readings.{split_parts}
use Rattle.hir_show_grammar.specs.Words.{number, optional, optional_of}
use Rattle.hir_show_grammar.proofs.Forms.{same_bytes}
use Rattle.hir_show_grammar.proofs.Prefixes.{Begins, begins_with}
use Rattle.hir_show_grammar.proofs.Splits.{rest_further, rest_words, words_past}
use Rattle.hir_show_grammar.proofs.words.Words.optional.Goals.{then-this-eq45-via-then-this-eq45, then-this-eq45-via-else-this-eq45+then-not-begins_with}
use Rattle.hir_show_grammar.proofs.words.Words.optional.Goals as goal

as_number : (word : List ℕ) (words : List (List ℕ)) (dash : Bool) → bytes_eq word (codes "-") ≡ dash → (dash ≡ true → ⊥) →
    optional (word ∷ words) ≡ option_map {U = Option ℕ × List (List ℕ)} (λ (f : ℕ × List (List ℕ)). (Some f.0, f.1)) (number (word ∷ words))
unfolding optional_of
as_number word words true e none = absurd (none refl)
as_number word words false e none =
    let read : Bool → Option (Option ℕ × List (List ℕ)) = λ b. option_map (λ (o : Option ℕ). (o, words)) (if b then Some None else option_map (λ n. Some n) (number_of word)) in
    ap read e ∙ by_number (number_of word) where
      by_number : (found : Option ℕ) → option_map {U = Option ℕ × List (List ℕ)} (λ (o : Option ℕ). (o, words)) (option_map (λ n. Some n) found) ≡ option_map {U = Option ℕ × List (List ℕ)} (λ (f : ℕ × List (List ℕ)). (Some f.0, f.1)) (option_map {U = ℕ × List (List ℕ)} (λ n. (n, words)) found)
      by_number None = refl
      by_number (Some n) = refl

-- where no dash comes first an optional number is a number
optional_otherwise : (words : List (List ℕ)) → StartsOtherwise (codes "-") words →
    optional words ≡ option_map {U = Option ℕ × List (List ℕ)} (λ (f : ℕ × List (List ℕ)). (Some f.0, f.1)) (number words)
optional_otherwise [] plain = refl
optional_otherwise (word ∷ words) plain = as_number word words _ refl (λ dash. plain words (ap (λ w. w ∷ words) (same_bytes word (codes "-") dash)))

-- a dash is read
dash_read : (words : List (List ℕ)) → optional (codes "-" ∷ words) ≡ Some (None, words)
unfolding optional_of
dash_read words = refl

-- no dash is a word where dashes separate
no_dash : (separator : ℕ) → separator ≡ 45 → (text : List ℕ) → StartsOtherwise (codes "-") (split_parts separator text)
no_dash separator is text = λ others e.
    let parts : split_parts 45 text ≡ codes "-" ∷ others = ap (λ c. split_parts c text) (sym is) ∙ e in
    let prefix : Begins text (codes "-") = begins_with 45 text (codes "-") others parts in
    let empty : split_parts 45 text ≡ [] ∷ split_parts 45 prefix.0 = ap (split_parts 45) prefix.1 in
    let wrong : codes "-" ∷ others ≡ [] ∷ split_parts 45 prefix.0 = sym parts ∙ empty in
    cc

-- a number is read where no dash comes first
by_number : {words parts : List (List ℕ)} {found : Option (ℕ × List (List ℕ))} → words ≡ parts → StartsOtherwise (codes "-") parts → number words ≡ found →
    optional words ≡ option_map {U = Option ℕ × List (List ℕ)} (λ (f : ℕ × List (List ℕ)). (Some f.0, f.1)) found
by_number {words} same other read =
    optional_otherwise words (λ others e. other others (sym same ∙ e)) ∙ ap (option_map {U = Option ℕ × List (List ℕ)} (λ (f : ℕ × List (List ℕ)). (Some f.0, f.1))) read

pub returns-in_err-text : goal.returns-in_err-text
returns-in_err-text g c =
    let p = err_from_is_err_and c.from_residual.result c.from_residual.ensures.1 in
    rw p.1 (ap optional (sym c.self.view_is ∙ words_past g.row.SEPARATOR c.self.inside.start c.self.inside.text.now (c.in_err-text.ensures {u = tt})))

pub returns-in_err-number : goal.returns-in_err-number
returns-in_err-number g c =
    let p = err_from_is_err_and c.from_residual-in_err-number.result c.from_residual-in_err-number.ensures.1 in
    let other : StartsOtherwise (codes "-") (split_parts g.row.SEPARATOR c.in_ok-text.text.now) = elim c.then-this-eq45.branch [
      | then-this-eq45-via-then-this-eq45 w ↦ no_dash g.row.SEPARATOR w.if-this-eq45.true c.in_ok-text.text.now
      | then-this-eq45-via-else-this-eq45+then-not-begins_with w ↦ w.begins_with.ensures.no w.if-not-begins_with.true
    ] in
    rw p.1 (by_number (sym c.self.view_is ∙ rest_words g.row.SEPARATOR (c.in_ok-text.ensures {u = tt})) other (c.in_err-number.ensures {u = tt}))

pub returns-then-this-eq45 : goal.returns-then-this-eq45
returns-then-this-eq45 g c =
    let other : StartsOtherwise (codes "-") (split_parts g.row.SEPARATOR c.in_ok-text.text.now) = elim c.then-this-eq45.branch [
      | then-this-eq45-via-then-this-eq45 w ↦ no_dash g.row.SEPARATOR w.if-this-eq45.true c.in_ok-text.text.now
      | then-this-eq45-via-else-this-eq45+then-not-begins_with w ↦ w.begins_with.ensures.no w.if-not-begins_with.true
    ] in
    by_number (sym c.self.view_is ∙ rest_words g.row.SEPARATOR (c.in_ok-text.ensures {u = tt})) other (c.in_ok-number.ensures {u = tt})

pub returns : goal.returns
returns g c =
    let is = c.in_ok-text.ensures {u = tt} in
    ap optional (sym c.self.view_is ∙ rest_words g.row.SEPARATOR is ∙ c.begins_with.ensures.yes c.if-not-begins_with.false ∙ ap (λ ws. codes "-" ∷ ws) (rest_further g.row.SEPARATOR 2 is))
    ∙ dash_read _
