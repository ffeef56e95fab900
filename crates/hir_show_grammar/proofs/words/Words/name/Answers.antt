use Rattle.std.proofs.Common.{◌≡◌, true, List, ℕ, Some, None, ap, sym, ◌∙◌}
use Rattle.std.specs.Prelude.{if◌then◌else◌}
use Rattle.std.specs.Option.{option_map}
use Rattle.hir_show_grammar.specs.Names.{is_name}
use Rattle.hir_show_grammar.specs.Words.{name}
use Rattle.hir_show_grammar.proofs.words.Words.name.Goals as goal

pub returns : goal.returns
returns g c =
    let word = c.in_ok-word.word.now in
    let named : is_name word ≡ true = sym c.is_name.ensures ∙ c.if-not-is_name.false in (
      named,
      ap name (c.in_ok-word.ensures {u = tt})
          ∙ ap (λ b. option_map (λ (x : List ℕ). (x, c.word.new.self)) (if b then Some word else None)) named,
    )
