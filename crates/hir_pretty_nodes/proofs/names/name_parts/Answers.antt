use Rattle.std.proofs.Common.{◌≡◌, ◌≢◌, ℕ, List, [], ◌∷◌, None, refl, arith, rules}
use Rattle.std.proofs.lemmas.{Bool.Decides.Decides-eqb, Str.Pattern.strip_prefix_char}
use Rattle.hir_pretty_nodes.specs.Prelude.{raw_parts, name_parts}
use Rattle.hir_pretty_nodes.proofs.names.name_parts.Goals as goal

-- a name that doesn't begin with a quote
no_quote : (words : List (List ℕ)) (name : List ℕ) → ((rest : List ℕ) → name ≢ 39 ∷ rest) → name_parts words name ≡ raw_parts words name
no_quote words [] h = refl
no_quote words (c ∷ cs) h = search (rules, Decides-eqb)

pub returns-in-None : goal.returns-in-None
returns-in-None c =
    let h = no_quote c.args.words.now c.args.name.now (strip_prefix_char 39 c.args.name.now None c.in-None.ensures.cases (omega arith)) in search rules
