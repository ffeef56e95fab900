-- The names and hygienes that some entries have.
use Rattle.std.specs.Prelude.{◌≡◌, ◌&&◌}
use Rattle.hir_usages.specs.Prelude.{list_any, ℕ, Bool, List, Name, SyntaxContext, matches, ScopeEntry}
use Rattle.hir_base.specs.contracts.hygiene.HygieneIdPartialEq.TheImpl as hygienes
use Rattle.hir_base.specs.contracts.name.NamePartialEq.TheImpl as names

-- a hygiene and a name that were seen are these
abbrev pub is_key : Name → SyntaxContext → SyntaxContext → Name → Bool
is_key name hygiene seen_hygiene seen_name =
    hygienes.ghosts.eq seen_hygiene hygiene && names.ghosts.eq seen_name name

-- what was seen is what the entries have
abbrev pub AreSeen : List ScopeEntry → (Name → SyntaxContext → Bool) → Type 0
AreSeen entries was_seen =
    (name : List ℕ) (hygiene : SyntaxContext) → was_seen name hygiene ≡ list_any (matches name hygiene) entries
