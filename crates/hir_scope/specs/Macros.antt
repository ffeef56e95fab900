-- Resolution through the definitions of macros: at the definition of the macro that wrote a name, the search
-- goes on outward with the hygiene that the name has there.
use Rattle.std.specs.{HashMap.HashMap, HashMap.get, Option.option_or}
use Rattle.std.specs.Prelude.{ℕ, List, [], ◌∷◌, Option, Some, None, nat_eq, if◌then◌else◌}
use Rattle.std.specs.declared.hash.{BuildHasherDefault.BuildHasherDefault, FoldHasher.FoldHasher}
use Rattle.hir_base.specs.Ids.{MacroDefId}
use Rattle.hir_base.specs.{Hygiene.is_root, declared.hygiene.SyntaxContext.SyntaxContext}
use Rattle.hir_base.specs.contracts.hygiene.HygieneIdPartialEq.TheImpl as hygienes
use Rattle.hir_scope.specs.{Frames.Chain, Resolution.find_entry, Scopes.macro_def_of}
use Rattle.hir_scope.specs.declared.{macros.Expansion.Expansion, scope.ScopeEntry.ScopeEntry}

-- the expansions that hygienes come from
abbrev pub Expansions : Type 0
Expansions = HashMap SyntaxContext Expansion (BuildHasherDefault FoldHasher)

-- the expansion that a hygiene comes from, where it is known: source text comes from none
abbrev pub expansion_of : Expansions → SyntaxContext → Option Expansion
expansion_of expansions hygiene = if is_root hygiene then None else get hygienes.ghosts.eq expansions hygiene

-- the hygiene outward of a frame: at the definition of the macro whose expansion it comes from the one around
-- that, else the same
abbrev pub outward : Option MacroDefId → Option Expansion → SyntaxContext → SyntaxContext
outward None expansion hygiene = hygiene
outward (Some id) None hygiene = hygiene
outward (Some id) (Some expansion) hygiene =
    if nat_eq expansion.macro_def id then expansion.parent else hygiene

-- frame by frame the first entry with the name and the hygiene, where the expansions of hygienes are these
abbrev pub resolve_through : (SyntaxContext → Option Expansion) → Chain → List ℕ → SyntaxContext
    → Option ScopeEntry
resolve_through from [] name hygiene = None
resolve_through from (frame ∷ outer) name hygiene =
    option_or (find_entry name hygiene frame.entries)
    (resolve_through from outer name (outward (macro_def_of frame.kind) (from hygiene) hygiene))
