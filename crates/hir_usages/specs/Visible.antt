-- The names that are visible along a chain: what completion offers.
use Rattle.hir_usages.specs.Prelude.{list_any, List, [], fold, Chain, entries_of, matches, ScopeEntry}
use Rattle.std.specs.Prelude.{◌∷◌, ◌++◌, if◌then◌else◌}

-- an entry is added where none has its name and its hygiene
abbrev pub with_new_name : List ScopeEntry → ScopeEntry → List ScopeEntry
with_new_name found entry =
    if list_any (matches entry.name entry.hygiene) found then found else found ++ entry ∷ []

-- of each name and hygiene the first entry, innermost first
abbrev pub visible_in : Chain → List ScopeEntry
visible_in frames = fold with_new_name [] (entries_of frames)
