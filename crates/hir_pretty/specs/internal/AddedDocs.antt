-- Words of what is added beside the documents of definitions.
use Rattle.std.specs.Prelude.{◌++◌}
use Rattle.hir_pretty.specs.Prelude.{ℕ, Bool, false, List, get_or, codes, TypeRefId, Doc, text, t, when}

-- what the type of an argument is printed as where its place is marked
abbrev pub marked_docs : List Bool → ℕ × TypeRefId → List Doc
marked_docs marks entry = when (get_or marks entry.0 false) (text (codes "const: ")) ++ t entry.1
