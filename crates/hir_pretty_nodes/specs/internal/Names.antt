-- Beside Names.antt: what only contracts within this crate cite.
use Rattle.std.specs.Prelude.{ℕ, Bool, List, [], ◌∷◌, if◌then◌else◌, codes}
use Rattle.hir_pretty_nodes.specs.declared.names.NameParts.{NameParts}

-- texts, the first of which is present where the condition holds
abbrev pub first_if : Bool → List ℕ → List (List ℕ) → List (List ℕ)
first_if holds first texts = if holds then first ∷ texts else texts

-- the parts as they were found
abbrev pub texts_of : NameParts → List (List ℕ)
texts_of parts = first_if parts.is_quoted (codes "'")
    (first_if parts.is_raw (codes "r#") (parts.text.now ∷ []))
