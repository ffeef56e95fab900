-- Defines the model of the place where the text of a name is stored.
use Rattle.std.specs.Prelude.{ℕ, List}
use Rattle.hir_base.specs.declared.name.Place.{Place}
use Rattle.hir_base.specs.declared.name.Place.TheVariants.{Inside, Outside}

-- the text that a place holds
abbrev pub text_at : Place → List ℕ
text_at (Inside text) = text
text_at (Outside text) = text.value
