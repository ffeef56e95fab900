-- Defines the contexts of hygiene.
use Rattle.std.specs.Prelude.{Bool, true, false}
use Rattle.hir_base.specs.declared.edition.Edition.TheVariants.{Edition2015}
use Rattle.hir_base.specs.declared.hygiene.SyntaxContext.{SyntaxContext}
use Rattle.hir_base.specs.declared.hygiene.SyntaxContext.TheVariants.{Root, Expansion}

-- the context, with the first edition in place of every other
abbrev pub without_edition : SyntaxContext → SyntaxContext
without_edition (Root edition) = Root Edition2015
without_edition (Expansion number) = Expansion number

-- whether the context is a root, and not an expansion
abbrev pub is_root : SyntaxContext → Bool
is_root (Root edition) = true
is_root (Expansion number) = false
