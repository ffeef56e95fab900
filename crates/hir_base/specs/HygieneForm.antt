-- Defines how a hygiene is stored: without an edition, with the bytes of an expansion's number.
use Rattle.std.specs.Int.{w32, from_le_bytes, to_le_bytes}
use Rattle.hir_base.specs.declared.edition.Edition.TheVariants.{Edition2015}
use Rattle.hir_base.specs.declared.hygiene.SyntaxContext.{SyntaxContext}
use Rattle.hir_base.specs.declared.hygiene.SyntaxContext.TheVariants.{Root, Expansion}
use Rattle.hir_base.specs.declared.hygiene.Context.{Context}
use Rattle.hir_base.specs.declared.hygiene.Context.TheVariants as form

-- the context of a stored form
abbrev pub context : Context → SyntaxContext
context form.Root = Root Edition2015
context (form.Expansion bytes) = Expansion (from_le_bytes w32 bytes)

-- the form in which a context is stored
abbrev pub context_of : SyntaxContext → Context
context_of (Root edition) = form.Root
context_of (Expansion number) = form.Expansion (to_le_bytes w32 number)
