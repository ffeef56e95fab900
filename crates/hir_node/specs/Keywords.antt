-- Defines the keywords of mutability.
use Rattle.std.specs.Prelude.{ℕ, List, codes}
use Rattle.hir_node.specs.declared.type_ref.Mutability.{Mutability}
use Rattle.hir_node.specs.declared.type_ref.Mutability.TheVariants.{Shared, Mut}

-- the keyword after `&`
abbrev pub ref_keyword : Mutability → List ℕ
ref_keyword Shared = codes ""
ref_keyword Mut = codes "mut "

-- the keyword after `*`
abbrev pub ptr_keyword : Mutability → List ℕ
ptr_keyword Shared = codes "const "
ptr_keyword Mut = codes "mut "
