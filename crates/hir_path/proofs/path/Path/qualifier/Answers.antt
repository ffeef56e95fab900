use Rattle.std.proofs.Common.{◌≡◌, [], sym, rules}
use Rattle.std.specs.Prelude.{IsSome}
use Rattle.hir_base.specs.ModPath.{ident_of}
use Rattle.hir_path.specs.Paths.{shorter}
use Rattle.hir_path.proofs.PathLemmas.{qualified_is}
use Rattle.hir_path.proofs.path.Path.qualifier.Goals as goal

pub returns-in_ok-with-in-Normal : goal.returns-in_ok-with-in-Normal
returns-in_ok-with-in-Normal c =
    let path = c.in-Normal.path in
    let named : IsSome (ident_of path.mod_path) → ⊥ = search rules in
    let full : path.mod_path.segments ≡ [] → ⊥ = search rules in
    let made : c.in_ok-with-in-Normal.field-0 ≡ shorter path.type_anchor path.mod_path path.generic_args = search rules in
    rw (c.in-Normal.is, made) (sym (qualified_is _ _ _ named full))
