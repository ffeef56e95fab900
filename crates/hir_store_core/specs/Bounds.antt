-- The path of a bound in a store, with its modifier.
use Rattle.hir_store_core.specs.Prelude.{Option, None, IsTrue, list_all, Path, TypeBound, TraitBoundModifier, path_at, is_path_at, bound_paths, Nodes}
use Rattle.std.specs.Prelude.{option_map}
use Rattle.hir_path.specs.declared.bound.TypeBound.TheVariants as bound
use Rattle.hir_path.specs.declared.bound.TraitBoundModifier.TheVariants as modifier

-- the path that a bound names, with its modifier; after `for<..>` it has none
abbrev pub bound_path : TypeBound → Nodes → Option (Path × TraitBoundModifier)
bound_path (bound.Path id before) s = option_map (λ path. (path, before)) (path_at s.types id)
bound_path (bound.ForLifetime names id) s = option_map (λ path. (path, modifier.None)) (path_at s.types id)
bound_path (bound.Lifetime id) s = None
bound_path (bound.Use args) s = None
bound_path bound.Error s = None

-- what a bound names as a path is one
abbrev pub BoundFits : TypeBound → Nodes → Type 0
BoundFits x s = IsTrue (list_all (is_path_at s.types) (bound_paths x))
