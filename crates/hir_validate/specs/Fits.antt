-- Defines when a path, generic arguments or a bound fit a store.
use Rattle.std.specs.Prelude.{◌&&◌}
use Rattle.hir_validate.specs.Prelude.{Bool, list_all, Path, GenericArgs, TypeBound, path_calls, args_calls, bound_calls}
use Rattle.hir_validate.specs.Sizes.{is_in_range}
use Rattle.hir_validate.specs.TestedParts.{is_path_at, path_paths, args_paths, bound_paths, path_gives_self, args_give_self, one_list_each}
use Rattle.hir_validate.specs.Nodes.{Nodes, sizes_of}

-- whether a path fits a store: each id that it names is in range, each type that it names as a path is one,
-- each list that begins with a self type isn't empty, and a `Normal` path has one list for each segment
abbrev pub path_fits : Nodes → Path → Bool
path_fits s x = list_all (is_in_range (sizes_of s)) (path_calls x)
    && list_all (is_path_at s.types) (path_paths x) && path_gives_self x && one_list_each x

-- whether generic arguments, with those nested in their bindings, fit a store: each id that they name is in
-- range, each type that they name as a path is one, and each list that begins with a self type isn't empty
abbrev pub args_fit : Nodes → GenericArgs → Bool
args_fit s x = list_all (is_in_range (sizes_of s)) (args_calls x)
    && list_all (is_path_at s.types) (args_paths x)
    && args_give_self x

-- whether a bound fits a store: each id that it names is in range, and the type that it names as a path is
-- one
abbrev pub bound_fits : Nodes → TypeBound → Bool
bound_fits s x = list_all (is_in_range (sizes_of s)) (bound_calls x)
    && list_all (is_path_at s.types) (bound_paths x)
