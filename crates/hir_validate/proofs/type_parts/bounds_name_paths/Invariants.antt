use Rattle.std.proofs.Common.{◌≡◌, true, take}
use Rattle.std.specs.List.{list_all}
use Rattle.hir_validate.specs.TestedParts.{bound_paths, is_path_at}
use Rattle.hir_validate.proofs.type_parts.bounds_name_paths.Given as goal

-- the bounds so far name paths
abbrev pub invariant-loop-bound : goal.invariant-loop-bound
invariant-loop-bound l = list_all (λ b. list_all (is_path_at l.types) (bound_paths b)) (take l.bound-index l.bounds) ≡ true
