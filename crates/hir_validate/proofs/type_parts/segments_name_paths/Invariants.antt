use Rattle.std.proofs.Common.{◌≡◌, true, take}
use Rattle.std.specs.List.{list_all}
use Rattle.hir_validate.specs.TestedParts.{all_of, args_paths, is_path_at}
use Rattle.hir_validate.proofs.type_parts.segments_name_paths.Given as goal

-- the segments so far name paths
abbrev pub invariant-loop-args : goal.invariant-loop-args
invariant-loop-args l = list_all (λ o. list_all (is_path_at l.types) (all_of args_paths o)) (take l.args-index l.lists) ≡ true
