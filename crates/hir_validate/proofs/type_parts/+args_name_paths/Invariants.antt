use Rattle.std.proofs.Common.{◌≡◌, true, take}
use Rattle.std.specs.List.{list_all}
use Rattle.hir_validate.specs.internal.TestedParts.{binding_paths}
use Rattle.hir_validate.specs.TestedParts.{is_path_at}
use Rattle.hir_validate.proofs.type_parts.+args_name_paths.Given as goal

-- the bindings so far name paths
abbrev pub invariant-args_name_paths-loop-binding : goal.invariant-args_name_paths-loop-binding
invariant-args_name_paths-loop-binding l = list_all (λ b. list_all (is_path_at l.types) (binding_paths b)) (take l.binding-index l.binding-items) ≡ true
