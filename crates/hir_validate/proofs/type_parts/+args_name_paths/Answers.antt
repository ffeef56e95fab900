use Rattle.std.proofs.Common.{◌∙◌, sym}
use Rattle.std.specs.List.{list_all}
use Rattle.hir_validate.specs.internal.TestedParts.{binding_paths}
use Rattle.hir_validate.specs.TestedParts.{is_path_at}
use Rattle.hir_validate.proofs.TypePartsLemmas.{args_paths_is, list_all-flat_map, all_stops, all_done}
use Rattle.hir_validate.proofs.type_parts.+args_name_paths.Goals as goal

pub args_name_paths-returns-then-not-binding_names_paths : goal.args_name_paths-returns-then-not-binding_names_paths
args_name_paths-returns-then-not-binding_names_paths t c =
    let test = is_path_at c.args.types.now in
    let items = c.as_slice-binding-items.result.now in
    let stops = all_stops (λ b. list_all test (binding_paths b)) items c.loop-binding.binding-index c.binding-item.result c.loop-binding-test.true c.binding-item.is (sym c.binding_names_paths.ensures ∙ c.if-not-binding_names_paths.true) in
    rw (args_paths_is c.args.args.now, ← c.as_slice-binding-items.ensures) (stops ∙ sym (list_all-flat_map test binding_paths items))

pub args_name_paths-returns : goal.args_name_paths-returns
args_name_paths-returns t c =
    let test = is_path_at c.args.types.now in
    let items = c.as_slice-binding-items.result.now in
    let done = all_done (λ b. list_all test (binding_paths b)) items c.loop-binding.binding-index c.loop-binding-test.false c.loop-binding.invariant in
    rw (args_paths_is c.args.args.now, ← c.as_slice-binding-items.ensures) (done ∙ sym (list_all-flat_map test binding_paths items))
