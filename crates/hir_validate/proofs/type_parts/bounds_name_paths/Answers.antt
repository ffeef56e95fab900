use Rattle.std.proofs.Common.{◌∙◌, sym}
use Rattle.std.specs.List.{list_all}
use Rattle.hir_validate.specs.TestedParts.{bound_paths, is_path_at}
use Rattle.hir_validate.proofs.TypePartsLemmas.{list_all-flat_map, all_stops, all_done}
use Rattle.hir_validate.proofs.type_parts.bounds_name_paths.Goals as goal

pub returns-then-not-bound_names_path : goal.returns-then-not-bound_names_path
returns-then-not-bound_names_path c =
    let test = is_path_at c.args.types.now in
    let stops = all_stops (λ b. list_all test (bound_paths b)) c.args.bounds.now c.loop-bound.bound-index c.bound-item.result c.loop-bound-test.true c.bound-item.is (sym c.bound_names_path.ensures ∙ c.if-not-bound_names_path.true) in
    stops ∙ sym (list_all-flat_map test bound_paths c.args.bounds.now)

pub returns : goal.returns
returns c =
    let test = is_path_at c.args.types.now in
    let done = all_done (λ b. list_all test (bound_paths b)) c.args.bounds.now c.loop-bound.bound-index c.loop-bound-test.false c.loop-bound.invariant in
    done ∙ sym (list_all-flat_map test bound_paths c.args.bounds.now)
