use Rattle.std.proofs.Common.{◌∙◌, sym}
use Rattle.std.specs.List.{list_all}
use Rattle.hir_validate.specs.TestedParts.{all_of, args_paths, is_path_at}
use Rattle.hir_validate.proofs.TypePartsLemmas.{list_all-flat_map, all_stops, all_done}
use Rattle.hir_validate.proofs.type_parts.segments_name_paths.Goals as goal

pub returns-then-not-segment_names_paths : goal.returns-then-not-segment_names_paths
returns-then-not-segment_names_paths c =
    let test = is_path_at c.args.types.now in
    let stops = all_stops (λ o. list_all test (all_of args_paths o)) c.args.lists.now c.loop-args.args-index c.args-item.result c.loop-args-test.true c.args-item.is (sym c.segment_names_paths.ensures ∙ c.if-not-segment_names_paths.true) in
    stops ∙ sym (list_all-flat_map test (all_of args_paths) c.args.lists.now)

pub returns : goal.returns
returns c =
    let test = is_path_at c.args.types.now in
    let done = all_done (λ o. list_all test (all_of args_paths o)) c.args.lists.now c.loop-args.args-index c.loop-args-test.false c.loop-args.invariant in
    done ∙ sym (list_all-flat_map test (all_of args_paths) c.args.lists.now)
