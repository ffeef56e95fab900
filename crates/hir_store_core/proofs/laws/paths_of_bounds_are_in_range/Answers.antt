use Rattle.std.specs.Cmp.{second_so}
use Rattle.hir_validate.proofs.FitsLemmas.{bound_path_in_range, for_bound_path_in_range}
use Rattle.hir_store_core.proofs.laws.paths_of_bounds_are_in_range.Goals as goal

pub returns-clause-paths : goal.returns-clause-paths
returns-clause-paths c = bound_path_in_range

pub returns-clause-for_lifetimes : goal.returns-clause-for_lifetimes
returns-clause-for_lifetimes c = for_bound_path_in_range

pub returns-clause-asked : goal.returns-clause-asked
returns-clause-asked c = λ s x h. second_so _ _ h
