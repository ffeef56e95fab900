use Rattle.hir_validate.proofs.FitsLemmas.{path_args_fit, path_anchor_in_range}
use Rattle.hir_store_core.proofs.laws.parts_of_paths_fit.Goals as goal

pub returns-clause-args : goal.returns-clause-args
returns-clause-args c = path_args_fit

pub returns-clause-anchor : goal.returns-clause-anchor
returns-clause-anchor c = path_anchor_in_range
