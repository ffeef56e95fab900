use Rattle.hir_validate.proofs.FitsLemmas.{arg_in_range, binding_args_fit, binding_type_in_range, binding_bounds_fit}
use Rattle.hir_store_core.proofs.laws.parts_of_args_fit.Goals as goal

pub returns-clause-args : goal.returns-clause-args
returns-clause-args c = arg_in_range

pub returns-clause-binding_args : goal.returns-clause-binding_args
returns-clause-binding_args c = binding_args_fit

pub returns-clause-binding_types : goal.returns-clause-binding_types
returns-clause-binding_types c = binding_type_in_range

pub returns-clause-binding_bounds : goal.returns-clause-binding_bounds
returns-clause-binding_bounds c = binding_bounds_fit
