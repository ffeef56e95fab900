use Rattle.hir_store_core.specs.Contents.{rooted_of}
use Rattle.hir_validate.proofs.FitsLemmas.{impl_bounds_fit, dyn_bounds_fit, method_args_fit}
use Rattle.hir_store_core.proofs.laws.bounds_and_args_of_nodes_fit.Goals as goal

pub returns-clause-impl_traits : goal.returns-clause-impl_traits
returns-clause-impl_traits c = λ s. impl_bounds_fit (rooted_of s)

pub returns-clause-dyn_traits : goal.returns-clause-dyn_traits
returns-clause-dyn_traits c = λ s. dyn_bounds_fit (rooted_of s)

pub returns-clause-method_calls : goal.returns-clause-method_calls
returns-clause-method_calls c = λ s. method_args_fit (rooted_of s)
