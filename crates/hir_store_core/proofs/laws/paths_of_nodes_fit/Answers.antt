use Rattle.hir_validate.proofs.PathFits.{expr_path_fits, record_lit_path_fits, pat_path_fits, tuple_struct_path_fits, record_pat_path_fits, type_path_fits}
use Rattle.hir_store_core.specs.Contents.{rooted_of}
use Rattle.hir_store_core.proofs.laws.paths_of_nodes_fit.Goals as goal

pub returns-clause-exprs : goal.returns-clause-exprs
returns-clause-exprs c = λ s. expr_path_fits (rooted_of s)

pub returns-clause-record_lits : goal.returns-clause-record_lits
returns-clause-record_lits c = λ s. record_lit_path_fits (rooted_of s)

pub returns-clause-pats : goal.returns-clause-pats
returns-clause-pats c = λ s. pat_path_fits (rooted_of s)

pub returns-clause-tuple_structs : goal.returns-clause-tuple_structs
returns-clause-tuple_structs c = λ s. tuple_struct_path_fits (rooted_of s)

pub returns-clause-record_pats : goal.returns-clause-record_pats
returns-clause-record_pats c = λ s. record_pat_path_fits (rooted_of s)

pub returns-clause-types : goal.returns-clause-types
returns-clause-types c = λ s. type_path_fits (rooted_of s)
