use Rattle.hir_signature.proofs.FirstOfName.{first_type_named, first_const_named, first_lifetime_named}
use Rattle.hir_signature.proofs.generic_laws.finds_answer_the_first.Goals as goal

pub returns-clause-types : goal.returns-clause-types
returns-clause-types c = first_type_named

pub returns-clause-consts : goal.returns-clause-consts
returns-clause-consts c = first_const_named

pub returns-clause-lifetimes : goal.returns-clause-lifetimes
returns-clause-lifetimes c = first_lifetime_named
