use Rattle.hir_signature.proofs.GenericLists.{early_or_late}
use Rattle.hir_signature.proofs.generic_laws.lifetimes_are_early_or_late.Goals as goal

pub returns : goal.returns
returns c = early_or_late
