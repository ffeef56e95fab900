use Rattle.std.proofs.Common.{rules, of_calls, refl}
use Rattle.hir_store_core.proofs.TryLemmas.{tries_one}
use Rattle.hir_store_core.proofs.pat_visitors.PatVisitorTurnVisitor.on_enter.Goals as goal

pub returns : goal.returns
returns g c = (tries_one _ c.f.ensures, search (rules, of_calls), refl)
