use Rattle.std.proofs.Common.{rules, of_calls, ◌∙◌, refl, sym}
use Rattle.hir_store_core.proofs.TryLemmas.{after_one, ok_is}
use Rattle.hir_store_core.proofs.try_walks.ChildExprsStoreVisitor.on_expr.Goals as goal

pub returns-then-is_ok : goal.returns-then-is_ok
returns-then-is_ok g c = (after_one _ _ _ _ _ _ (ok_is _ (sym c.is_ok.ensures.value ∙ c.if-is_ok.true)) c.f.ensures, search (rules, of_calls), refl, refl, refl)
