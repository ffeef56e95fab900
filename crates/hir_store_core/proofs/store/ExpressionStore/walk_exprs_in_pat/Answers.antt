use Rattle.std.proofs.Common.{refl, sym}
use denote.Param.Always.{mut_by, mut_next}
use Rattle.std.proofs.lemmas.Fn.{chained_keeps}
use Rattle.hir_store_core.proofs.TryLemmas.{turns_keep, all_ran}
use Rattle.hir_store_core.proofs.store.ExpressionStore.walk_exprs_in_pat.Goals as goal

pub try_walk_exprs_in_pat-requires-clause-callable : goal.try_walk_exprs_in_pat-requires-clause-callable
try_walk_exprs_in_pat-requires-clause-callable g c =
    mut_by _ (λ s. goal.F-IsAlwaysCallable g s.0.now) (λ s a i. i) (λ s a r t i called. mut_next g.F.FnMut _ _ _ _ _ called.met.1.1.1 refl i) _ c.requires.callable

pub returns-clause-runs : goal.returns-clause-runs
returns-clause-runs g c =
    let kept = turns_keep (λ s. s.0.ghost_name) (λ s t x r called. called.met.1.0) _ c.try_walk_exprs_in_pat.result c.try_walk_exprs_in_pat.ensures.runs in
    let all = all_ran (λ p x q. goal.F-step g p x tt q) (λ s. s.0.now) (λ s t x r called. called.met.1.1) _ c.try_walk_exprs_in_pat.result c.try_walk_exprs_in_pat.ensures.runs in
    rw (c.f-1.given.1 (sym kept)) all

pub returns-clause-callable : goal.returns-clause-callable
returns-clause-callable g c =
    let kept = turns_keep (λ s. s.0.ghost_name) (λ s t x r called. called.met.1.0) _ c.try_walk_exprs_in_pat.result c.try_walk_exprs_in_pat.ensures.runs in
    let all = all_ran (λ p x q. goal.F-step g p x tt q) (λ s. s.0.now) (λ s t x r called. called.met.1.1) _ c.try_walk_exprs_in_pat.result c.try_walk_exprs_in_pat.ensures.runs in
    let still = chained_keeps _ (λ xs p. goal.F-IsAlwaysCallable g p) (λ xs p x q h s. mut_next g.F.FnMut _ _ _ _ _ s refl h) _ _ _ c.requires.callable all in
    rw (c.f-1.given.1 (sym kept)) still
