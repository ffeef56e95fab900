use Rattle.std.proofs.Common.{rules, sym}
use Rattle.hir_node.proofs.RunLemmas.{runs_keep, runs_leave, may_always}
use Rattle.hir_store_core.specs.PatLists.{own_exprs}
use Rattle.hir_store_core.proofs.TryLemmas.{tries_through, tries_at}
use Rattle.hir_store_core.proofs.store.ExpressionStore.try_walk_child_exprs_without_pats.Goals as goal

pub visit_expr_children-requires-clause-may : goal.visit_expr_children-requires-clause-may
visit_expr_children-requires-clause-may g c = may_always _ (λ v. goal.F-IsAlwaysCallable g v.f.now) (λ v d h. h) (λ v w d s. s.1) _ c.requires.callable

pub returns-clause-runs : goal.returns-clause-runs
returns-clause-runs g c =
    let all = tries_through (λ p x r q. goal.F-step g p x r q) (λ v. v.answer.now) (λ v. v.f.now) own_exprs (λ v. Unit {0}) (λ v w d h s. (s.0, tt)) tt c.visit_expr_children.ensures in
    let same = sym (runs_keep (λ v. v.f.ghost_name) (λ v w d s. s.2) c.visit_expr_children.ensures) in
    let kept = sym (runs_keep (λ v. v.answer.ghost_name) (λ v w d s. s.3) c.visit_expr_children.ensures) in
    tries_at (search (rules, same)) (search (rules, kept)) all

pub returns-clause-callable : goal.returns-clause-callable
returns-clause-callable g c =
    let same = sym (runs_keep (λ v. v.f.ghost_name) (λ v w d s. s.2) c.visit_expr_children.ensures) in
    let left = runs_leave (λ v. goal.F-IsAlwaysCallable g v.f.now) (λ v w d s. s.1) c.visit_expr_children.ensures c.requires.callable in
    search (rules, same, left)
