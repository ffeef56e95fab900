use Rattle.std.proofs.Common.{rules, sym, ◌≡◌, ◌∙◌, refl}
use Rattle.hir_node.proofs.RunLemmas.{runs_keep, runs_leave}
use Rattle.hir_node.specs.declared.node_id.NodeId.TheVariants as node
use Rattle.hir_validate.specs.Sizes.{is_in_range}
use Rattle.hir_validate.specs.Nodes.{sizes_of}
use Rattle.hir_store_core.specs.Contents.{rooted_of}
use Rattle.hir_store_core.specs.PatLists.{exprs_from, exprs_in}
use Rattle.hir_validate.proofs.SoundLemmas.{calls_in_range}
use Rattle.hir_store_core.proofs.WalkLemmas.{may_each}
use Rattle.hir_store_core.proofs.TryLemmas.{tries_through, tries_at}
use Rattle.hir_store_core.proofs.store.ExpressionStore.try_walk_child_exprs.Goals as goal

pub visit_expr_children-requires-clause-may : goal.visit_expr_children-requires-clause-may
visit_expr_children-requires-clause-may g c =
    let in_range = calls_in_range (rooted_of c.args.self.now) c.has_no_fault.ensures (node.Expr c.args.id) c.requires.in_range in
    may_each _ (λ v. goal.F-IsAlwaysCallable g v.f.now × (v.store ≡ c.args.self)) (is_in_range (sizes_of c.args.self.now.nodes))
    (λ v d h t. (h.0, rw h.1 t)) (λ v w d h s. (s.1, s.2 ∙ h.1)) _ (c.requires.callable, refl) in_range

pub returns-clause-runs : goal.returns-clause-runs
returns-clause-runs g c =
    let all = tries_through (λ p x r q. goal.F-step g p x r q) (λ v. v.answer.now) (λ v. v.f.now) (exprs_from (exprs_in c.args.self.now.nodes)) (λ v. v.store ≡ c.args.self)
    (λ v w d h s. (rw h at s.0, s.2 ∙ h)) refl c.visit_expr_children.ensures in
    let same = sym (runs_keep (λ v. v.f.ghost_name) (λ v w d s. s.3) c.visit_expr_children.ensures) in
    let kept = sym (runs_keep (λ v. v.answer.ghost_name) (λ v w d s. s.4) c.visit_expr_children.ensures) in
    tries_at (search (rules, same)) (search (rules, kept)) all

pub returns-clause-callable : goal.returns-clause-callable
returns-clause-callable g c =
    let same = sym (runs_keep (λ v. v.f.ghost_name) (λ v w d s. s.3) c.visit_expr_children.ensures) in
    let left = runs_leave (λ v. goal.F-IsAlwaysCallable g v.f.now) (λ v w d s. s.1) c.visit_expr_children.ensures c.requires.callable in
    search (rules, same, left)
