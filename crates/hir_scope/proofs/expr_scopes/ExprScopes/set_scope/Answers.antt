use Rattle.std.proofs.Common.{◌<◌, sym, subst, length}
use Rattle.hir_scope.specs.Scopes.{Scopes}
use Rattle.hir_scope.proofs.SameLemmas.{flat_set, length_seen}
use Rattle.hir_scope.proofs.expr_scopes.ExprScopes.set_scope.Goals.{in-Ok, in-Err}
use Rattle.hir_scope.proofs.expr_scopes.ExprScopes.set_scope.Goals as goal

pub invariant_of-self : goal.invariant_of-self
invariant_of-self c =
    let es = c.self.inside.entries.items in
    let rows = c.self.inside.scopes.items in
    let l : c.args.scope < length rows =
    subst (λ n. c.args.scope < n) (length_seen es rows)
    (subst (λ (x : Scopes). c.args.scope < length x.scopes) (sym c.self.view_is) c.requires) in
    elim c.match-insert.branch [
      | in-Ok w ↦ rw w.in-Ok.ensures.ok (flat_set es rows c.self.inside.scope_by_expr c.args.expr c.args.scope c.self.invariant l)
      | in-Err w ↦ rw w.in-Err.ensures.err c.self.invariant
    ]
