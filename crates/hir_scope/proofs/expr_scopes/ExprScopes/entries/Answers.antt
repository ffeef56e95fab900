use Rattle.std.proofs.Common.{ap, length}
use Rattle.std.specs.Prelude.{option_map}
use Rattle.hir_scope.specs.Scopes.{Scope}
use Rattle.hir_scope.proofs.SameLemmas.{scope_seen, row_seen, range_at}
use Rattle.hir_scope.proofs.expr_scopes.ExprScopes.entries.Goals as goal

pub slice_bounds-result-count : goal.slice_bounds-result-count
slice_bounds-result-count c =
    let es = c.self.inside.entries.items in
    let rows = c.self.inside.scopes.items in
    let row = c.index-data.result.now in
    let in_range = row_seen es rows c.self.inside.scope_by_expr c.args.self.now c.args.scope c.into_raw.result row
    c.self.view_is c.requires c.into_raw.ensures c.index-data.ensures in
    (range_at 0 rows (length es) c.into_raw.result row c.self.invariant.fill in_range).0

pub slice_bounds-result-start : goal.slice_bounds-result-start
slice_bounds-result-start c =
    let es = c.self.inside.entries.items in
    let rows = c.self.inside.scopes.items in
    let row = c.index-data.result.now in
    let in_range = row_seen es rows c.self.inside.scope_by_expr c.args.self.now c.args.scope c.into_raw.result row
    c.self.view_is c.requires c.into_raw.ensures c.index-data.ensures in
    (range_at 0 rows (length es) c.into_raw.result row c.self.invariant.fill in_range).0

pub slice_bounds-result-end : goal.slice_bounds-result-end
slice_bounds-result-end c =
    let es = c.self.inside.entries.items in
    let rows = c.self.inside.scopes.items in
    let row = c.index-data.result.now in
    let in_range = row_seen es rows c.self.inside.scope_by_expr c.args.self.now c.args.scope c.into_raw.result row
    c.self.view_is c.requires c.into_raw.ensures c.index-data.ensures in
    rw c.deref.ensures.value ((range_at 0 rows (length es) c.into_raw.result row c.self.invariant.fill in_range).1)

pub returns : goal.returns
returns c =
    let es = c.self.inside.entries.items in
    let rows = c.self.inside.scopes.items in
    let row = c.index-data.result.now in
    let in_range = row_seen es rows c.self.inside.scope_by_expr c.args.self.now c.args.scope c.into_raw.result row
    c.self.view_is c.requires c.into_raw.ensures c.index-data.ensures in
    let seen = scope_seen es rows c.into_raw.result row in_range in
    rw (← c.self.view_is, ← c.into_raw.ensures, c.deref.ensures.value) (ap (option_map (λ (s : Scope). s.entries)) seen)
