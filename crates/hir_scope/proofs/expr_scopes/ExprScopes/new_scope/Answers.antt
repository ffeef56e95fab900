use Rattle.std.proofs.Common.{◌≡◌, ◌≤◌, ◌<◌, ◌+◌, ◌∙◌, ◌++◌, ◌∷◌, [], List, cond, ap, sym, subst, length, arith, refl}
use Rattle.hir_scope.specs.Scopes.{Scopes, Scope, IsBelow}
use Rattle.hir_scope.specs.declared.expr_scopes.ScopeData.{ScopeData}
use Rattle.hir_scope.proofs.SameLemmas.{flat_push, seen_pushed, length_seen, scopes_too_many, entries_too_many, not_too_many}
use Rattle.hir_scope.proofs.expr_scopes.ExprScopes.new_scope.Goals.{then-count-ge-LIMIT-via-then-count-ge-LIMIT}
use Rattle.hir_scope.proofs.expr_scopes.ExprScopes.new_scope.Goals.{then-count-ge-LIMIT-via-else-count-ge-LIMIT+then-len-start}
use Rattle.hir_scope.proofs.expr_scopes.ExprScopes.new_scope.Goals as goal

pub returns-then-count-ge-LIMIT-clause-full : goal.returns-then-count-ge-LIMIT-clause-full
returns-then-count-ge-LIMIT-clause-full c =
    let es = c.self.inside.entries.items in
    let rows = c.self.inside.scopes.items in
    let n = length c.args.entries.now.items in
    rw (← c.self.view_is) (
      λ _. elim c.then-count-ge-LIMIT.branch [
        | then-count-ge-LIMIT-via-then-count-ge-LIMIT w ↦ scopes_too_many es rows n
            (omega (arith, w.if-count-ge-LIMIT, c.len-count.ensures))
        | then-count-ge-LIMIT-via-else-count-ge-LIMIT+then-len-start w ↦ entries_too_many es rows n
            c.self.invariant.fill (omega (arith, w.if-len-start, w.len.ensures, c.len-start.ensures))
      ],
      λ _. refl,
    )

pub returns-then-is_err-clause-full : goal.returns-then-is_err-clause-full
returns-then-is_err-clause-full c =
    let i = c.self.inside in
    let n = length c.args.entries.now.items in
    let few : length i.scopes.items < 4294967295 = omega (arith, c.if-count-ge-LIMIT.false, c.len-count.ensures) in
    let fit : length i.entries.items + n ≤ 4294967295 =
    omega (arith, c.if-len-start.false, c.len.ensures, c.len-start.ensures, c.self.invariant.few_entries) in
    rw (← c.self.view_is) (λ e. absurd cc, λ m. absurd (not_too_many i.entries.items i.scopes.items n c.self.invariant.fill few fit m))

pub returns-clause-full : goal.returns-clause-full
returns-clause-full c =
    let i = c.self.inside in
    let n = length c.args.entries.now.items in
    let few : length i.scopes.items < 4294967295 = omega (arith, c.if-count-ge-LIMIT.false, c.len-count.ensures) in
    let fit : length i.entries.items + n ≤ 4294967295 =
    omega (arith, c.if-len-start.false, c.len.ensures, c.len-start.ensures, c.self.invariant.few_entries) in
    rw (← c.self.view_is) (λ e. absurd cc, λ m. absurd (not_too_many i.entries.items i.scopes.items n c.self.invariant.fill few fit m))

pub invariant_of-self-2 : goal.invariant_of-self-2
invariant_of-self-2 c =
    let es = c.self.inside.entries.items in
    let rows = c.self.inside.scopes.items in
    let more = c.args.entries.now.items in
    let row : ScopeData =
    record { parent = c.args.parent; kind = c.args.kind; start = c.len-start.result; end = c.len-start.result + c.len-2.result } in
    let appended : c.append.new.self.items ≡ es ++ more =
    c.append.ensures.items ∙ ap (λ b. cond b (es ++ more) es) c.if-is_err-2.ensures.negation in
    let pushed : c.push_reserved.new.self.items ≡ rows ++ row ∷ [] =
    c.push_reserved.ensures.items ∙ ap (λ xs. xs ++ row ∷ []) c.reserve.ensures.items in
    let below : IsBelow (length rows) c.args.parent =
    subst (λ n. IsBelow n c.args.parent) (length_seen es rows)
    (subst (λ (x : Scopes). IsBelow (length x.scopes) c.args.parent) (sym c.self.view_is) c.requires) in
    rw (appended, pushed)
    (flat_push es more rows c.self.inside.scope_by_expr row c.self.invariant (omega (arith, c.len-start.ensures))
    (omega (arith, c.len-start.ensures, c.len-2.ensures)) below
    (omega (arith, c.if-count-ge-LIMIT.false, c.len-count.ensures))
    (omega (arith, c.if-len-start.false, c.len.ensures, c.len-start.ensures, c.self.invariant.few_entries)))

pub returns-clause-ok : goal.returns-clause-ok
returns-clause-ok c =
    let es = c.self.inside.entries.items in
    let rows = c.self.inside.scopes.items in
    let more = c.args.entries.now.items in
    let row : ScopeData =
    record { parent = c.args.parent; kind = c.args.kind; start = c.len-start.result; end = c.len-start.result + c.len-2.result } in
    let appended : c.append.new.self.items ≡ es ++ more =
    c.append.ensures.items ∙ ap (λ b. cond b (es ++ more) es) c.if-is_err-2.ensures.negation in
    let pushed : c.push_reserved.new.self.items ≡ rows ++ row ∷ [] =
    c.push_reserved.ensures.items ∙ ap (λ xs. xs ++ row ∷ []) c.reserve.ensures.items in
    let seen = seen_pushed es more rows row c.self.invariant.fill (omega (arith, c.len-start.ensures))
    (omega (arith, c.len-start.ensures, c.len-2.ensures)) in
    rw (appended, pushed, ← c.self.view_is)
    (ap (λ (xs : List Scope). record { scopes = xs; scope_by_expr = c.self.inside.scope_by_expr }) seen)
