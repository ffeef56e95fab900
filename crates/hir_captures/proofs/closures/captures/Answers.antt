use Rattle.std.proofs.Common.{◌≡◌, ◌∙◌, ap, subst, None, Some, List, ℕ, ◌∷◌, [], rules}
use Rattle.std.proofs.lemmas.{Bool.cases_lt, Bool.false≢true, Option.slice_get_past}
use Rattle.std.specs.FinMap as map
use Rattle.hir_store_core.specs.Contents.{Contents, contents_fault}
use Rattle.hir_captures.specs.Captures.{IsReachedClosure}
use Rattle.hir_captures.specs.declared.{code.Code.Code, tasks.Task.Task}
use Rattle.hir_captures.specs.internal.Reading.{chain_in, with_code}
use Rattle.hir_captures.proofs.ReadLemmas.{are_by_length, chains_are}
use Rattle.hir_captures.proofs.closures.captures.Goals.{else-has_expr-via-else-has_expr, else-has_expr-via-then-has_expr+in-Missing-1, else-has_expr-via-then-has_expr+in-Closure+in-None-1}
use Rattle.hir_captures.proofs.closures.captures.Goals as goal

-- all that is under the closure was read, from nothing; what lengths give are the captures
pub returns-clause-captures : goal.returns-clause-captures
returns-clause-captures c =
    let b = c.args.body.now in
    let scopes = c.args.scopes.now in
    let closure = c.args.closure in
    let sound : contents_fault b.store None = subst (λ (d : Contents). contents_fault d None) c.store-store.ensures c.has_no_fault-2.ensures in
    let is : IsReachedClosure b closure = search rules in
    let are = chains_are b scopes c.requires.reached c.requires.chains in
    let code : Code = record { store = c.store-store.result; scopes = c.args.scopes; outermost = c.depth.result } in
    let one = c.in_ok-push.ensures.ok ∙ ap (λ (ts : List Task). Task.Expr closure ∷ ts) c.new-unread.ensures in
    let at : map.get scopes.scope_by_expr closure ≡ Some c.in-Some.scope = search rules in
    (c.lengths_decide_captures.ensures b sound c.has_no_fault.ensures closure is (chain_in scopes) are c.into_bindings.result.items).1
    (are_by_length b code closure c.in-Some.scope c.into_bindings.result.items c.store-store.ensures c.depth.ensures at
    (c.into_bindings.ensures
    ∙ (c.in_ok-read_all.ensures.found
    ∙ (ap (λ (xs : List ℕ). with_code code xs c.push.new.self.items) c.in_ok-found.ensures
    ∙ ap (with_code code []) one))))

pub returns-2-clause-no_closure : goal.returns-2-clause-no_closure
returns-2-clause-no_closure c =
    elim c.else-has_expr.branch [
      | else-has_expr-via-else-has_expr w ↦ search (rules, cases_lt, false≢true, slice_get_past)
      | else-has_expr-via-then-has_expr+in-Missing-1 w ↦ search rules
      | else-has_expr-via-then-has_expr+in-Closure+in-None-1 w ↦ search rules
    ]
