use Rattle.hir_pretty_docs.proofs.Common.{◌≡◌, ◌++◌, arith, rules, refl, text, adds, adds_none, adds_then, adds_more, adds_as}
use Rattle.hir_pretty_docs.proofs.Common.{Adds, params, header, closure_head, capture_keyword, barred_header}
use Rattle.hir_pretty_docs.proofs.tokens.Tokens.add_closure.Goals as goal
use Rattle.hir_pretty_docs.proofs.tokens.Tokens.add_closure.Goals.{Joined-kind, in-Closure, in-Coroutine}

-- what is before the body
before_body : (c : Joined-kind) → Adds c.args.self.now.stack
    (λ s. text (closure_head c.args.kind) ++ text (capture_keyword c.args.capture)
    ++ header c.args.kind (params c.args.args.now c.args.arg_types.now) c.args.ret_type.now) c.match-kind.self.stack
before_body c =
    let keyword : c.match-capture.capture_keyword.now ≡ capture_keyword c.args.capture = search rules in
    let header_added : Adds c.add.new.self.stack (λ s. header c.args.kind (params c.args.args.now c.args.arg_types.now)
    c.args.ret_type.now) c.match-kind.self.stack = elim c.match-kind.branch [
      | in-Closure w ↦
          rw w.self-is (adds_as (adds_more (adds_then (adds_more (adds_then (adds w.add-in-Closure.ensures (λ s. refl))
          w.add_params.ensures) w.add-in-Closure-2.ensures) w.add_after.ensures) w.add-in-Closure-3.ensures)
          (λ s. barred_header c.args.kind (params c.args.args.now c.args.arg_types.now) c.args.ret_type.now (λ k source e. let h = w.in-Closure.is in grind arith)))
      | in-Coroutine w ↦ rw (w.self-is, w.in-Coroutine.is) (adds_none (λ s. refl))
    ] in
    adds_then (adds (rw (c.closure_head.ensures, keyword) at c.add.ensures) (λ s. refl)) header_added

pub returns-in-Closure-kind : goal.returns-in-Closure-kind
returns-in-Closure-kind c = adds_then (before_body (goal.at.returns-in-Closure-kind c).Joined-kind)
    (adds c.add-in-Closure-kind.ensures (λ s. let h = c.in-Closure-kind.is in grind arith))

pub returns-in-CoroutineClosure : goal.returns-in-CoroutineClosure
returns-in-CoroutineClosure c = adds_then (before_body (goal.at.returns-in-CoroutineClosure c).Joined-kind)
    (adds c.add-in-CoroutineClosure.ensures (λ s. rw c.in-CoroutineClosure.is))
