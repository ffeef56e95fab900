use Rattle.std.proofs.Common.{List, ◌++◌, ◌∷◌, [], ℕ, ap, ◌∙◌}
use Rattle.std.proofs.lemmas.List.{take_all, map_more}
use Rattle.hir_body.specs.declared.formals.Param.{Param}
use Rattle.hir_make.proofs.bodies.params.Goals as goal

pub loop-pat-init : goal.loop-pat-init
loop-pat-init c = c.in_ok-params.ensures.ok

pub loop-pat-preserved : goal.loop-pat-preserved
loop-pat-preserved c =
    let of_pat : ℕ → Param ℕ = (λ pat. record { formal = pat; user_written = pat }) in
    let more = map_more of_pat c.args.pats.now c.loop-pat.pat-index c.pat-item.result c.loop-pat-test.true in
    let one = ap (λ (params : List (Param ℕ)). params ++ of_pat c.pat-item.result ∷ []) c.loop-pat.invariant in
    rw (more, ← c.pat-item.is) (c.in_ok-push.ensures.ok ∙ one)

pub returns-clause-ok : goal.returns-clause-ok
returns-clause-ok c = rw (take_all c.loop-pat.pat-index c.args.pats.now c.loop-pat-test.false) at c.loop-pat.invariant
