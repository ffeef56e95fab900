use Rattle.std.proofs.Common.{refl, sym, ◌∙◌, below_more}
use Rattle.std.proofs.lemmas.Bool.{false≢true}
use Rattle.hir_body.proofs.BodyLemmas.{read_at}
use Rattle.hir_body.proofs.formals.first_out_of_range.Goals as goal

pub returns-then-not-param_is_in_range : goal.returns-then-not-param_is_in_range
returns-then-not-param_is_in_range c =
    let i = c.loop-i.i in
    let p = c.index-params-i.result in
    let params = c.args.params.now in
    let formal = read_at (λ p. p.formal) params i p c.loop-i-test.true c.index-params-i.is in
    let written = read_at (λ p. p.user_written) params i p c.loop-i-test.true c.index-params-i.is in
    (i, c.loop-i-test.true, (refl, rw (formal, written) (λ b. false≢true (sym c.if-not-param_is_in_range.true ∙ c.param_is_in_range.ensures.1 b))), c.loop-i.invariant)

pub loop-i-preserved : goal.loop-i-preserved
loop-i-preserved c =
    let i = c.loop-i.i in
    let p = c.index-params-i.result in
    let params = c.args.params.now in
    let formal = read_at (λ p. p.formal) params i p c.loop-i-test.true c.index-params-i.is in
    let written = read_at (λ p. p.user_written) params i p c.loop-i-test.true c.index-params-i.is in
    below_more _ _ c.loop-i.invariant (rw (formal, written) (c.param_is_in_range.ensures.0 c.if-not-param_is_in_range.false))
