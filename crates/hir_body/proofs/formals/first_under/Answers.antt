use Rattle.std.proofs.Common.{refl, sym, ◌∙◌, below_more}
use Rattle.std.proofs.lemmas.Bool.{false≢true}
use Rattle.hir_body.proofs.BodyLemmas.{read_at}
use Rattle.hir_body.proofs.formals.first_under.Goals as goal

pub returns-then-has_pat : goal.returns-then-has_pat
returns-then-has_pat c =
    let read = read_at (λ p. p.formal) c.args.params.now c.loop-i.i c.index-params-i.result c.loop-i-test.true c.index-params-i.is in
    (c.loop-i.i, c.loop-i-test.true, (refl, rw read (λ no. no (c.has_pat.ensures.0 c.if-has_pat.true))), c.loop-i.invariant)

pub loop-i-preserved : goal.loop-i-preserved
loop-i-preserved c =
    let read = read_at (λ p. p.formal) c.args.params.now c.loop-i.i c.index-params-i.result c.loop-i-test.true c.index-params-i.is in
    below_more _ _ c.loop-i.invariant (rw read (λ m. false≢true (sym c.if-has_pat.false ∙ c.has_pat.ensures.1 m)))
