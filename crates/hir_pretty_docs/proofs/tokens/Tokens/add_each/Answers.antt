use Rattle.hir_pretty_docs.proofs.Common.{refl, stood_after, left_begins, left_goes_on, left_ends, adds_more, each_step, each_ends}
use Rattle.hir_pretty_docs.proofs.tokens.Tokens.add_each.Goals as goal
use Rattle.std.proofs.Common.{rules}

pub loop-member-init : goal.loop-member-init
loop-member-init g c = left_begins (λ s. refl)

pub loop-member-preserved : goal.loop-member-preserved
loop-member-preserved g c =
    left_goes_on c.loop-member.invariant (adds_more c.add_to.ensures c.add.ensures)
    (λ s. each_step (λ x. stood_after s (g.T.Part.docs s x) c.args.trailer.now) c.args.members.now c.loop-member.member-index
    c.member-item.result c.loop-member-test.true c.member-item.is)

pub returns : goal.returns
returns g c = search (rules, left_ends, each_ends, stood_after)
