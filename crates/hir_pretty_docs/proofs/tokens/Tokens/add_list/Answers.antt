use Rattle.hir_pretty_docs.proofs.Common.{refl, text, left_begins, left_goes_on, adds_then, following_step}
use Rattle.hir_pretty_docs.proofs.tokens.Tokens.add_list.Goals as goal

pub loop-member-init : goal.loop-member-init
loop-member-init g c = left_begins (λ s. refl)

pub loop-member-preserved : goal.loop-member-preserved
loop-member-preserved g c =
    left_goes_on c.loop-member.invariant (adds_then c.add_if.ensures c.add_to.ensures)
    (λ s. following_step (text c.args.between.now) (g.T.Part.docs s) c.loop-member.after c.args.members.now
    c.loop-member.member-index c.member-item.result c.loop-member-test.true c.member-item.is)
