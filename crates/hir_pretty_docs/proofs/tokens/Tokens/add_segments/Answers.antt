use Rattle.hir_pretty_docs.proofs.Common.{◌-◌, refl, length, take, drop, adds_then, adds_more, left_begins, left_goes_on, parts, segment_alone, segment_with}
use Rattle.hir_pretty_docs.proofs.tokens.Tokens.add_segments.Goals as goal

pub loop-name-init : goal.loop-name-init
loop-name-init c = left_begins (λ s. refl)

pub loop-name-preserved-in_default : goal.loop-name-preserved-in_default
loop-name-preserved-in_default c =
    left_goes_on c.loop-name.invariant (adds_more c.add_if.ensures (rw c.as_str.ensures at c.add.ensures))
    (λ s. segment_alone s c.loop-name.after c.args.names.now c.loop-name.name-index c.name-item.result c.loop-name.lists.now
    c.loop-name-test.true c.name-item.is c.in_default.len_below)

pub loop-name-preserved : goal.loop-name-preserved
loop-name-preserved c =
    let lists = c.loop-name.lists.now in
    left_goes_on c.loop-name.invariant (adds_then (adds_more c.add_if.ensures (rw c.as_str.ensures at c.add.ensures))
    (rw c.as_ref.ensures.value at c.add_turbofish.ensures))
    (λ s. segment_with s c.loop-name.after c.args.names.now c.loop-name.name-index c.name-item.result lists
    (take (length lists - 1) (drop 1 lists)) c.args-item.result c.loop-name-test.true c.name-item.is
    (parts lists c.args-item.result c.in-len1-up.len_at_least c.args-item.is))
