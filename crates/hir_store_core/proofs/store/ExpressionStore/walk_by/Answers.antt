use Rattle.std.proofs.Common.{arith}
use Rattle.hir_validate.proofs.SoundLemmas.{sound_falls}
use Rattle.hir_store_core.specs.Contents.{rooted_of}
use Rattle.hir_store_core.specs.declared.pat_turns.Turn.TheVariants.{Enter, Leave}
use Rattle.hir_store_core.proofs.TryLemmas.{err_is}
use Rattle.hir_store_core.proofs.TurnWalk.{walk_begins, walk_in_range, walk_may, walk_refused, walk_next, walk_fewer, walk_ended}
use Rattle.hir_store_core.proofs.store.ExpressionStore.walk_by.Goals as goal

pub loop-coming-init : goal.loop-coming-init
loop-coming-init g c =
    let fall = sound_falls (rooted_of c.args.self.now) c.has_no_fault.ensures in
    walk_begins _ _ c.args.self.now.nodes c.args.top fall c.requires.may

pub on_enter-requires : goal.on_enter-requires
on_enter-requires g c = walk_may _ _ c.args.self.now.nodes c.args.top (Enter c.in-Enter.id) (rw (c.in-Some.is, c.in-Enter.is) at c.loop-coming.invariant)

pub on_leave-requires : goal.on_leave-requires
on_leave-requires g c = walk_may _ _ c.args.self.now.nodes c.args.top (Leave c.in-Leave.id) (rw (c.in-Some.is, c.in-Leave.is) at c.loop-coming.invariant)

pub turn_within-coming-requires : goal.turn_within-coming-requires
turn_within-coming-requires g c =
    let fall = sound_falls (rooted_of c.args.self.now) c.has_no_fault.ensures in
    walk_in_range _ _ c.args.self.now.nodes c.args.top (Enter c.in-Enter.id) (rw (c.in-Some.is, c.in-Enter.is) at c.loop-coming.invariant) fall c.requires.in_range

pub turn_behind-coming-requires : goal.turn_behind-coming-requires
turn_behind-coming-requires g c =
    let fall = sound_falls (rooted_of c.args.self.now) c.has_no_fault.ensures in
    let in_range = walk_in_range _ _ c.args.self.now.nodes c.args.top (Leave c.in-Leave.id) (rw (c.in-Some.is, c.in-Leave.is) at c.loop-coming.invariant) fall c.requires.in_range in
    let each = c.requires.links.each in
    omega arith

pub loop-coming-smaller-in_ok-on_enter-in-Enter : goal.loop-coming-smaller-in_ok-on_enter-in-Enter
loop-coming-smaller-in_ok-on_enter-in-Enter g c =
    let fall = sound_falls (rooted_of c.args.self.now) c.has_no_fault.ensures in
    rw (c.in-Some.is, c.in-Enter.is, c.turn_within-coming.ensures)
    (walk_fewer _ _ c.args.self.now.nodes c.args.top (Enter c.in-Enter.id) (rw (c.in-Some.is, c.in-Enter.is) at c.loop-coming.invariant) fall c.requires.in_range c.args.links.now c.requires.links)

pub loop-coming-preserved-in_ok-on_enter-in-Enter : goal.loop-coming-preserved-in_ok-on_enter-in-Enter
loop-coming-preserved-in_ok-on_enter-in-Enter g c =
    let fall = sound_falls (rooted_of c.args.self.now) c.has_no_fault.ensures in
    rw c.turn_within-coming.ensures
    (walk_next _ _ c.args.self.now.nodes c.args.top (Enter c.in-Enter.id) (rw (c.in-Some.is, c.in-Enter.is) at c.loop-coming.invariant) fall c.requires.in_range c.args.links.now c.requires.links (c.in_ok-on_enter-in-Enter.ensures))

pub loop-coming-smaller : goal.loop-coming-smaller
loop-coming-smaller g c =
    let fall = sound_falls (rooted_of c.args.self.now) c.has_no_fault.ensures in
    rw (c.in-Some.is, c.in-Leave.is, c.turn_behind-coming.ensures)
    (walk_fewer _ _ c.args.self.now.nodes c.args.top (Leave c.in-Leave.id) (rw (c.in-Some.is, c.in-Leave.is) at c.loop-coming.invariant) fall c.requires.in_range c.args.links.now c.requires.links)

pub loop-coming-preserved : goal.loop-coming-preserved
loop-coming-preserved g c =
    let fall = sound_falls (rooted_of c.args.self.now) c.has_no_fault.ensures in
    rw c.turn_behind-coming.ensures
    (walk_next _ _ c.args.self.now.nodes c.args.top (Leave c.in-Leave.id) (rw (c.in-Some.is, c.in-Leave.is) at c.loop-coming.invariant) fall c.requires.in_range c.args.links.now c.requires.links (c.in_ok-on_leave-in-Leave.ensures))

pub returns-in_err-on_enter-in-Enter : goal.returns-in_err-on_enter-in-Enter
returns-in_err-on_enter-in-Enter g c =
    rw (err_is c.from_residual.result c.in_err-on_enter-in-Enter.field-0.0 c.from_residual.ensures.1)
    (walk_refused _ _ c.args.self.now.nodes c.args.top (Enter c.in-Enter.id) (rw (c.in-Some.is, c.in-Enter.is) at c.loop-coming.invariant) (c.in_err-on_enter-in-Enter.ensures))

pub returns-in_err-on_leave-in-Leave : goal.returns-in_err-on_leave-in-Leave
returns-in_err-on_leave-in-Leave g c =
    rw (err_is c.from_residual-in_err-on_leave-in-Leave.result c.in_err-on_leave-in-Leave.field-0.0 c.from_residual-in_err-on_leave-in-Leave.ensures.1)
    (walk_refused _ _ c.args.self.now.nodes c.args.top (Leave c.in-Leave.id) (rw (c.in-Some.is, c.in-Leave.is) at c.loop-coming.invariant) (c.in_err-on_leave-in-Leave.ensures))

pub returns : goal.returns
returns g c = walk_ended _ _ c.args.self.now.nodes c.args.top (rw c.in_default.is at c.loop-coming.invariant)
