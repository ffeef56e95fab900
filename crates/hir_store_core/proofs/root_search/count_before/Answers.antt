use Rattle.std.proofs.Common.{◌+◌, ◌-◌, ◌/◌, ◌<◌, ◌≤◌, length, arith}
use Rattle.hir_store_core.proofs.RootLemmas.{digits_left}
use Rattle.hir_store_core.proofs.root_search.count_before.Goals as goal

pub loop-low-preserved-then-id-read_end : goal.loop-low-preserved-then-id-read_end
loop-low-preserved-then-id-read_end c =
    let low = c.loop-low.low in
    let high = c.loop-low.high in
    let middle = low + (high - low) / 2 in
    let half : (middle - low) + (middle - low) ≤ high - low = omega arith in
    record {
      within = (omega arith, omega arith);
      before = c.loop-low.invariant.before;
      behind = λ i le lt. (let r = c.requires middle i le lt in omega (arith, r, c.read_end.ensures.end, c.if-id-read_end.true));
      counted = omega (arith, c.read_end.ensures.steps, c.loop-low.invariant.counted);
      steps = digits_left (length c.args.roots.now) (high - low) (middle - low) c.args.steps.now c.loop-low.steps c.read_end.new.steps (omega arith) half c.read_end.ensures.steps c.loop-low.invariant.steps;
    }

pub loop-low-preserved : goal.loop-low-preserved
loop-low-preserved c =
    let low = c.loop-low.low in
    let high = c.loop-low.high in
    let middle = low + (high - low) / 2 in
    let within : middle < high = omega arith in
    let half : (high - (middle + 1)) + (high - (middle + 1)) ≤ high - low = omega arith in
    record {
      within = (omega arith, omega arith);
      before = λ i lt. (let r = c.requires i middle (omega arith) (omega (arith, within, c.loop-low.invariant.within)) in omega (arith, r, c.read_end.ensures.end, c.if-id-read_end.false));
      behind = c.loop-low.invariant.behind;
      counted = omega (arith, c.read_end.ensures.steps, c.loop-low.invariant.counted);
      steps = digits_left (length c.args.roots.now) (high - low) (high - (middle + 1)) c.args.steps.now c.loop-low.steps c.read_end.new.steps (omega arith) half c.read_end.ensures.steps c.loop-low.invariant.steps;
    }
