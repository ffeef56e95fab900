use Rattle.std.proofs.Common.{◌≡◌, ◌+◌}
use Rattle.test_base.proofs.steps.count_items.Given as goal

-- a step for each item so far
abbrev pub invariant-loop-item : goal.invariant-loop-item
invariant-loop-item l = l.steps ≡ l.initial.steps + l._item-index
