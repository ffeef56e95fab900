use Rattle.std.proofs.Common.{ℕ, ◌+◌, ◌-◌, ◌^◌, ◌<◌, ◌≤◌, length}
use Rattle.hir_store_core.specs.internal.RootSearch.{end_at}
use Rattle.hir_store_core.proofs.root_search.count_before.Given as goal

-- the end of each root before `low` is at most the id, and that of each from `high` on exceeds it; what is between needs no more digits than are left
abbrev pub invariant-loop-low : goal.invariant-loop-low
invariant-loop-low l = record {
  within : (l.low ≤ l.high) × (l.high ≤ length l.roots);
  before : (i : ℕ) → i < l.low → end_at l.kind l.roots i ≤ l.id;
  behind : (i : ℕ) → l.high ≤ i → i < length l.roots → l.id < end_at l.kind l.roots i;
  counted : l.fn.steps ≤ l.steps;
  steps : (k : ℕ) → length l.roots < 2 ^ k → (m : ℕ) × (l.high - l.low < 2 ^ m) × (l.steps + m ≤ l.fn.steps + k);
}

abbrev pub decreases-loop-low : goal.decreases-loop-low
decreases-loop-low l = l.high - l.low
