use Rattle.std.proofs.Common.{◌≡◌, ◌+◌, ◌≤◌, ◌++◌, replicate, vec_len}
use Rattle.std.specs.Prelude.{None, vec_capacity}
use Rattle.hir_collections.proofs.arena_map.put_past_the_end.Given as goal

-- so many empty places were added, and there is room for the others and the value
abbrev pub invariant-loop : goal.invariant-loop
invariant-loop g l = record {
  added : l.places.items ≡ l.initial.places.items ++ replicate l.counter None;
  len : vec_len l.places ≡ vec_len l.initial.places + l.counter;
  room : vec_len l.initial.places + l.missing + 1 ≤ vec_capacity l.places;
}
