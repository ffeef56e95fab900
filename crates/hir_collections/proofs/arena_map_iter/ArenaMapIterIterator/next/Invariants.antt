use Rattle.std.proofs.Common.{◌≡◌, ◌+◌, ◌^◌, ◌≤◌, length}
use Rattle.hir_collections.specs.Places.{entries_from}
use Rattle.hir_collections.proofs.arena_map_iter.ArenaMapIterIterator.next.Given as goal

-- only empty places were passed over
abbrev pub invariant-loop-place : goal.invariant-loop-place
invariant-loop-place g l =
    (l.self-inside.first + length l.self-inside.places.now ≤ 2 ^ 32)
    × (entries_from l.self-inside.first l.self-inside.places.now ≡ l.fn.self)

abbrev pub decreases-loop-place : goal.decreases-loop-place
decreases-loop-place g l = length l.self-inside.places.now
