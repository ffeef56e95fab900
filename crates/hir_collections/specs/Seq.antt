-- Defines how a write through a `&mut` to one item, or to all of them, changes a sequence.
use Rattle.std.specs.Prelude.{ℕ, List, length, slice_set}
use Rattle.std.specs.List.{refill}
use Rattle.std.specs.Borrow.{Lends, MutBor, Fml, RattleType, Array}
use Rattle.hir_collections.specs.contracts.seq.Seq.{the_row}

-- once the borrow ends, the item is the last value written through r, and nothing else in the sequence has
-- changed
abbrev pub lends_item : (T : RattleType) → MutBor (List T.Denot) → ℕ → MutBor T.Denot → Fml
lends_item T seq at r = Lends (the_row T) T seq r (slice_set seq.now at)

-- once the borrow ends, the items of the sequence are those of r at its end, as many as before
abbrev pub lends_slice : (T : RattleType) → MutBor (List T.Denot) → MutBor (List T.Denot) → Fml
lends_slice T seq r = Lends (the_row T) (Array T 0) seq r (refill (length seq.now) seq.now)
