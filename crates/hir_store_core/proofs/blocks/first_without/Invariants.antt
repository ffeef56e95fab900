use Rattle.std.proofs.Common.{◌≡◌, drop}
use Rattle.hir_store_core.specs.Blocks.{first_without}
use Rattle.hir_store_core.proofs.blocks.first_without.Given as goal

-- the block is one of those to come
abbrev pub invariant-loop-block : goal.invariant-loop-block
invariant-loop-block g l = first_without l.maps l.blocks ≡ first_without l.maps (drop l.block-index l.blocks)
