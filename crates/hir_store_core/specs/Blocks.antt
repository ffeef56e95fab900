-- The blocks of a store with the maps of their items.
use Rattle.hir_store_core.specs.Prelude.{List, Option, Some, None, Result, Ok, Err, is_none, find, option_map, nat_cmp, BTreeMap, get_by, BlockId}
use Rattle.std.specs.List.{filter_map}
use Rattle.hir_store_core.specs.declared.missing.Missing.{Missing}
use Rattle.hir_store_core.specs.declared.missing.Missing.TheVariants.{DefMap}

module _ {M : Type 0} (maps : BTreeMap BlockId M) where
  -- the map of a block
  abbrev pub map_of : BlockId → Option M
  map_of block = get_by (nat_cmp block) maps

  -- the first block that has no map
  abbrev pub first_without : List BlockId → Option BlockId
  first_without blocks = find (λ block. is_none (map_of block)) blocks

  -- each block that has a map, with the map
  abbrev pub with_maps : List BlockId → List (BlockId × M)
  with_maps blocks = filter_map (λ block. option_map (λ found. (block, found)) (map_of block)) blocks

  abbrev unless_missing : Option BlockId → List BlockId → Result (List (BlockId × M)) Missing
  unless_missing None blocks = Ok (with_maps blocks)
  unless_missing (Some block) blocks = Err (DefMap block)

  -- the blocks with their maps, or the first without a map
  abbrev pub blocks_with : List BlockId → Result (List (BlockId × M)) Missing
  blocks_with blocks = unless_missing (first_without blocks) blocks
