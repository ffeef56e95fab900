use Rattle.std.proofs.Common.{None}
use Rattle.std.specs.FinMap as map
use Rattle.hir_store.specs.Building.{building_of, side_tables_of}
use Rattle.hir_store.proofs.BuildingLemmas.{with_side_tables}
use Rattle.hir_store.proofs.builder.ExpressionStoreBuilder.finish.Goals as goal

pub into_store-requires-clause-sound : goal.into_store-requires-clause-sound
into_store-requires-clause-sound c =
    let builder = c.args.self in
    rw c.in-Ok-take_owners.ensures.ok
    (with_side_tables (building_of builder) (record (side_tables_of builder) { owners = map.empty }) None c.in-Ok.ensures.ok.0)
