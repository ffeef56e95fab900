-- That `==` of source maps decides whether their compared parts are the same.
use Rattle.std.specs.Prelude.{◌≡◌}
use Rattle.std.specs.Bool.{Decides}
use Rattle.hir_collections.specs.Exact.{exact}
use Rattle.hir_source_map.specs.declared.source_map.ExpressionStoreSourceMap.{ExpressionStoreSourceMap}
use Rattle.hir_source_map.specs.contracts.source_map.ExpressionStoreSourceMapPartialEq.TheImpl as maps
use Rattle.hir_source_map.specs.ComparedPart.{compared_part}
use Rattle.hir_source_map.specs.same.SameComparedPart.{compared_decides}
use Rattle.hir_source_map.specs.same.SameDiagnostics.{diagnostics_decide}

pub maps_decide : (x y : ExpressionStoreSourceMap)
    → Decides (maps.ghosts.eq x y) (compared_part x ≡ compared_part y)
maps_decide = compared_decides (search exact) (search exact) diagnostics_decide
