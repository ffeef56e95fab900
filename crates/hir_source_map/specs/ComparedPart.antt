-- Defines the compared part of source maps, which `==` compares: it is without the maps from sources to
-- nodes.
use Rattle.std.specs.Prelude.{◌&&◌}
use Rattle.hir_source_map.specs.Prelude.{List, Bool, Option, option_eq, option_map, pointwise, MacroCallId, same_maps, by_code}
use Rattle.std.specs.FinMap as map
use Rattle.hir_source_map.specs.declared.diagnostics.ExpressionStoreDiagnostics.{ExpressionStoreDiagnostics}
use Rattle.hir_source_map.specs.declared.sources.ExprSources.{ExprSources}
use Rattle.hir_source_map.specs.declared.source_map.ExpressionStoreSourceMap.{ExpressionStoreSourceMap}
use Rattle.hir_source_map.specs.Sources.{Source}

-- the compared part of an expression part: the sources of expressions, patterns and labels, the expansions,
-- the diagnostics
pub record ComparedExprs : Type 0 where
  pub exprs : map.FinMap by_code Source
  pub pats : map.FinMap by_code Source
  pub labels : map.FinMap by_code Source
  pub expansions : map.FinMap by_code MacroCallId
  pub diagnostics : List ExpressionStoreDiagnostics

-- the compared part of a source map: whether the expression part is kept and its compared part, and the
-- sources of types and lifetimes
pub record ComparedPart : Type 0 where
  pub kept : Option ComparedExprs
  pub types : map.FinMap by_code Source
  pub lifetimes : map.FinMap by_code Source

abbrev pub compared_exprs : ExprSources → ComparedExprs
compared_exprs p =
    record {
      exprs = p.expr_map_back;
      pats = p.pat_map_back;
      labels = p.label_map_back;
      expansions = p.expansions;
      diagnostics = p.diagnostics;
    }

-- the compared part of a source map
abbrev pub compared_part : ExpressionStoreSourceMap → ComparedPart
compared_part m =
    record {
      kept = option_map compared_exprs m.exprs;
      types = m.types.type_map_back;
      lifetimes = m.types.lifetime_map_back;
    }

-- the test whether compared parts are equal, by tests of sources, of expansions and of diagnostics
module _ (S : Source → Source → Bool) (C : MacroCallId → MacroCallId → Bool)
    (D : ExpressionStoreDiagnostics → ExpressionStoreDiagnostics → Bool) where
  abbrev pub same_exprs : ExprSources → ExprSources → Bool
  same_exprs p q =
      same_maps by_code S p.expr_map_back q.expr_map_back && same_maps by_code S p.pat_map_back q.pat_map_back
      && same_maps by_code S p.label_map_back q.label_map_back
      && same_maps by_code C p.expansions q.expansions && pointwise D p.diagnostics q.diagnostics

  abbrev pub same_compared : ExpressionStoreSourceMap → ExpressionStoreSourceMap → Bool
  same_compared x y =
      option_eq same_exprs x.exprs y.exprs && same_maps by_code S x.types.type_map_back y.types.type_map_back
      && same_maps by_code S x.types.lifetime_map_back y.types.lifetime_map_back
