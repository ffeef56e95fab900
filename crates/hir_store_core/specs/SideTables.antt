-- The side tables of a store: who owns a binding, what hygiene a path has, which blocks may hold items.
use Rattle.hir_store_core.specs.Prelude.{[], Option, Some, None, Edition2015, SyntaxContext, ExprId, BindingId, ExprOrPatId, expr_or_pat_code, id_key}
use Rattle.std.specs.FinMap as map
use Rattle.hir_base.specs.declared.hygiene.SyntaxContext.TheVariants.{Root}
use Rattle.hir_store_core.specs.declared.side_tables.SideTables.{SideTables}

abbrev pub no_side_tables : SideTables
no_side_tables = record { owners = map.empty; hygiene = map.empty; blocks = [] }

-- the owner of a binding
abbrev pub owner_of : SideTables → BindingId → Option ExprId
owner_of side_tables binding = map.get side_tables.owners (id_key binding)

abbrev pub or_root : Option SyntaxContext → SyntaxContext
or_root None = Root Edition2015
or_root (Some context) = context

-- the hygiene of the path that an expression or a pattern is: that of source text where none was set
abbrev pub hygiene_of : SideTables → ExprOrPatId → SyntaxContext
hygiene_of side_tables id = or_root (map.get side_tables.hygiene (expr_or_pat_code id))
