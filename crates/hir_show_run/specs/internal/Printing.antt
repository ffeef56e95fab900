-- Beside Printing.antt: what only contracts within this crate cite.
use Rattle.hir_show_run.specs.Prelude.{List, ℕ, Option, None, named_code, Tables}
use Rattle.std.specs.FinMap as map
use Rattle.std.specs.Prelude.{unwrap_or}
use Rattle.hir_base.specs.declared.defs.NamedDef.TheVariants as named

-- the name that tables have of function 0, if they have one
abbrev pub name_of : Tables → Option (List ℕ)
name_of t = unwrap_or (map.get t.names (named_code (named.FunctionId 0))) None
