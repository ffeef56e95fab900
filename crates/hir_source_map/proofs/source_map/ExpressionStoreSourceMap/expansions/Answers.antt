use Rattle.hir_source_map.proofs.NoEntries.{no_entries}
use Rattle.hir_source_map.proofs.source_map.ExpressionStoreSourceMap.expansions.Goals as goal

pub returns-in-None : goal.returns-in-None
returns-in-None c = rw (c.new-in-None.ensures, (c.exprs.ensures.none c.in-None.is).no_expansions) no_entries
