-- The kept parts of a store without nodes.
use Rattle.std.specs.Prelude.{[], None}
use Rattle.hir_store_core.specs.declared.kept_parts.KeptParts.{KeptParts}

abbrev pub nothing_kept : KeptParts
nothing_kept = record { parents = record { rows = 0; parents = []; shared = None }; links = [] }
