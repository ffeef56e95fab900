-- The nodes in which the path of one use has a new name.
use Rattle.hir_usages.specs.Prelude.{Name, Nodes}
use Rattle.hir_usages.specs.declared.usage.Usage.{Usage}
use Rattle.hir_usages.specs.Renamed.{rename_path}

abbrev pub rename_use : Name → Nodes → Usage → Nodes
rename_use name s usage = rename_path name s usage.path
