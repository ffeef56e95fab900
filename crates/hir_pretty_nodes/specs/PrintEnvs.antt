-- What is printed from: the nodes of a store, what the tables have, an edition's words, in lines or in one
-- line.
use Rattle.std.specs.Prelude.{ℕ, Bool, List}
use Rattle.hir_store_core.specs.Contents.{Contents}
use Rattle.hir_pretty_docs.specs.NameLookups.{NameLookups, PrintEnv}

abbrev pub print_env : Contents → NameLookups → List (List ℕ) → Bool → PrintEnv
print_env store tables words one_line = record {
  nodes = store.nodes;
  tables = tables;
  words = words;
  one_line = one_line;
}
