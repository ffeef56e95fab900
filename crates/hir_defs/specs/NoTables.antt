-- Tables without an entry.
use Rattle.std.specs.FinMap as map
use Rattle.hir_base.specs.RawWords.{no_words}
use Rattle.hir_defs.specs.declared.tables.TablesOf.{TablesOf}

-- the model of tables without an entry, of any types
abbrev pub no_tables : {F S P V B M N : Type 0} → TablesOf F S P V B M N
no_tables = record {
  names = map.empty;
  variant_parents = map.empty;
  functions = map.empty;
  structs = map.empty;
  plains = map.empty;
  fields = map.empty;
  bodies = map.empty;
  crate_names = map.empty;
  reprs = map.empty;
  words = no_words;
  no_generics = tt;
}
