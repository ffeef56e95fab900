-- What `print` writes: the body as that of function 0.
use Rattle.std.specs.Prelude.{◌++◌}
use Rattle.hir_show_run.specs.Prelude.{ℕ, false, List, [], Option, codes, named_code, Tables, no_tables, BodyContents, lookups_of, DocPiece, text_of, PrintEnv, print_env, doc_list_pieces, body_docs, parents}
use Rattle.std.specs.FinMap as map
use Rattle.hir_base.specs.declared.defs.DefWithBodyId.TheVariants as body
use Rattle.hir_base.specs.declared.defs.NamedDef.TheVariants as named

-- the tables have the name of function 0, or that it has none, and nothing else
abbrev pub tables_of : Option (List ℕ) → Tables
tables_of name = record no_tables { names = map.insert map.empty (named_code (named.FunctionId 0)) name }

-- the body's store, these tables, no raw words, and lines
abbrev pub printed_from : Option (List ℕ) → BodyContents → PrintEnv
printed_from name b = print_env b.store (lookups_of (tables_of name)) [] false

abbrev pub body_pieces : Option (List ℕ) → BodyContents → List DocPiece
body_pieces name b =
    doc_list_pieces (printed_from name b) (body_docs (printed_from name b) (parents (tables_of name))
    (body.FunctionId 0) b)

-- the text of the body
unfoldable pub body_text : Option (List ℕ) → BodyContents → List ℕ
body_text name b = text_of (printed_from name b) (body_pieces name b)

-- what `print` writes: the text of the body and a line end
abbrev pub print_text : Option (List ℕ) → BodyContents → List ℕ
print_text name b = body_text name b ++ codes "\n"
