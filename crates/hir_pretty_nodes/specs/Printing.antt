-- The model of a printer.
use Rattle.std.specs.Prelude.{◌≡◌, Bool, false, List, [], ◌++◌, reverse}
use Rattle.hir_pretty_layout.specs.Page.{Page, empty_page}
use Rattle.hir_pretty_docs.specs.{NameLookups.PrintEnv, Docs.Doc, Tokens.docs_of_tokens}
use Rattle.hir_pretty_nodes.specs.{declared.printer.Printer.Printer, PrintEnvs.print_env, TableLookups.lookups_of, DocPieces.format_of}

-- What is printed from; the documents that were added, in order; whether an allocation for one failed, so
-- that they say nothing; and the value of what is written to.
pub record Printing (W : Type 0) : Type 0 where
  pub from : PrintEnv
  pub added : List Doc
  pub refused : Bool
  pub value : W

-- what a printer prints from
abbrev pub env_of : {W : Type 0} → Printer W → PrintEnv
env_of p = print_env p.store.now (lookups_of p.tables.now) p.words.now p.one_line

-- tokens wait on a stack, the first that was added lowest
abbrev pub printing_of : {W : Type 0} → Printer W → Printing W
printing_of p = record {
  from = env_of p;
  added = docs_of_tokens (env_of p) (reverse p.tokens.stack.items);
  refused = p.tokens.stack.refused;
  value = p.writer;
}

-- a printer to which nothing was added, with this value, and on an empty page
abbrev pub begun : {W : Type 0} → PrintEnv → W → Printing W
begun s value = record { from = s; added = []; refused = false; value = value }

abbrev pub on_page : PrintEnv → Printing Page
on_page s = begun s (empty_page (format_of s.one_line))

-- these documents were added to a printer
pub record AddsTo {W : Type 0} (old : Printing W) (docs : PrintEnv → List Doc) (new : Printing W) : Type 0 where
  pub same : new ≡ record old { added = old.added ++ docs old.from; refused = false }
