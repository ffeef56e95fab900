-- What a step of the printer's loop does to the tokens that wait, and to the value.
use Rattle.std.specs.Prelude.{◌≡◌, ◌<◌, ◌≤◌, Bool, true, false, List, [], ◌∷◌, ◌++◌, ℕ, Option, Some, None, IfSome, codes}
use Rattle.hir_collections.specs.Stacks.{StackItems, Defers}
use Rattle.hir_store_core.specs.{Contents.Contents, declared.missing.Missing.Missing}
use Rattle.hir_pretty_layout.specs.Layouts.{Layout}
use Rattle.hir_pretty_docs.specs.{declared.token.Token.Token, NameLookups.NameLookups, NameLookups.PrintEnv, Docs.Doc, Docs.text, Docs.when}
use Rattle.hir_pretty_docs.specs.Tokens.{stands_for, is_node, docs_of_tokens}
use Rattle.hir_pretty_nodes.specs.{PrintEnvs.print_env, DocPieces.DocPiece, DocPieces.Present, DocPieces.Absent, DocPieces.doc_list_pieces}
use Rattle.hir_pretty_nodes.specs.{Sizes.size, declared.printer.Printer.Printer, Printing.env_of}

-- What printing makes of a value: the value after the steps of the doc pieces before the first definition
-- that is missing, and that definition.
unfoldable pub printing : {W : Type 0} → (Layout → W → W) → W → List DocPiece → W × Option Missing
printing step value [] = (value, None)
printing step value (Present piece ∷ ps) = printing step (step piece value) ps
printing step value (Absent missing ∷ ps) = (value, Some missing)

-- a printer by the tokens that wait, the next on top
pub record Stacked (W : Type 0) : Type 0 where
  pub from : PrintEnv
  pub tokens : StackItems Token
  pub value : W

abbrev pub stacked : {W : Type 0} → Printer W → Stacked W
stacked p = record { from = env_of p; tokens = p.tokens.stack; value = p.writer }

-- what printing all that waits makes of the value
abbrev pub all_printed : {W : Type 0} → (Layout → W → W) → Stacked W → W × Option Missing
all_printed step p = printing step p.value (doc_list_pieces p.from (docs_of_tokens p.from p.tokens.items))

-- documents, in parentheses where they need them
abbrev pub enclose : Bool → List Doc → List Doc
enclose b is = when b (text (codes "(")) ++ is ++ when b (text (codes ")"))

-- tokens were added that stand for these documents
pub record AddsAt (s : PrintEnv) (old : StackItems Token) (docs : List Doc) (new : StackItems Token) : Type 0 where
  pub tokens : List Token
  pub defers : Defers old tokens new
  pub same : new.refused ≡ false → docs_of_tokens s tokens ≡ docs

abbrev pub AddsIn : Contents → StackItems Token → (PrintEnv → List Doc) → StackItems Token → Type 0
AddsIn store old docs new = (tables : NameLookups) (words : List (List ℕ)) (one_line : Bool)
    → let s = print_env store tables words one_line in AddsAt s old (docs s) new

-- Printing the first documents on the first value gives the same result as printing the second on the second,
-- whatever is printed after them.
pub record PrintsAlike {W : Type 0} (step : Layout → W → W) (s : PrintEnv) (first : W) (is : List Doc)
    (second : W) (js : List Doc) : Type 0 where
  pub alike : (more : List Doc) → printing step first (doc_list_pieces s (is ++ more))
      ≡ printing step second (doc_list_pieces s (js ++ more))

-- A token was written.
pub record WritesToken {W : Type 0} (step : Layout → W → W) (w : Token) (old new : Stacked W) : Type 0 where
  pub same : new ≡ record old { value = new.value }
  pub alike : PrintsAlike step old.from old.value (stands_for old.from w) new.value []

-- A node expanded to tokens that were added, whose size is smaller.
pub record ExpandsToken {W : Type 0} (step : Layout → W → W) (w : Token) (old new : Stacked W) : Type 0 where
  pub from : new.from ≡ old.from
  pub expansion : List Token
  pub defers : Defers old.tokens expansion new.tokens
  pub alike : new.tokens.refused ≡ false → PrintsAlike step old.from old.value (stands_for old.from w) new.value
      (docs_of_tokens old.from expansion)
  pub less : new.tokens.refused ≡ false → size old.from (docs_of_tokens old.from expansion) < size old.from (stands_for old.from w)

-- What waits came to the same as other tokens on another value, and no more.
pub record ComesTo {W : Type 0} (step : Layout → W → W) (old : Stacked W) (tokens : List Token)
    (new : Stacked W) : Type 0 where
  pub from : new.from ≡ old.from
  pub same : all_printed step old ≡ printing step new.value (doc_list_pieces old.from (docs_of_tokens old.from tokens))
  pub most : size old.from (docs_of_tokens old.from tokens)
      ≤ size old.from (docs_of_tokens old.from old.tokens.items)

-- a node that was found and what waits after it; without one, nothing
abbrev pub from_node : Option Token → List Token → List Token
from_node None waiting = []
from_node (Some w) waiting = w ∷ waiting

-- What waited up to the next node was written; without one, all was.
pub record NextNode {W : Type 0} (step : Layout → W → W) (old : Stacked W) (found : Option Token)
    (new : Stacked W) : Type 0 where
  pub comes : ComesTo step old (from_node found new.tokens.items) new
  pub node : IfSome found (λ w. is_node w ≡ true)
