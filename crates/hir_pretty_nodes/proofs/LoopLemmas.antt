-- Steps of the printer's loop, and what is printed of all that was added.
use Rattle.std.proofs.Common.{◌≡◌, ℕ, ◌<◌, ◌≤◌, Bool, true, false, List, [], ◌∷◌, ◌++◌, map, length, Option, Some, None, refl}
use Rattle.std.proofs.Common.{sym, ap, ap₂, subst, ◌∙◌, arith, append_assoc, append-nil, Result, Ok, Err, IsTrue, String}
use Rattle.std.proofs.Common.{slice_get, rules}
use Rattle.std.proofs.lemmas.{Bool.cases_lt, List.reverse-append, List.reverse-reverse, Option.slice_get_past}
use Rattle.std.specs.Prelude.{reverse}
use Rattle.hir_collections.specs.Stacks.{StackItems, Defers}
use Rattle.hir_collections.proofs.DeferredLemmas.{defers_none, defers_two}
use Rattle.hir_base.specs.declared.prec.ExprPrecedence.{ExprPrecedence}
use Rattle.hir_node.specs.declared.node_id.NodeId.TheVariants as node
use Rattle.hir_pretty_layout.specs.{Page.Page, Page.empty_page, Layouts.Layout, Steps.steps}
use Rattle.hir_pretty_docs.proofs.AddLemmas.{meant-append, is_false}
use Rattle.hir_pretty_docs.specs.declared.token.Token.{Token}
use Rattle.hir_pretty_docs.specs.declared.token.Token.TheVariants as token
use Rattle.hir_pretty_nodes.specs.Prelude.{NodeId, Missing, PrintEnv, Doc, MissingDoc, ExprDoc, ExprIn, DocPiece, Present}
use Rattle.hir_pretty_nodes.specs.Prelude.{PrintsPieces, WritesPieces, opt, format_of, docs_of, pieces, doc_list_pieces}
use Rattle.hir_pretty_nodes.specs.Prelude.{stands_in_parentheses, precedence_found, DocsDecrease, size, stands_for}
use Rattle.hir_pretty_nodes.specs.Prelude.{docs_of_tokens, above, Adds, Printing, env_of, printing_of, on_page, AddsTo, printing}
use Rattle.hir_pretty_nodes.specs.Prelude.{Stacked, all_printed, enclose, AddsAt, PrintsAlike, WritesToken, ExpandsToken, ComesTo}
use Rattle.hir_pretty_nodes.specs.declared.{printer.Printer.Printer, fault.PrintFault.PrintFault}
use Rattle.hir_pretty_nodes.specs.declared.fault.PrintFault.TheVariants as fault
use Rattle.hir_pretty_nodes.proofs.PieceLemmas.{printed-append, enclosed_printed, pieces_alike, missing_is, value_of_pieces, nothing_left, is_missing}
use Rattle.hir_pretty_nodes.proofs.{StepLemmas.pieces_at, SizeLemmas.size-append, SizeLemmas.node_size_at, SizeLemmas.enclosed_size}

-- what is out of range isn't found
pub not_there : {X : Type 0} (xs : List X) (id : ℕ) (b : Bool) → (IsTrue b → id < length xs) × (id < length xs → IsTrue b) → b ≡ false → slice_get xs id ≡ None
not_there xs id b k e = search (rules, cases_lt, slice_get_past)

-- 1. Tokens that were added for one store

pub adds_at : {old new : StackItems Token} {docs : PrintEnv → List Doc} → Adds old docs new → (s : PrintEnv) → AddsAt s old (docs s) new
adds_at {old} {new} a s = record { tokens = above old new; defers = a.defers; same = λ h. a.same h s }

pub at_none : {s : PrintEnv} {old : StackItems Token} → AddsAt s old [] old
at_none {old = old} = record { tokens = []; defers = defers_none old; same = λ h. refl }

pub at_as : {s : PrintEnv} {old new : StackItems Token} {is js : List Doc} → is ≡ js → AddsAt s old is new → AddsAt s old js new
at_as e a = record { tokens = a.tokens; defers = a.defers; same = λ h. a.same h ∙ e }

pub at_then : {s : PrintEnv} {old between new : StackItems Token} {is js : List Doc} → AddsAt s old is between → AddsAt s between js new → AddsAt s old (is ++ js) new
at_then {s} {old} {between} {new} {is} {js} a b =
    search (rules, arith, defers_two old between new a.tokens b.tokens a.defers b.defers, meant-append s a.tokens b.tokens)

-- of a node that is found, and of one that isn't
pub at_found : {X : Type 0} {s : PrintEnv} {old new : StackItems Token} (docs : PrintEnv → X → List Doc) (found : Option X) (x : X) → found ≡ Some x
    → Adds old (λ t. docs t x) new → AddsAt s old (opt (docs s) found) new
at_found {s = s} {old} {new} docs found x e a = search rules

pub at_absent : {X : Type 0} {s : PrintEnv} {old : StackItems Token} (docs : X → List Doc) (found : Option X) → found ≡ None → AddsAt s old (opt docs found) old
at_absent docs found e = at_as (sym (ap (opt docs) e)) at_none

module _ {W : Type 0} {step : Layout → W → W} where
  -- 2. A token that was written

  pub written : {w : Token} {old new : Stacked W} (ps : List Layout) → new ≡ record old { value = new.value }
      → doc_list_pieces old.from (stands_for old.from w) ≡ map Present ps
      → new.value ≡ steps step ps old.value → WritesToken step w old new
  written ps same e f = record { same = same; alike = pieces_alike ps e f }

  -- 3. A node that expanded

  pub expands_by : {w : Token} {old new : Stacked W} {is : List Doc} → new ≡ record old { tokens = new.tokens } → AddsAt old.from old.tokens is new.tokens
      → ((more : List Doc) → doc_list_pieces old.from (stands_for old.from w ++ more) ≡ doc_list_pieces old.from (is ++ more))
      → size old.from is < size old.from (stands_for old.from w) → ExpandsToken step w old new
  expands_by {w} {old} {new} {is} same a e h = search rules

  -- of which the first layouts were written
  pub written_then : {w : Token} {old new : Stacked W} {is : List Doc} (first : List Doc) (ps : List Layout) → doc_list_pieces old.from first ≡ map Present ps
      → new.value ≡ steps step ps old.value → new.from ≡ old.from → AddsAt old.from old.tokens is new.tokens
      → stands_for old.from w ≡ first ++ is → 0 < size old.from first → ExpandsToken step w old new
  written_then {w} {old} {new} {is} first ps e f from a means some =
      let s = old.from in
      let first_alike : PrintsAlike step s old.value first new.value [] = pieces_alike ps e f in
      record {
        from = from;
        expansion = a.tokens;
        defers = a.defers;
        alike = λ r. record {
          alike = λ more. ap (λ xs. printing step old.value (doc_list_pieces s (xs ++ more))) means
              ∙ ap (λ xs. printing step old.value (doc_list_pieces s xs)) (append_assoc first is more)
              ∙ first_alike.alike (is ++ more)
              ∙ ap (λ xs. printing step new.value (doc_list_pieces s (xs ++ more))) (sym (a.same r));
        };
        less = λ r. let k = ap (size s) (a.same r) in let m = ap (size s) means in let n = size-append s first is in omega arith;
      }

node_printed : (s : PrintEnv) → DocsDecrease s → (n : NodeId) (more : List Doc) → pieces s n ++ doc_list_pieces s more ≡ doc_list_pieces s (docs_of s n ++ more)
node_printed s fall n more = ap (λ ps. ps ++ doc_list_pieces s more) (pieces_at s fall n) ∙ sym (printed-append s (docs_of s n) more)

module _ {W : Type 0} {step : Layout → W → W} {old new : Stacked W} (fall : DocsDecrease old.from) (same : new ≡ record old { tokens = new.tokens }) where
  pub expr_gives : {w : Token} (id : ℕ) → stands_for old.from w ≡ ExprDoc id ∷ []
      → AddsAt old.from old.tokens (docs_of old.from (node.Expr id)) new.tokens → ExpandsToken step w old new
  expr_gives {w} id e a =
      let s = old.from in
      expands_by same a (λ more. ap (λ is. doc_list_pieces s (is ++ more)) e ∙ node_printed s fall (node.Expr id) more)
      (let k = node_size_at s fall (node.Expr id) in let m = ap (size s) e in omega arith)

  -- the first of expressions, with what is after it
  pub first_gives : {w : Token} (id : ℕ) (trailer : List Doc) → stands_for old.from w ≡ ExprDoc id ∷ trailer
      → AddsAt old.from old.tokens (docs_of old.from (node.Expr id) ++ trailer) new.tokens → ExpandsToken step w old new
  first_gives {w} id trailer e a =
      let s = old.from in
      expands_by same a
      (λ more. ap (λ is. doc_list_pieces s (is ++ more)) e ∙ node_printed s fall (node.Expr id) (trailer ++ more)
      ∙ ap (doc_list_pieces s) (sym (append_assoc (docs_of s (node.Expr id)) trailer more)))
      (let k = node_size_at s fall (node.Expr id) in let m = ap (size s) e in let l = size-append s (docs_of s (node.Expr id)) trailer in omega arith)

  pub pattern_gives : (id : ℕ) → AddsAt old.from old.tokens (docs_of old.from (node.Pat id)) new.tokens → ExpandsToken step (token.Pattern id) old new
  pattern_gives id a = expands_by same a (node_printed old.from fall (node.Pat id)) (let k = node_size_at old.from fall (node.Pat id) in omega arith)

  pub type_gives : (id : ℕ) → AddsAt old.from old.tokens (docs_of old.from (node.TypeRef id)) new.tokens → ExpandsToken step (token.Type id) old new
  type_gives id a = expands_by same a (node_printed old.from fall (node.TypeRef id)) (let k = node_size_at old.from fall (node.TypeRef id) in omega arith)

  pub under_gives : (id : ℕ) (parent : ExprPrecedence)
      → AddsAt old.from old.tokens (enclose (stands_in_parentheses (precedence_found (slice_get old.from.nodes.exprs id)) parent)
      (docs_of old.from (node.Expr id))) new.tokens
      → ExpandsToken step (token.ExprIn id parent) old new
  under_gives id parent a =
      let s = old.from in
      let b = stands_in_parentheses (precedence_found (slice_get s.nodes.exprs id)) parent in
      expands_by same a
      (λ more. printed-append s (ExprIn id parent ∷ []) more ∙ ap (λ ps. ps ++ doc_list_pieces s more)
      (sym (enclosed_printed s fall b id)) ∙ sym (printed-append s (enclose b (docs_of s (node.Expr id))) more))
      (let k = node_size_at s fall (node.Expr id) in let m = enclosed_size s b (docs_of s (node.Expr id)) in omega arith)

module _ {W : Type 0} {step : Layout → W → W} where
  -- 4. What waits comes to the same

  -- these tokens are left once the next was taken from the stack
  pub comes_taken : {old now taken : Stacked W} {left : List Token} → ComesTo step old now.tokens.items now
      → now.tokens.items ≡ left → taken.from ≡ now.from → taken.value ≡ now.value
      → ComesTo step old left taken
  comes_taken {old} {now} {taken} {left} c next from value = search rules

  -- and it was written
  pub comes_written : {old taken new : Stacked W} {w : Token} → ComesTo step old (w ∷ taken.tokens.items) taken
      → WritesToken step w taken new → ComesTo step old new.tokens.items new
  comes_written {old} {taken} {new} {w} c a =
      let s = old.from in
      let tokens : new.tokens.items ≡ taken.tokens.items = ap (λ (p : Stacked W). p.tokens.items) a.same in
      let alike : PrintsAlike step s taken.value (stands_for s w) new.value [] =
      subst (λ t. PrintsAlike step t taken.value (stands_for t w) new.value []) c.from a.alike in
      record {
        from = ap (λ (p : Stacked W). p.from) a.same ∙ c.from;
        same = c.same ∙ alike.alike (docs_of_tokens s taken.tokens.items) ∙ ap (λ ws. printing step new.value (doc_list_pieces s (docs_of_tokens s ws))) (sym tokens);
        most = let h = c.most in let k = size-append s (stands_for s w)
            (docs_of_tokens s taken.tokens.items) in let m = ap (λ ws. size s (docs_of_tokens s ws)) tokens in omega arith;
      }

  -- or it is missing
  pub comes_missing : {old taken : Stacked W} {w : Token} {m : Missing} → ComesTo step old (w ∷ taken.tokens.items) taken → stands_for taken.from w ≡ MissingDoc m ∷ []
      → (all_printed step old).1 ≡ Some m
  comes_missing {old} {taken} {w} {m} c lacks = search (rules, is_missing)

-- 5. All that waits

-- a stack was turned over from this height
abbrev pub TurnsOver : ℕ → StackItems Token → StackItems Token → Type 0
TurnsOver below old new = (before : StackItems Token) (items : List Token) → length before.items ≡ below
    → Defers before items old → new ≡ record { items = items ++ before.items; refused = false }

turned_items : (old : StackItems Token) {new : StackItems Token} → TurnsOver 0 old new → new.items ≡ reverse old.items
turned_items old turn =
    let all = reverse old.items in
    let pushed : Defers (record { items = []; refused = false }) all old
    = λ h. (refl, sym (append-nil (reverse all) ∙ reverse-reverse old.items)) in
    ap (λ (v : StackItems Token). v.items) (turn (record { items = []; refused = false }) all refl pushed) ∙ append-nil all

-- what was added was turned over
module _ {W : Type 0} (step : Layout → W → W) (s : PrintEnv) (value : W) (old : StackItems Token) {new : StackItems Token}
    (turn : TurnsOver 0 old new) where
  pub turned_over : printing step value (doc_list_pieces s (docs_of_tokens s (reverse old.items)))
      ≡ printing step value (doc_list_pieces s (docs_of_tokens s new.items))
  turned_over = ap (λ ws. printing step value (doc_list_pieces s (docs_of_tokens s ws))) (sym (turned_items old turn))

-- a stack that refused isn't turned over
turned_whole : (before old : StackItems Token) {new : StackItems Token} → TurnsOver (length before.items) old new → old.refused ≡ false
turned_whole before old {new} turn = is_false old.refused (λ e.
    let none : new ≡ record { items = before.items; refused = false } = turn before [] refl (λ f. absurd (cc)) in
    let some : new ≡ record { items = token.Space ∷ before.items; refused = false }
    = turn before (token.Space ∷ []) refl (λ f. absurd (cc)) in
    let long = ap (λ (v : StackItems Token). length v.items) (sym none ∙ some) in absurd (omega arith))

pub never_turned : (old : StackItems Token) {new : StackItems Token} → old.refused ≡ true → TurnsOver 0 old new → ⊥
never_turned old refused turn = search (rules, arith, (turned_whole (record { items = []; refused = false }) old turn))

-- what is printed of the tokens on the stack comes to this
pub record Comes {W : Type 0} (step : Layout → W → W) (s : PrintEnv) (whole : W × Option Missing) (now : Stacked W) : Type 0 where
  pub from : now.from ≡ s
  pub same : whole ≡ printing step now.value (doc_list_pieces s (docs_of_tokens s now.tokens.items))

module _ {W : Type 0} {step : Layout → W → W} {s : PrintEnv} {whole : W × Option Missing} where
  -- a node and what it expanded to, which was turned over
  module _ {now taken between : Stacked W} {stack : StackItems Token} {w : Token} (c : Comes step s whole now)
      (next : ComesTo step now (w ∷ taken.tokens.items) taken) (a : ExpandsToken step w taken between)
      (turn : TurnsOver (length taken.tokens.items) between.tokens stack) where
    at : taken.from ≡ s
    at = next.from ∙ c.from

    docs_now : docs_of_tokens s stack.items ≡ docs_of_tokens s a.expansion ++ docs_of_tokens s taken.tokens.items
    docs_now = search (rules, arith, meant-append s a.expansion taken.tokens.items)

    pub comes_expanded : Comes step s whole (record between { tokens = stack })
    comes_expanded = search (rules, at, turned_whole, docs_now)

    pub less_expanded : size s (docs_of_tokens s stack.items) < size s (docs_of_tokens s now.tokens.items)
    less_expanded =
        let most : size s (docs_of_tokens s (w ∷ taken.tokens.items)) ≤ size s (docs_of_tokens s now.tokens.items)
        = subst (λ t. size t (docs_of_tokens t (w ∷ taken.tokens.items)) ≤ size t (docs_of_tokens t now.tokens.items)) c.from next.most in
        let less : size s (docs_of_tokens s a.expansion) < size s (stands_for s w)
        = subst (λ t. size t (docs_of_tokens t a.expansion) < size t (stands_for t w)) at (a.less (turned_whole taken.tokens between.tokens turn)) in
        let k = size-append s (stands_for s w) (docs_of_tokens s taken.tokens.items) in
        let m = ap (size s) docs_now in
        let n = size-append s (docs_of_tokens s a.expansion) (docs_of_tokens s taken.tokens.items) in omega arith

  -- what is missing among what waits
  pub comes_missed : {now : Stacked W} {m : Missing} → Comes step s whole now → (all_printed step now).1 ≡ Some m → whole.1 ≡ Some m
  comes_missed {now} {m} c missing = search rules

  -- nothing waits
  pub comes_over : {now last : Stacked W} → Comes step s whole now → ComesTo step now [] last → whole ≡ (last.value, None)
  comes_over {now} {last} c next = search (rules, nothing_left)

-- 6. What is printed of all that was added

module _ {W : Type 0} {step : Layout → W → W} {value : W} {ps : List DocPiece} where
  pub writes_all : (exit : W) → printing step value ps ≡ (exit, None) → WritesPieces step ps value (Ok exit)
  writes_all exit whole = search (rules, missing_is, value_of_pieces)

  pub writes_fault : (found : PrintFault) → ((m : Missing) → found ≡ fault.Missing m → (printing step value ps).1 ≡ Some m) → WritesPieces step ps value (Err found)
  writes_fault found h = record { exit = tt; missing = λ m e. sym (missing_is step value ps) ∙ h m (cc) }

-- that an allocation failed
pub prints_refused : {Z : Type 0} {s : PrintEnv} {ps : List DocPiece} → PrintsPieces {A = Z} s ps (Err fault.Memory)
prints_refused = record { text = tt; missing = λ n e. absurd (cc) }

-- 7. What a call prints that begins a printer and adds to it

by_case : {X : Type 0} (b : Bool) → (b ≡ true → X) → (b ≡ false → X) → X
by_case true f g = f refl
by_case false f g = g refl

-- what was added is these documents, unless an allocation failed
prints_docs : {Z : Type 0} {s : PrintEnv} {docs : List Doc} {result : Result (String Z) PrintFault} (p : Printing Page)
    → p.from ≡ s → p.value ≡ empty_page (format_of s.one_line)
    → (p.refused ≡ false → p.added ≡ docs) → (p.value ≡ empty_page (format_of p.from.one_line) → PrintsPieces p.from (doc_list_pieces p.from p.added) result)
    → (p.refused ≡ true → result ≡ Err fault.Memory) → PrintsPieces s (doc_list_pieces s docs) result
prints_docs {s = s} {docs} {result} p from value whole pieces memory = search (rules, by_case, prints_refused)

-- the tokens on a stack, after others
stack_more : {old new : StackItems Token} {docs : PrintEnv → List Doc} → Adds old docs new → new.refused ≡ false → (s : PrintEnv)
    → docs_of_tokens s (reverse new.items) ≡ docs_of_tokens s (reverse old.items) ++ docs s
stack_more {old} {new} a h s =
    ap (λ ws. docs_of_tokens s (reverse ws)) (a.defers h).1 ∙ ap (docs_of_tokens s)
    (reverse-append (reverse (above old new)) old.items ∙ ap (λ ws. reverse old.items ++ ws) (reverse-reverse (above old new)))
    ∙ meant-append s (reverse old.items) (above old new) ∙ ap (λ is. docs_of_tokens s (reverse old.items) ++ is) (a.same h s)

pub added_to : {W : Type 0} (old : Printer W) {new : Printer W} {between : StackItems Token} {docs : PrintEnv → List Doc} → Adds old.tokens.stack docs between
    → (between.refused ≡ false) × (new.tokens.stack ≡ between) → new ≡ record old { tokens = new.tokens } → AddsTo (printing_of old) docs (printing_of new)
added_to old {new} {between} {docs} a h same =
    let s = env_of old in
    let stack : new.tokens.stack ≡ between = h.1 in
    let is : docs_of_tokens s (reverse new.tokens.stack.items) ≡ (printing_of old).added ++ docs s
    = ap (λ (v : StackItems Token). docs_of_tokens s (reverse v.items)) stack ∙ stack_more a h.0 s in
    let whole : new.tokens.stack.refused ≡ false = ap (λ (v : StackItems Token). v.refused) stack ∙ h.0 in
    record { same = ap printing_of same ∙ ap₂ (λ ds b. record (printing_of old) { added = ds; refused = b }) is whole }

pub prints : {Z : Type 0} {s : PrintEnv} (first : Printer Page) {added : Printer Page} {docs : PrintEnv
    → List Doc} {result : Result (String Z) PrintFault} → printing_of first ≡ on_page s
    → added ≡ record first { tokens = added.tokens } → Adds first.tokens.stack docs added.tokens.stack
    → ((printing_of added).value ≡ empty_page (format_of (env_of added).one_line)
    → PrintsPieces (env_of added) (doc_list_pieces (env_of added) (printing_of added).added) result)
    → ((printing_of added).refused ≡ true → result ≡ Err fault.Memory) → PrintsPieces s (doc_list_pieces s (docs s)) result
prints {s = s} first {added} {docs} b same a pieces memory =
    let first_from : env_of first ≡ s = ap (λ (p : Printing Page). p.from) b in
    let from : env_of added ≡ env_of first = ap env_of same in
    let none : docs_of_tokens (env_of first) (reverse first.tokens.stack.items) ≡ [] = ap (λ (p : Printing Page). p.added) b in
    prints_docs (printing_of added) (from ∙ first_from) (ap (λ (p : Printer Page). p.writer) same ∙ ap (λ (p : Printing Page). p.value) b)
    (λ h. ap (λ t. docs_of_tokens t (reverse added.tokens.stack.items)) from ∙ stack_more a h (env_of first)
    ∙ ap (λ is. is ++ docs (env_of first)) none ∙ ap docs first_from) pieces memory
