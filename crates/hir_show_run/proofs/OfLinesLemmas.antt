-- What lines make are nodes of lines.
use Rattle.std.proofs.Common.{◌≡◌, ℕ, zero, suc, Bool, true, false, ◌⊎◌, inl, inr, List, [], ◌∷◌, ◌++◌, if◌then◌else◌, ◌||◌, Option, Some, None, Ok, refl, sym, subst, fold, slice_get, filter_map}
use Rattle.std.specs.List.{cons_option}
use Rattle.hir_show_grammar.specs.Line.{Line, Blank, Make, Ask, Bad, line_of}
use Rattle.hir_show_grammar.specs.Makers.{Maker}
use Rattle.hir_show_grammar.specs.LineEffects.{is_second as is_second_of}
use Rattle.hir_show_grammar.specs.declared.question.Question.{Question}
use Rattle.hir_show_grammar.specs.Grammar.{IsLine, IsMaker}
use Rattle.hir_show_grammar.specs.Grammar as line
use Rattle.hir_show_grammar.specs.Tokens.{Token}
use Rattle.hir_show_run.specs.Parts.{Parts, no_parts, with_line}
use Rattle.hir_show_run.specs.internal.OfLines.{IsExprOfLine, IsPatOfLine, IsTypeOfLine, AreOfLines}
use Rattle.hir_show_run.specs.internal.RunStates.{RunState}
use Rattle.hir_show_run.specs.Program.{maker_of, built_by, gives_self, gives_name, unless_second, once_each, says, script}
use Rattle.hir_store_core.specs.Contents.{Contents}
use Rattle.hir_store.specs.Building.{Building}
use Rattle.hir_show_run.specs.internal.Stages.{Builds, Finishes}

-- an item of a list with one more is one of the list, or the one more
in_one_more : {X : Type 0} (xs : List X) (x : X) (i : ℕ) (y : X) → slice_get (xs ++ x ∷ []) i ≡ Some y → (slice_get xs i ≡ Some y) ⊎ (x ≡ y)
in_one_more [] x zero y e = inr (cc)
in_one_more [] x (suc i) y e = cc
in_one_more (z ∷ xs) x zero y e = inl e
in_one_more (z ∷ xs) x (suc i) y e = in_one_more xs x i y e

more : {X : Type 0} (P : X → Type 0) (xs : List X) (x : X) → ((i : ℕ) (y : X) → slice_get xs i ≡ Some y → P y) → P x → (i : ℕ) (y : X) → slice_get (xs ++ x ∷ []) i ≡ Some y → P y
more P xs x all here i y e = by (in_one_more xs x i y e) where
  by : (slice_get xs i ≡ Some y) ⊎ (x ≡ y) → P y
  by (inl there) = all i y there
  by (inr same) = subst P same here

with_more : (m : Parts) {maker : Maker} {tokens : List Token} → AreOfLines m.built.nodes → IsMaker maker tokens → AreOfLines (with_line m maker).built.nodes
with_more m h line.bind = record { exprs = h.exprs; pats = h.pats; types = h.types }
with_more m h line.bind_expanded = record { exprs = h.exprs; pats = h.pats; types = h.types }
with_more m h (line.pat {p = x} {tokens = tokens} is) = record { exprs = h.exprs; pats = more IsPatOfLine m.built.nodes.pats x h.pats (tokens, is); types = h.types }
with_more m h (line.type_ref {t = x} {tokens = tokens} is) = record { exprs = h.exprs; pats = h.pats; types = more IsTypeOfLine m.built.nodes.types x h.types (tokens, is) }
with_more m h (line.expr {e = x} {tokens = tokens} is) = record { exprs = more IsExprOfLine m.built.nodes.exprs x h.exprs (tokens, is); pats = h.pats; types = h.types }
with_more m h line.expr_hygiene = h
with_more m h line.pat_hygiene = h
with_more m h line.self_param = h
with_more m h line.param = h
with_more m h line.fn_name = h
with_more m h line.roots = h
with_more m h line.root = h

-- what is written in a text
tokens_of_maker : ((text : List ℕ) → IsLine (line_of text) text) → (text : List ℕ) (maker : Maker) → line_of text ≡ Make maker → (tokens : List Token) × IsMaker maker tokens
tokens_of_maker said text maker e = let is = subst (λ (l : Line). IsLine l text) e (said text) in (is.0, is.1)

unless_make : (has_self has_name : Bool) (line : Line) (maker : Maker) → unless_second has_self has_name line ≡ Make maker → line ≡ Make maker
unless_make has_self has_name Blank maker e = cc
unless_make has_self has_name (Make other) maker e = by (is_second_of has_self has_name other) e
  where
    by : (second : Bool) → (if second then Bad else Make other) ≡ Make maker → Make other ≡ Make maker
    by true e = cc
    by false e = e
unless_make has_self has_name (Ask question) maker e = cc
unless_make has_self has_name Bad maker e = cc

module _ (said : (text : List ℕ) → IsLine (line_of text) text) where
  one_made : (text : List ℕ) (has_self has_name : Bool) (m : Parts) → AreOfLines m.built.nodes → (makers : List Maker)
      → ((n : Parts) → AreOfLines n.built.nodes → AreOfLines (fold with_line n makers).built.nodes)
      → AreOfLines (fold with_line m (cons_option (maker_of (unless_second has_self has_name (line_of text))) makers)).built.nodes
  one_made text has_self has_name m h makers rest = by (unless_second has_self has_name (line_of text)) refl where
    by : (line : Line) → unless_second has_self has_name (line_of text) ≡ line → AreOfLines (fold with_line m (cons_option (maker_of line) makers)).built.nodes
    by Blank e = rest m h
    by (Make maker) e =
        let is = tokens_of_maker said text maker (unless_make has_self has_name (line_of text) maker e) in
        rest (with_line m maker) (with_more m h is.1)
    by (Ask question) e = rest m h
    by Bad e = rest m h

  each_made : (texts : List (List ℕ)) (has_self has_name : Bool) (m : Parts) → AreOfLines m.built.nodes → AreOfLines (fold with_line m (filter_map maker_of (once_each has_self has_name (says texts)))).built.nodes
  each_made [] has_self has_name m h = h
  each_made (text ∷ texts) has_self has_name m h =
      let self_too = has_self || gives_self (line_of text) in
      let name_too = has_name || gives_name (line_of text) in
      one_made text has_self has_name m h (filter_map maker_of (once_each self_too name_too (says texts))) (λ n k. each_made texts self_too name_too n k)

  pub made_of_lines : (texts : List (List ℕ)) → AreOfLines (built_by (script texts)).built.nodes
  unfolding built_by
  made_of_lines texts = each_made texts false false no_parts (record { exprs = λ id x e. cc; pats = λ id x e. cc; types = λ id x e. cc })

  pub built_of_lines : (known : Option (List ℕ)) (now : RunState) (parts : Parts) (first : Option Question) → Builds known now parts (Ok first) → AreOfLines parts.built.nodes
  built_of_lines known now parts None b = rw b.1.1 (made_of_lines b.0)
  built_of_lines known now parts (Some question) b = rw b.1.1 (made_of_lines b.0)

-- so are those of the store that is made of it
pub of_built : (built : Building) (store : Contents) → Finishes built (Ok store) → AreOfLines built.nodes → AreOfLines store.nodes
of_built built store f h = subst (λ (c : Contents). AreOfLines c.nodes) (sym f.0) h
