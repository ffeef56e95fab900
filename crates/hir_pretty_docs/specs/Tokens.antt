-- What tokens stand for, and when documents were added to a stack of them.
use Rattle.std.specs.Prelude.{◌≡◌, ◌-◌, Bool, true, false, List, [], ◌∷◌, ◌++◌, codes, decimal, slice_get, flat_map, length, take, reverse}
use Rattle.hir_base.specs.declared.defs.NamedDef.TheVariants as named
use Rattle.hir_collections.specs.Stacks.{StackItems, Defers}
use Rattle.hir_path.specs.NodeIds.{ExprId}
use Rattle.hir_pretty_docs.specs.declared.token.Token.{Token}
use Rattle.hir_pretty_docs.specs.declared.token.Ending.{Ending}
use Rattle.hir_pretty_docs.specs.declared.token.Lookup.{Lookup}
use Rattle.hir_pretty_docs.specs.declared.token.Ending.TheVariants as ending
use Rattle.hir_pretty_docs.specs.declared.token.Lookup.TheVariants as lookup
use Rattle.hir_pretty_docs.specs.declared.token.Token.TheVariants as token
use Rattle.hir_pretty_docs.specs.NameLookups.{PrintEnv}
use Rattle.hir_pretty_docs.specs.Docs.{Doc, MissingDoc, text, sp, br, into, out, e, under, p, t, when}
use Rattle.hir_pretty_docs.specs.Names.{name_docs, label_docs, l, binding_docs}
use Rattle.hir_pretty_docs.specs.Literals.{literal_docs}
use Rattle.hir_pretty_docs.specs.Paths.{args_docs, turbofish, found_name}
use Rattle.hir_pretty_docs.specs.Types.{type_param_docs}
use Rattle.hir_pretty_docs.specs.Pats.{field_pattern, after_last}
use Rattle.hir_pretty_docs.specs.Exprs.{coroutine_body}

-- what comes after each expression of a list
abbrev pub ending_docs : Ending → List Doc
ending_docs ending.Comma = text (codes ", ")
ending_docs ending.Line = text (codes ",") ++ br

-- expressions, each with its ending
abbrev pub exprs_docs : Ending → List ExprId → List Doc
exprs_docs ending ids = flat_map (λ id. e id ++ ending_docs ending) ids

-- the documents of what is looked up
abbrev pub lookup_docs : PrintEnv → Lookup → List Doc
lookup_docs s (lookup.Label id) = label_docs s id
lookup_docs s (lookup.Lifetime id) = l s id
lookup_docs s (lookup.Binding id) = binding_docs s id
lookup_docs s (lookup.Def def) = found_name (codes "<missing>") (s.tables.name def)
lookup_docs s (lookup.Const id) = found_name (codes "_") (s.tables.name (named.ConstId id))
lookup_docs s (lookup.Crate id) = found_name (codes "$crate") (s.tables.crate_name id)
lookup_docs s (lookup.TypeParam id) = type_param_docs s id.local_id (s.tables.type_param id)

-- the documents that a token stands for
abbrev pub stands_for : PrintEnv → Token → List Doc
stands_for s (token.Text x) = text x.now
stands_for s token.Space = sp
stands_for s token.Break = br
stands_for s token.Indent = into
stands_for s token.Outdent = out
stands_for s (token.Number n) = text (decimal n)
stands_for s (token.Literal x) = literal_docs x.now
stands_for s (token.Name name) = name_docs s name.now
stands_for s (token.LookUp x) = lookup_docs s x
stands_for s token.LastFieldEnd = after_last s false
stands_for s (token.Missing missing) = MissingDoc missing ∷ []
stands_for s (token.Expr id) = e id
stands_for s (token.ExprIn id parent) = under parent id
stands_for s (token.ExprList ending id others) = exprs_docs ending (id ∷ others.now)
stands_for s (token.CoroutineBody id) = e (coroutine_body (slice_get s.nodes.exprs id) id)
stands_for s (token.Pattern id) = p id
stands_for s (token.FieldPat field) = field_pattern s field.now
stands_for s (token.Type id) = t id
stands_for s (token.GenericArgs x) = turbofish (args_docs s x.now)

-- a token that is written as it is
abbrev pub is_plain : Token → Bool
is_plain (token.Text x) = true
is_plain token.Space = true
is_plain token.Break = true
is_plain token.Indent = true
is_plain token.Outdent = true
is_plain (token.Number n) = true
is_plain (token.Literal x) = true
is_plain (token.Name name) = true
is_plain token.LastFieldEnd = true
is_plain w = false

-- a token that expands to others
abbrev pub is_node : Token → Bool
is_node (token.Expr id) = true
is_node (token.ExprIn id parent) = true
is_node (token.ExprList ending id others) = true
is_node (token.CoroutineBody id) = true
is_node (token.Pattern id) = true
is_node (token.FieldPat field) = true
is_node (token.Type id) = true
is_node (token.GenericArgs x) = true
is_node w = false

-- the documents that tokens stand for, in order
abbrev pub docs_of_tokens : PrintEnv → List Token → List Doc
docs_of_tokens s tokens = flat_map (stands_for s) tokens

-- the documents of tokens that are put after others, one by one
abbrev pub stood_after : PrintEnv → List Doc → List Token → List Doc
stood_after s is [] = is
stood_after s is (w ∷ ws) = stood_after s (is ++ stands_for s w) ws

abbrev pub docs_one_by_one : PrintEnv → List Token → List Doc
docs_one_by_one s [] = []
docs_one_by_one s (w ∷ ws) = stood_after s (stands_for s w) ws

-- each after a separator, the first only where something is before it
abbrev pub following : List Doc → Bool → List (List Doc) → List Doc
following separator after [] = []
following separator after (x ∷ xs) = when after separator ++ x ++ following separator true xs

-- the tokens on a stack above those that were there before
abbrev pub above : StackItems Token → StackItems Token → List Token
above old new = reverse (take (length new.items - length old.items) new.items)

-- Tokens were added that stand for these documents, whatever they are printed from. It holds no data: so a
-- search for a proof goes by equations too.
pub record Adds (old : StackItems Token) (docs : PrintEnv → List Doc) (new : StackItems Token) : Type 0 where
  pub defers : Defers old (above old new) new
  pub same : new.refused ≡ false → (s : PrintEnv) → docs_of_tokens s (above old new) ≡ docs s

-- These tokens were added.
pub record AddsTokens (old : StackItems Token) (tokens : List Token) (new : StackItems Token) : Type 0 where
  pub defers : Defers old tokens new
