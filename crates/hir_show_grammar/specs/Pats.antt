-- What the words after `pat` say.
use Rattle.std.specs.Prelude.{◌∷◌}
use Rattle.hir_show_grammar.specs.Prelude.{ℕ, List, [], None, codes, Inclusive, Pat, Rest, Wild, Or, Range, Lit, Bind, TupleStruct}
use Rattle.hir_node.specs.declared.pat.Pat.TheVariants.{Missing, Tuple, Expr}
use Rattle.hir_show_grammar.specs.Readings.{Reading, ◌>>=◌, gives}
use Rattle.hir_show_grammar.specs.Words.{number, optional, list, path, one_of}

abbrev pub bind_pat : Reading Pat
bind_pat = do
  id ← number
  subpat ← optional
  gives (Bind id subpat)

abbrev pub tuple_pat : Reading Pat
tuple_pat = do
  args ← list
  gives (Tuple args None)

abbrev pub or_pat : Reading Pat
or_pat = do
  pats ← list
  gives (Or pats)

abbrev pub tuple_struct_pat : Reading Pat
tuple_struct_pat = do
  of ← path
  args ← list
  gives (TupleStruct of args None)

abbrev pub range_pat : Reading Pat
range_pat = do
  start ← optional
  end ← optional
  gives (Range start end Inclusive)

abbrev pub lit_pat : Reading Pat
lit_pat = do
  expr ← number
  gives (Lit expr)

abbrev pub expr_pat : Reading Pat
expr_pat = do
  expr ← number
  gives (Expr expr)

abbrev pub pat_forms : List (List ℕ × Reading Pat)
pat_forms =
    (codes "wild", gives Wild)
    ∷ (codes "missing", gives Missing)
    ∷ (codes "rest", gives Rest)
    ∷ (codes "bind", bind_pat)
    ∷ (codes "tuple", tuple_pat)
    ∷ (codes "or", or_pat)
    ∷ (codes "tstruct", tuple_struct_pat)
    ∷ (codes "range", range_pat)
    ∷ (codes "lit", lit_pat)
    ∷ (codes "expr", expr_pat)
    ∷ []

-- the words after `pat`
unfoldable pub pat : Reading Pat
pat words = one_of pat_forms words
