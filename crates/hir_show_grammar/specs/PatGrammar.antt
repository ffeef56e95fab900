-- The words after `pat`, for each pattern that a line makes.
use Rattle.std.specs.Prelude.{◌∷◌}
use Rattle.hir_show_grammar.specs.Prelude.{ℕ, List, [], Option, None, codes, Inclusive, ExprId, PatId, BindingId, Pat, Rest, Wild, Or, Range, Lit, Bind, TupleStruct}
use Rattle.hir_node.specs.declared.pat.Pat.TheVariants.{Missing, Tuple, Expr}
use Rattle.hir_show_grammar.specs.Words.{plain}
use Rattle.hir_show_grammar.specs.Tokens.{Token, Word, Name, Number, Optional, Numbers}

pub data IsPat : Pat → List Token → Type 0 where
  wild : IsPat Wild (Word (codes "wild") ∷ [])
  missing : IsPat Missing (Word (codes "missing") ∷ [])
  rest : IsPat Rest (Word (codes "rest") ∷ [])
  bind : {id : BindingId} {subpat : Option PatId} →
      IsPat (Bind id subpat) (Word (codes "bind") ∷ Number id ∷ Optional subpat ∷ [])
  tuple : {args : List PatId} → IsPat (Tuple args None) (Word (codes "tuple") ∷ Numbers args ∷ [])
  or_pat : {pats : List PatId} → IsPat (Or pats) (Word (codes "or") ∷ Numbers pats ∷ [])
  tuple_struct : {name : List ℕ} {args : List PatId} →
      IsPat (TupleStruct (plain name) args None) (Word (codes "tstruct") ∷ Name name ∷ Numbers args ∷ [])
  range : {start end : Option ExprId} →
      IsPat (Range start end Inclusive) (Word (codes "range") ∷ Optional start ∷ Optional end ∷ [])
  lit : {expr : ExprId} → IsPat (Lit expr) (Word (codes "lit") ∷ Number expr ∷ [])
  expr : {expr : ExprId} → IsPat (Expr expr) (Word (codes "expr") ∷ Number expr ∷ [])
