-- The lines as they are written.
use Rattle.std.specs.Prelude.{◌≡◌, ◌∷◌}
use Rattle.hir_show_grammar.specs.Prelude.{ℕ, List, [], codes, ⊤, Expansion, ExprId, PatId, BindingId, Expr, Pat, TypeRef}
use Rattle.hir_path.specs.declared.ids.ExprOrPatId.TheVariants as any_id
use Rattle.hir_show_grammar.specs.Line.{Line, Blank, Make, Ask, Bad, plain_binding}
use Rattle.hir_show_grammar.specs.Makers.{Maker, Binding, Pat as MakePat, TypeRef as MakeType, Expr as MakeExpr, Hygiene, SelfParam, Param, FnName, Roots, Root}
use Rattle.hir_show_grammar.specs.declared.question.Question.{Question}
use Rattle.hir_show_grammar.specs.declared.question.Question.TheVariants.{OfStore, OfBody}
use Rattle.hir_show_grammar.specs.declared.question.StoreQuestion.TheVariants.{Children, RootOf}
use Rattle.hir_show_grammar.specs.declared.question.BodyQuestion.TheVariants.{Chain, Resolve, Print, Captures}
use Rattle.hir_show_grammar.specs.Words.{of_source}
use Rattle.hir_show_grammar.specs.Tokens.{Token, Word, Name, Number, IsText}
use Rattle.hir_show_grammar.specs.PatGrammar.{IsPat}
use Rattle.hir_show_grammar.specs.TypeGrammar.{IsType}
use Rattle.hir_show_grammar.specs.ExprGrammar.{IsExpr}

-- the words of a line that makes something
pub data IsMaker : Maker → List Token → Type 0 where
  bind : {name : List ℕ} →
      IsMaker (Binding (plain_binding name of_source)) (Word (codes "bind") ∷ Name name ∷ [])
  bind_expanded : {name : List ℕ} {expansion : ℕ} →
      IsMaker (Binding (plain_binding name (Expansion expansion)))
      (Word (codes "bind") ∷ Name name ∷ Number expansion ∷ [])
  pat : {p : Pat} {tokens : List Token} → IsPat p tokens → IsMaker (MakePat p) (Word (codes "pat") ∷ tokens)
  type_ref : {t : TypeRef} {tokens : List Token} → IsType t tokens →
      IsMaker (MakeType t) (Word (codes "type") ∷ tokens)
  expr : {e : Expr} {tokens : List Token} → IsExpr e tokens →
      IsMaker (MakeExpr e) (Word (codes "expr") ∷ tokens)
  expr_hygiene : {expr : ExprId} {expansion : ℕ} →
      IsMaker (Hygiene (any_id.ExprId expr) (Expansion expansion))
      (Word (codes "hygiene") ∷ Number expr ∷ Number expansion ∷ [])
  pat_hygiene : {pat : PatId} {expansion : ℕ} →
      IsMaker (Hygiene (any_id.PatId pat) (Expansion expansion))
      (Word (codes "pat-hygiene") ∷ Number pat ∷ Number expansion ∷ [])
  self_param : {binding : BindingId} → IsMaker (SelfParam binding) (Word (codes "self") ∷ Number binding ∷ [])
  param : {pat : PatId} → IsMaker (Param pat) (Word (codes "param") ∷ Number pat ∷ [])
  fn_name : {name : List ℕ} → IsMaker (FnName name) (Word (codes "fn") ∷ Name name ∷ [])
  roots : IsMaker Roots (Word (codes "roots") ∷ [])
  root : {expr : ExprId} → IsMaker (Root expr) (Word (codes "root") ∷ Number expr ∷ [])

-- the words of a question
pub data IsQuestion : Question → List Token → Type 0 where
  children : {expr : ExprId} → IsQuestion (OfStore (Children expr))
      (Word (codes "children") ∷ Number expr ∷ [])
  root_of : {expr : ExprId} → IsQuestion (OfStore (RootOf expr)) (Word (codes "root-of") ∷ Number expr ∷ [])
  chain : {expr : ExprId} → IsQuestion (OfBody (Chain expr)) (Word (codes "chain") ∷ Number expr ∷ [])
  resolve : {expr : ExprId} {name : List ℕ} →
      IsQuestion (OfBody (Resolve expr name of_source))
      (Word (codes "resolve") ∷ Number expr ∷ Name name ∷ [])
  resolve_expanded : {expr : ExprId} {name : List ℕ} {expansion : ℕ} →
      IsQuestion (OfBody (Resolve expr name (Expansion expansion)))
      (Word (codes "resolve") ∷ Number expr ∷ Name name ∷ Number expansion ∷ [])
  print : IsQuestion (OfBody Print) (Word (codes "print") ∷ [])
  captures : {expr : ExprId} → IsQuestion (OfBody (Captures expr))
      (Word (codes "captures") ∷ Number expr ∷ [])

-- how each line is written; a bad line is any text
abbrev pub IsLine : Line → List ℕ → Type 0
IsLine Blank text = text ≡ []
IsLine (Make maker) text = (tokens : List Token) × IsMaker maker tokens × IsText tokens text
IsLine (Ask question) text = (tokens : List Token) × IsQuestion question tokens × IsText tokens text
IsLine Bad text = ⊤
