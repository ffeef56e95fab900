-- What the compared part of a source map says, and what it doesn't depend on.
use Rattle.std.proofs.Common.{◌≡◌, ℕ, List, [], Bool, true, false, cond, refl, ap, sym, ◌∙◌}
use Rattle.std.specs.Prelude.{Option, Some, None, is_some}
use Rattle.std.specs.Option.{option_map}
use Rattle.std.specs.FinMap as map
use Rattle.hir_collections.specs.Table.{by_code}
use Rattle.hir_source_map.specs.declared.diagnostics.ExpressionStoreDiagnostics.{ExpressionStoreDiagnostics}
use Rattle.hir_source_map.specs.declared.sources.ExprSources.{ExprSources}
use Rattle.hir_source_map.specs.declared.source_map.ExpressionStoreSourceMap.{ExpressionStoreSourceMap}
use Rattle.hir_source_map.specs.Sources.{id_key}
use Rattle.hir_source_map.specs.Lookups.{expr_source, pat_source, label_source, type_source, lifetime_source, expansions_of, diagnostics_of}
use Rattle.hir_source_map.specs.ComparedPart.{ComparedExprs, compared_exprs, compared_part}

-- parts with one compared part give one, kept or not
pub kept_alike : (p q : ExprSources) → compared_exprs p ≡ compared_exprs q → (b : Bool) → option_map compared_exprs (cond b (Some p) None) ≡ option_map compared_exprs (cond b (Some q) None)
kept_alike p q same true = λ i. Some (same i)
kept_alike p q same false = refl

source_in : {V : Type 0} → (ComparedExprs → map.FinMap by_code V) → Option ComparedExprs → List ℕ → Option V
source_in family None key = None
source_in family (Some part) key = map.get (family part) key

expr_looked : (e : Option ExprSources) (t : ExpressionStoreSourceMap) (id : ℕ) → expr_source (record t { exprs = e }) id ≡ source_in (λ p. p.exprs) (option_map compared_exprs e) (id_key id)
unfolding source_in
expr_looked None t id = refl
expr_looked (Some p) t id = refl

pat_looked : (e : Option ExprSources) (t : ExpressionStoreSourceMap) (id : ℕ) → pat_source (record t { exprs = e }) id ≡ source_in (λ p. p.pats) (option_map compared_exprs e) (id_key id)
unfolding source_in
pat_looked None t id = refl
pat_looked (Some p) t id = refl

label_looked : (e : Option ExprSources) (t : ExpressionStoreSourceMap) (id : ℕ) → label_source (record t { exprs = e }) id ≡ source_in (λ p. p.labels) (option_map compared_exprs e) (id_key id)
unfolding source_in
label_looked None t id = refl
label_looked (Some p) t id = refl

calls_kept : Option ComparedExprs → map.FinMap by_code ℕ
calls_kept None = map.empty
calls_kept (Some part) = part.expansions

expansions_kept : (e : Option ExprSources) (t : ExpressionStoreSourceMap) → expansions_of (record t { exprs = e }) ≡ calls_kept (option_map compared_exprs e)
unfolding calls_kept
expansions_kept None t = refl
expansions_kept (Some p) t = refl

notes_kept : Option ComparedExprs → List ExpressionStoreDiagnostics
notes_kept None = []
notes_kept (Some part) = part.diagnostics

diagnostics_kept : (e : Option ExprSources) (t : ExpressionStoreSourceMap) → diagnostics_of (record t { exprs = e }) ≡ notes_kept (option_map compared_exprs e)
unfolding notes_kept
diagnostics_kept None t = refl
diagnostics_kept (Some p) t = refl

some_kept : (e : Option ExprSources) → is_some e ≡ is_some (option_map compared_exprs e)
some_kept None = refl
some_kept (Some p) = refl

module _ (x y : ExpressionStoreSourceMap) (same : compared_part x ≡ compared_part y) where
  pub kept : is_some x.exprs ≡ is_some y.exprs
  kept = some_kept x.exprs ∙ ap (λ c. is_some c.kept) same ∙ sym (some_kept y.exprs)

  pub exprs : (id : ℕ) → expr_source x id ≡ expr_source y id
  exprs id = expr_looked x.exprs x id ∙ ap (λ c. source_in (λ p. p.exprs) c.kept (id_key id)) same ∙ sym (expr_looked y.exprs y id)

  pub pats : (id : ℕ) → pat_source x id ≡ pat_source y id
  pats id = pat_looked x.exprs x id ∙ ap (λ c. source_in (λ p. p.pats) c.kept (id_key id)) same ∙ sym (pat_looked y.exprs y id)

  pub labels : (id : ℕ) → label_source x id ≡ label_source y id
  labels id = label_looked x.exprs x id ∙ ap (λ c. source_in (λ p. p.labels) c.kept (id_key id)) same ∙ sym (label_looked y.exprs y id)

  pub expansions : expansions_of x ≡ expansions_of y
  expansions = expansions_kept x.exprs x ∙ ap (λ c. calls_kept c.kept) same ∙ sym (expansions_kept y.exprs y)

  pub diagnostics : diagnostics_of x ≡ diagnostics_of y
  diagnostics = diagnostics_kept x.exprs x ∙ ap (λ c. notes_kept c.kept) same ∙ sym (diagnostics_kept y.exprs y)

  pub types : (id : ℕ) → type_source x id ≡ type_source y id
  types id = ap (λ c. map.get c.types (id_key id)) same

  pub lifetimes : (id : ℕ) → lifetime_source x id ≡ lifetime_source y id
  lifetimes id = ap (λ c. map.get c.lifetimes (id_key id)) same
