-- The first fault of a signature by cases, and what a signature without one names.
use Rattle.std.proofs.Common.{◌≡◌, ◌<◌, ℕ, Bool, true, false, ◌&&◌, List, Option, Some, None, IfSome, All, length, inl, inr, refl, sym, ◌∙◌, subst}
use Rattle.std.specs.List.{list_all}
use Rattle.std.proofs.lemmas.Bool.{false≢true, ltb-true}
use Rattle.std.proofs.lemmas.List.Elements.{All-weaker}
use Rattle.std.proofs.lemmas.List.Sums.{AllPass-from_list_all}
use Rattle.hir_node.specs.ChildCalls.{a, t, opt}
use Rattle.hir_path.specs.declared.bound.ConstRef.{ConstRef}
use Rattle.hir_signature.specs.declared.any_param.TypeOrConstParamData.{TypeOrConstParamData}
use Rattle.hir_signature.specs.declared.any_param.TypeOrConstParamData.TheVariants as either
use Rattle.hir_signature.specs.declared.predicate.WherePredicate.{WherePredicate}
use Rattle.hir_signature.specs.declared.predicate.WherePredicate.TheVariants as predicate
use Rattle.hir_validate.specs.TestedParts.{is_path_at}
use Rattle.hir_validate.specs.declared.node_arenas.Nodes.{Nodes}
use Rattle.hir_signature.specs.Generics.{Generics}
use Rattle.hir_signature.specs.declared.signature_fault.SignatureFault.TheVariants.{IdOutOfRange, NotAPath}
use Rattle.hir_signature.specs.declared.signatures.FieldData.{FieldData}
use Rattle.hir_signature.specs.declared.signatures.FunctionParts.{FunctionParts}
use Rattle.hir_signature.specs.declared.signatures.StructParts.{StructParts}
use Rattle.hir_signature.specs.declared.signatures.VariantParts.{VariantParts}
use Rattle.hir_signature.specs.declared.signatures.PlainParts.{PlainParts}
use Rattle.hir_signature.specs.Signatures.{ids_fault, all_in_range, param_calls, predicate_calls, predicate_paths, field_calls, generics_in_range, generics_name_paths, types_in_range, function_fault, struct_fault, fields_fault, plain_fault, ParamFits, PredicateFits, FieldFits, GenericsFit}

pub not_in_range : (a b : Bool) → a ≡ false → ids_fault a b (Some IdOutOfRange)
unfolding ids_fault
not_in_range a b e = inl (refl, λ t. false≢true (sym e ∙ t))

pub not_paths : (a b : Bool) → a ≡ true → b ≡ false → ids_fault a b (Some NotAPath)
unfolding ids_fault
not_paths a b e f = inr (e, (refl, λ t. false≢true (sym f ∙ t)))

pub no_fault : (a b : Bool) → a ≡ true → b ≡ true → ids_fault a b None
unfolding ids_fault
no_fault a b e f = (e, f)

-- without a fault all ids exist, and what is named as a path is one
faultless : (a b : Bool) → ids_fault a b None → (a ≡ true) × (b ≡ true)
unfolding ids_fault
faultless a b none = none

both : (a b : Bool) → (a && b) ≡ true → (a ≡ true) × (b ≡ true)
both true b e = (refl, e)
both false b e = absurd (false≢true e)

some_type : (s : Nodes) (id : Option ℕ) → all_in_range s (opt t id) ≡ true → IfSome id (λ id. id < length s.types)
some_type s None in_range = tt
some_type s (Some id) in_range = ltb-true id (length s.types) (both _ _ in_range).0

some_expr : (s : Nodes) (id : Option ℕ) → all_in_range s (opt a id) ≡ true → IfSome id (λ id. id < length s.exprs)
some_expr s None in_range = tt
some_expr s (Some id) in_range = ltb-true id (length s.exprs) (both _ _ in_range).0

some_const : (s : Nodes) (c : Option ConstRef) → all_in_range s (opt (λ c. a c.expr) c) ≡ true → IfSome c (λ c. c.expr < length s.exprs)
some_const s None in_range = tt
some_const s (Some c) in_range = ltb-true c.expr (length s.exprs) (both _ _ in_range).0

param_fits : (s : Nodes) (p : TypeOrConstParamData) → all_in_range s (param_calls p) ≡ true → ParamFits s p
param_fits s (either.TypeParamData p) in_range = some_type s p.default in_range
param_fits s (either.ConstParamData p) in_range =
    let parts = both _ _ in_range in
    (ltb-true p.ty (length s.types) parts.0, some_const s p.default parts.1)

predicate_fits : (s : Nodes) (w : WherePredicate) → all_in_range s (predicate_calls w) ≡ true → list_all (is_path_at s.types) (predicate_paths w) ≡ true → PredicateFits s w
predicate_fits s (predicate.TypeBound lifetimes target bound) in_range paths =
    let parts = both _ _ in_range in
    (ltb-true target (length s.types) parts.0, rw (parts.1, paths) refl)
predicate_fits s (predicate.Lifetime target bound) in_range paths =
    let parts = both _ _ in_range in
    (ltb-true target (length s.lifetimes) parts.0, ltb-true bound (length s.lifetimes) (both _ _ parts.1).0)

field_fits : (s : Nodes) (f : FieldData) → all_in_range s (field_calls f) ≡ true → FieldFits s f
field_fits s f in_range =
    let parts = both _ _ in_range in
    (ltb-true f.type_ref (length s.types) parts.0, some_expr s f.default_value parts.1)

generics_fit : (s : Nodes) (g : Generics) → generics_in_range s g ≡ true → generics_name_paths s g ≡ true → GenericsFit s g
generics_fit s g in_range paths =
    let parts = both _ _ in_range in
    let predicates = AllPass-from_list_all (λ w. all_in_range s (predicate_calls w)) g.predicates parts.1 in
    let named = AllPass-from_list_all (λ w. list_all (is_path_at s.types) (predicate_paths w)) g.predicates paths in (
      All-weaker _ _ (param_fits s) g.type_or_consts (AllPass-from_list_all (λ p. all_in_range s (param_calls p)) g.type_or_consts parts.0),
      λ i d h. predicate_fits s _ (predicates i d h) (named i d h),
    )

-- what a signature without a fault names exists; `now` is the signature as a caller sees it
module _ (p : FunctionParts) (none : function_fault p None) (now : FunctionParts) (same : p ≡ now) where
  lists : (generics_in_range p.store.nodes p.generic_params ≡ true) × (types_in_range p.store.nodes p.params ≡ true)
  lists = both _ _ (both _ _ (faultless _ _ none).0).0

  pub function_generics_fit : (generics : Generics) → generics ≡ p.generic_params → GenericsFit now.store.nodes generics
  function_generics_fit generics e = subst (λ (v : FunctionParts). GenericsFit v.store.nodes generics) same (subst (GenericsFit p.store.nodes) (sym e) (generics_fit p.store.nodes p.generic_params lists.0 (faultless _ _ none).1))

  pub params_in_range : (params : List ℕ) → params ≡ p.params → All (λ id. id < length now.store.nodes.types) params
  params_in_range params e =
      let types = All-weaker _ _ (λ id. ltb-true id (length p.store.nodes.types)) p.params (AllPass-from_list_all _ p.params lists.1) in
      subst (λ (v : FunctionParts). All (λ id. id < length v.store.nodes.types) params) same (subst (All (λ id. id < length p.store.nodes.types)) (sym e) types)

  pub ret_type_in_range : IfSome p.ret_type (λ id. id < length now.store.nodes.types)
  ret_type_in_range = subst (λ (v : FunctionParts). IfSome p.ret_type (λ id. id < length v.store.nodes.types)) same (some_type p.store.nodes p.ret_type (both _ _ (faultless _ _ none).0).1)

module _ (p : StructParts) (none : struct_fault p None) (now : StructParts) (same : p ≡ now) where
  pub struct_generics_fit : (generics : Generics) → generics ≡ p.generic_params → GenericsFit now.store.nodes generics
  struct_generics_fit generics e = subst (λ (v : StructParts). GenericsFit v.store.nodes generics) same (subst (GenericsFit p.store.nodes) (sym e) (generics_fit p.store.nodes p.generic_params (faultless _ _ none).0 (faultless _ _ none).1))

module _ (p : PlainParts) (none : plain_fault p None) (now : PlainParts) (same : p ≡ now) where
  pub plain_generics_fit : (generics : Generics) → generics ≡ p.generic_params → GenericsFit now.store.nodes generics
  plain_generics_fit generics e = subst (λ (v : PlainParts). GenericsFit v.store.nodes generics) same (subst (GenericsFit p.store.nodes) (sym e) (generics_fit p.store.nodes p.generic_params (faultless _ _ none).0 (faultless _ _ none).1))

module _ (p : VariantParts) (none : fields_fault p None) (now : VariantParts) (same : p ≡ now) where
  pub fields_in_range : (fields : List FieldData) → fields ≡ p.fields → All (FieldFits now.store.nodes) fields
  fields_in_range fields e =
      let fit = All-weaker _ _ (field_fits p.store.nodes) p.fields (AllPass-from_list_all (λ f. all_in_range p.store.nodes (field_calls f)) p.fields (faultless _ _ none).0) in
      subst (λ (v : VariantParts). All (FieldFits v.store.nodes) fields) same (subst (All (FieldFits p.store.nodes)) (sym e) fit)
