-- What fits is made of parts that fit: of a path its lists of arguments, of arguments those in their bindings, of bindings their bounds.
use Rattle.std.proofs.Common.{◌≡◌, ℕ, ◌<◌, Bool, true, ◌&&◌, List, [], ◌∷◌, ◌++◌, Some, None, zero, suc, refl, ap, sym, ◌∙◌, subst, arith, length, slice_get, Contains}
use Rattle.std.specs.Bool.{IsTrue}
use Rattle.std.specs.List.{list_all, flat_map}
use Rattle.std.specs.Cmp.{first_so, second_so}
use Rattle.std.proofs.lemmas.Bool.{ltb-true}
use Rattle.std.proofs.lemmas.List.Folds.{list_all-append}
use Rattle.hir_path.specs.declared.path.GenericArg.{GenericArg}
use Rattle.hir_path.specs.declared.path.GenericArgs.{GenericArgs, out-GenericArgs}
use Rattle.hir_path.specs.declared.path.AssociatedTypeBinding.{AssociatedTypeBinding, out-AssociatedTypeBinding}
use Rattle.hir_path.specs.declared.path.NormalPath.{NormalPath}
use Rattle.hir_path.specs.declared.path.Path.TheVariants as path
use Rattle.hir_path.specs.declared.bound.TypeBound.{TypeBound}
use Rattle.hir_path.specs.declared.bound.TypeBound.TheVariants as bound
use Rattle.hir_path.specs.declared.bound.TraitBoundModifier.{TraitBoundModifier}
use Rattle.hir_node.specs.declared.expr.Expr.TheVariants as expr
use Rattle.hir_node.specs.declared.type_ref.TypeRef.TheVariants as type
use Rattle.hir_node.specs.ChildCalls.{Call, e, t, opt, arg_calls, args_calls, binding_calls, bound_calls}
use Rattle.hir_node.proofs.ArgsCalls.{args_calls_is, binding_calls_is}
use Rattle.hir_validate.specs.Sizes.{is_in_range}
use Rattle.hir_validate.specs.TestedParts.{is_path_at, all_of, option_all, bound_paths, args_paths, args_give_self}
use Rattle.hir_validate.specs.internal.TestedParts.{binding_paths, binding_gives_self}
use Rattle.hir_validate.specs.Nodes.{Nodes, sizes_of}
use Rattle.hir_validate.specs.Faults.{RootedNodes, rooted_fault}
use Rattle.hir_validate.proofs.TypePartsLemmas.{args_paths_is, binding_paths_is, args_give_self_is, binding_gives_self_is}
use Rattle.hir_validate.proofs.SoundLemmas.{exprs_sound, types_sound}
use Rattle.hir_validate.specs.Fits.{path_fits, args_fit, bound_fits}

-- a test of all passes each member
all_member : {X : Type 0} (test : X → Bool) (xs : List X) (x : X) → list_all test xs ≡ true → Contains xs x → test x ≡ true
all_member test [] x h c = absurd (omega (arith, c.1))
all_member test (y ∷ ys) x h (zero, lt, e) = subst (λ z. test z ≡ true) e (first_so _ _ h)
all_member test (y ∷ ys) x h (suc i, lt, e) = all_member test ys x (second_so _ _ h) (i, omega arith, e)

all_left : {X : Type 0} (test : X → Bool) (xs ys : List X) → list_all test (xs ++ ys) ≡ true → list_all test xs ≡ true
all_left test xs ys h = first_so _ _ (sym (list_all-append test xs ys) ∙ h)

all_right : {X : Type 0} (test : X → Bool) (xs ys : List X) → list_all test (xs ++ ys) ≡ true → list_all test ys ≡ true
all_right test xs ys h = second_so _ _ (sym (list_all-append test xs ys) ∙ h)

-- a test of all that is in lists passes each list
all_piece : {X A : Type 0} (test : A → Bool) (f : X → List A) (xs : List X) (x : X) → list_all test (flat_map f xs) ≡ true → Contains xs x → list_all test (f x) ≡ true
all_piece test f [] x h c = absurd (omega (arith, c.1))
all_piece test f (y ∷ ys) x h (zero, lt, e) = subst (λ z. list_all test (f z) ≡ true) e (all_left test (f y) (flat_map f ys) h)
all_piece test f (y ∷ ys) x h (suc i, lt, e) = all_piece test f ys x (all_right test (f y) (flat_map f ys) h) (i, omega arith, e)

module _ (s : Nodes) where
  abbrev in_range : Call → Bool
  in_range = is_in_range (sizes_of s)

  abbrev is_path : ℕ → Bool
  is_path = is_path_at s.types

  both : (a b : Bool) → a ≡ true → b ≡ true → (a && b) ≡ true
  both a b h k = rw (h, k) refl

  -- a list of arguments of a path
  pub path_args_fit : (normal : NormalPath) (args : GenericArgs) → IsTrue (path_fits s (path.Normal normal)) → Contains normal.generic_args (Some args) → IsTrue (args_fit s args)
  path_args_fit normal args h c =
      let calls = all_piece in_range (opt args_calls) normal.generic_args (Some args) (all_left in_range (flat_map (opt args_calls) normal.generic_args) (opt t normal.type_anchor) (first_so _ _ (first_so _ _ (first_so _ _ h)))) c in
      let paths = all_piece is_path (all_of args_paths) normal.generic_args (Some args) (second_so _ _ (first_so _ _ (first_so _ _ h))) c in
      let selfs = all_member (option_all args_give_self) normal.generic_args (Some args) (second_so _ _ (first_so _ _ h)) c in
      both _ _ (both _ _ calls paths) selfs

  -- the anchor of a path
  pub path_anchor_in_range : (normal : NormalPath) (id : ℕ) → IsTrue (path_fits s (path.Normal normal)) → normal.type_anchor ≡ Some id → id < length s.types
  path_anchor_in_range normal id h is =
      let calls = all_right in_range (flat_map (opt args_calls) normal.generic_args) (opt t normal.type_anchor) (first_so _ _ (first_so _ _ (first_so _ _ h))) in
      ltb-true _ _ (first_so _ _ (rw is at calls))

  module _ (x : GenericArgs) (fits : IsTrue (args_fit s x)) where
    calls_right : list_all in_range (flat_map arg_calls (out-GenericArgs x).args ++ flat_map binding_calls (out-GenericArgs x).bindings) ≡ true
    calls_right = sym (ap (list_all in_range) (args_calls_is x)) ∙ first_so _ _ (first_so _ _ fits)

    -- what one argument names
    pub arg_in_range : (arg : GenericArg) → Contains (out-GenericArgs x).args arg → IsTrue (list_all in_range (arg_calls arg))
    arg_in_range arg c = all_piece in_range arg_calls (out-GenericArgs x).args arg (all_left in_range (flat_map arg_calls (out-GenericArgs x).args) (flat_map binding_calls (out-GenericArgs x).bindings) calls_right) c

    module _ (b : AssociatedTypeBinding) (in_it : Contains (out-GenericArgs x).bindings b) where
      binding_in_range : list_all in_range (opt args_calls (out-AssociatedTypeBinding b).args ++ opt t (out-AssociatedTypeBinding b).type_ref ++ flat_map bound_calls (out-AssociatedTypeBinding b).bounds) ≡ true
      binding_in_range =
          sym (ap (list_all in_range) (binding_calls_is b))
          ∙ all_piece in_range binding_calls (out-GenericArgs x).bindings b (all_right in_range (flat_map arg_calls (out-GenericArgs x).args) (flat_map binding_calls (out-GenericArgs x).bindings) calls_right) in_it

      binding_paths_right : list_all is_path (all_of args_paths (out-AssociatedTypeBinding b).args ++ flat_map bound_paths (out-AssociatedTypeBinding b).bounds) ≡ true
      binding_paths_right =
          sym (ap (list_all is_path) (binding_paths_is b))
          ∙ all_piece is_path binding_paths (out-GenericArgs x).bindings b (sym (ap (list_all is_path) (args_paths_is x)) ∙ second_so _ _ (first_so _ _ fits)) in_it

      binding_self : option_all args_give_self (out-AssociatedTypeBinding b).args ≡ true
      binding_self =
          sym (binding_gives_self_is b)
          ∙ all_member binding_gives_self (out-GenericArgs x).bindings b (second_so _ _ (sym (args_give_self_is x) ∙ second_so _ _ fits)) in_it

      -- the arguments of a binding
      pub binding_args_fit : (args : GenericArgs) → (out-AssociatedTypeBinding b).args ≡ Some args → IsTrue (args_fit s args)
      binding_args_fit args is =
          let o = out-AssociatedTypeBinding b in
          let calls = rw is at (all_left in_range (opt args_calls o.args) (opt t o.type_ref) (all_left in_range (opt args_calls o.args ++ opt t o.type_ref) (flat_map bound_calls o.bounds) binding_in_range)) in
          let paths = rw is at (all_left is_path (all_of args_paths o.args) (flat_map bound_paths o.bounds) binding_paths_right) in
          let selfs = rw is at binding_self in
          both _ _ (both _ _ calls paths) selfs

      -- the type of a binding
      pub binding_type_in_range : (id : ℕ) → (out-AssociatedTypeBinding b).type_ref ≡ Some id → id < length s.types
      binding_type_in_range id is =
          let o = out-AssociatedTypeBinding b in
          let calls = all_right in_range (opt args_calls o.args) (opt t o.type_ref) (all_left in_range (opt args_calls o.args ++ opt t o.type_ref) (flat_map bound_calls o.bounds) binding_in_range) in
          ltb-true _ _ (first_so _ _ (rw is at calls))

      -- each bound of a binding
      pub binding_bounds_fit : (bound : TypeBound) → Contains (out-AssociatedTypeBinding b).bounds bound → IsTrue (bound_fits s bound)
      binding_bounds_fit bound c =
          let o = out-AssociatedTypeBinding b in
          let calls = all_piece in_range bound_calls o.bounds bound (all_right in_range (opt args_calls o.args ++ opt t o.type_ref) (flat_map bound_calls o.bounds) binding_in_range) c in
          let paths = all_piece is_path bound_paths o.bounds bound (all_right is_path (all_of args_paths o.args) (flat_map bound_paths o.bounds) binding_paths_right) c in
          both _ _ calls paths

  -- the path that a bound names
  pub bound_path_in_range : (id : ℕ) (before : TraitBoundModifier) → IsTrue (bound_fits s (bound.Path id before)) → IsTrue (is_path_at s.types id)
  bound_path_in_range id before h = first_so _ _ (second_so _ _ h)

  pub for_bound_path_in_range : (names : List (List ℕ)) (id : ℕ) → IsTrue (bound_fits s (bound.ForLifetime names id)) → IsTrue (is_path_at s.types id)
  for_bound_path_in_range names id h = first_so _ _ (second_so _ _ h)

module _ (c : RootedNodes) (sound : rooted_fault c None) (id : ℕ) where
  bounds_fit : (bounds : List TypeBound) (x : TypeBound) → list_all (is_in_range (sizes_of c.nodes)) (flat_map bound_calls bounds) ≡ true → list_all (is_path_at c.nodes.types) (flat_map bound_paths bounds) ≡ true → Contains bounds x → IsTrue (bound_fits c.nodes x)
  bounds_fit bounds x calls paths at =
      both c.nodes _ _ (all_piece (is_in_range (sizes_of c.nodes)) bound_calls bounds x calls at) (all_piece (is_path_at c.nodes.types) bound_paths bounds x paths at)

  pub impl_bounds_fit : (bounds : List TypeBound) (x : TypeBound) → slice_get c.nodes.types id ≡ Some (type.ImplTrait bounds) → Contains bounds x → IsTrue (bound_fits c.nodes x)
  impl_bounds_fit bounds x is at =
      let h = types_sound c sound id (type.ImplTrait bounds) is in
      bounds_fit bounds x (first_so _ _ (first_so _ _ h.in_range)) h.paths at

  pub dyn_bounds_fit : (bounds : List TypeBound) (x : TypeBound) → slice_get c.nodes.types id ≡ Some (type.DynTrait bounds) → Contains bounds x → IsTrue (bound_fits c.nodes x)
  dyn_bounds_fit bounds x is at =
      let h = types_sound c sound id (type.DynTrait bounds) is in
      bounds_fit bounds x (first_so _ _ (first_so _ _ h.in_range)) h.paths at

  pub method_args_fit : (receiver : ℕ) (name : List ℕ) (args : List ℕ) (x : GenericArgs) → slice_get c.nodes.exprs id ≡ Some (expr.MethodCall receiver name args (Some x)) → IsTrue (args_fit c.nodes x)
  method_args_fit receiver name args x is =
      let h = exprs_sound c sound id (expr.MethodCall receiver name args (Some x)) is in
      let in_range = is_in_range (sizes_of c.nodes) in
      let all : list_all in_range ((e receiver ++ flat_map e args) ++ args_calls x) ≡ true = first_so _ _ (first_so _ _ h.in_range) in
      let paths : list_all (is_path_at c.nodes.types) (args_paths x ++ []) ≡ true = h.paths in
      both c.nodes _ _ (both c.nodes _ _ (all_right in_range (e receiver ++ flat_map e args) (args_calls x) all) (all_left (is_path_at c.nodes.types) (args_paths x) [] paths)) h.gives_self
