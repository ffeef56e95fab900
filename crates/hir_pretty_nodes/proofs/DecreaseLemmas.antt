-- What is printed inside a node has a lower rank than the node.
use Rattle.std.proofs.Common.{◌≡◌, ℕ, zero, suc, Bool, true, false, List, [], ◌∷◌, ◌++◌, map, take, drop, codes, Option, Some}
use Rattle.std.proofs.Common.{None, refl, sym, ap, ◌∙◌, subst, arith, slice_get, Contains, Result, Ok, Err, flat_map}
use Rattle.std.specs.Prelude.{⊤}
use Rattle.hir_path.specs.declared.{bound.TypeBound.TypeBound, bound.TraitBoundModifier.TraitBoundModifier}
use Rattle.hir_path.specs.declared.{bound.UseArgRef.UseArgRef, path.GenericArg.GenericArg}
use Rattle.hir_path.specs.declared.{path.AssociatedTypeBinding.TheShapes.former-AssociatedTypeBinding-args}
use Rattle.hir_path.specs.declared.path.GenericArgs.{GenericArgs, GenericArgs-F, out-GenericArgs, roll-GenericArgs, out-roll-GenericArgs, ind-GenericArgs}
use Rattle.hir_path.specs.declared.path.AssociatedTypeBinding.{AssociatedTypeBinding, AssociatedTypeBinding-F}
use Rattle.hir_path.specs.declared.path.AssociatedTypeBinding.{out-AssociatedTypeBinding, roll-AssociatedTypeBinding}
use Rattle.hir_path.specs.declared.path.AssociatedTypeBinding.{out-roll-AssociatedTypeBinding}
use Rattle.hir_path.specs.declared.bound.TypeBound.TheVariants as bound
use Rattle.hir_path.specs.declared.bound.TraitBoundModifier.TheVariants as modifier
use Rattle.hir_path.specs.declared.bound.UseArgRef.TheVariants as use_arg
use Rattle.hir_path.specs.declared.path.GenericArg.TheVariants as arg
use Rattle.hir_node.specs.ChildCalls.{Call, OnExpr, OnAnonConst, OnPat, OnType, OnLifetime, children, bound_calls, use_calls, arg_calls, args_calls, binding_calls}
use Rattle.hir_node.specs.declared.type_ref.LifetimeRef.{LifetimeRef}
use Rattle.hir_node.specs.ChildCalls as calls
use Rattle.hir_pretty_nodes.specs.Prelude.{NodeId, Missing, PrintEnv, Doc, Put, text, t, opt, join, comma_joined, name_parts}
use Rattle.hir_pretty_nodes.specs.Prelude.{name_docs, l, lifetime_docs, param_docs, for_names, modifier_docs, use_docs}
use Rattle.hir_pretty_nodes.specs.Prelude.{bound_docs, bounds_docs, bounds_after, arg_docs, each_arg, turbofish, args_docs}
use Rattle.hir_pretty_nodes.specs.Prelude.{assoc_docs, type_after, AllNodes}
use Rattle.hir_node.specs.declared.node_id.NodeId.TheVariants as node
use Rattle.hir_node.specs.declared.type_ref.LifetimeRef.TheVariants as lifetime
use Rattle.hir_pretty_layout.specs.Layouts.{Layout}
use Rattle.hir_pretty_nodes.proofs.StepLemmas.{nodes_append}
use Rattle.hir_pretty_docs.proofs.ArgsDocs.{args_docs_is, assoc_docs_is, args_calls_is, binding_calls_is}

-- each node among these calls is such
abbrev pub AllCalls : (NodeId → Type 0) → List Call → Type 0
AllCalls P [] = ⊤
AllCalls P (OnExpr id ∷ cs) = P (node.Expr id) × AllCalls P cs
AllCalls P (OnAnonConst id ∷ cs) = P (node.Expr id) × AllCalls P cs
AllCalls P (OnPat id ∷ cs) = P (node.Pat id) × AllCalls P cs
AllCalls P (OnType id ∷ cs) = P (node.TypeRef id) × AllCalls P cs
AllCalls P (OnLifetime id ∷ cs) = AllCalls P cs

abbrev pub AllLists : (NodeId → Type 0) → List (List Doc) → Type 0
AllLists P [] = ⊤
AllLists P (x ∷ xs) = AllNodes P x × AllLists P xs

pub all_of_children : (P : NodeId → Type 0) (cs : List Call) → ((k : NodeId) → Contains (children cs) k → P k) → AllCalls P cs
all_of_children P [] h = tt
all_of_children P (OnExpr id ∷ cs) h = (h (node.Expr id) (0, omega arith, refl), all_of_children P cs (λ k c. h k (suc c.0, omega (arith, c.1), c.2)))
all_of_children P (OnAnonConst id ∷ cs) h = (h (node.Expr id) (0, omega arith, refl), all_of_children P cs (λ k c. h k (suc c.0, omega (arith, c.1), c.2)))
all_of_children P (OnPat id ∷ cs) h = (h (node.Pat id) (0, omega arith, refl), all_of_children P cs (λ k c. h k (suc c.0, omega (arith, c.1), c.2)))
all_of_children P (OnType id ∷ cs) h = (h (node.TypeRef id) (0, omega arith, refl), all_of_children P cs (λ k c. h k (suc c.0, omega (arith, c.1), c.2)))
all_of_children P (OnLifetime id ∷ cs) h = all_of_children P cs h

module _ (P : NodeId → Type 0) where
  pub first_calls : (xs ys : List Call) → AllCalls P (xs ++ ys) → AllCalls P xs
  first_calls [] ys a = tt
  first_calls (OnExpr id ∷ xs) ys a = (a.0, first_calls xs ys a.1)
  first_calls (OnAnonConst id ∷ xs) ys a = (a.0, first_calls xs ys a.1)
  first_calls (OnPat id ∷ xs) ys a = (a.0, first_calls xs ys a.1)
  first_calls (OnType id ∷ xs) ys a = (a.0, first_calls xs ys a.1)
  first_calls (OnLifetime id ∷ xs) ys a = first_calls xs ys a

  pub last_calls : (xs ys : List Call) → AllCalls P (xs ++ ys) → AllCalls P ys
  last_calls [] ys a = a
  last_calls (OnExpr id ∷ xs) ys a = last_calls xs ys a.1
  last_calls (OnAnonConst id ∷ xs) ys a = last_calls xs ys a.1
  last_calls (OnPat id ∷ xs) ys a = last_calls xs ys a.1
  last_calls (OnType id ∷ xs) ys a = last_calls xs ys a.1
  last_calls (OnLifetime id ∷ xs) ys a = last_calls xs ys a

  -- each member of a list
  pub each_falls : {X : Type 0} (cs : X → List Call) (is : X → List Doc) → ((x : X) → AllCalls P (cs x) → AllNodes P (is x))
      → (xs : List X) → AllCalls P (flat_map cs xs) → AllNodes P (flat_map is xs)
  each_falls cs is h [] a = tt
  each_falls cs is h (x ∷ xs) a = nodes_append P (is x) (flat_map is xs) (h x (first_calls (cs x) (flat_map cs xs) a))
      (each_falls cs is h xs (last_calls (cs x) (flat_map cs xs) a))

  pub map_falls : {X : Type 0} (cs : X → List Call) (is : X → List Doc) → ((x : X) → AllCalls P (cs x) → AllNodes P (is x))
      → (xs : List X) → AllCalls P (flat_map cs xs) → AllLists P (map is xs)
  map_falls cs is h [] a = tt
  map_falls cs is h (x ∷ xs) a = (h x (first_calls (cs x) (flat_map cs xs) a), map_falls cs is h xs (last_calls (cs x) (flat_map cs xs) a))

  pub opt_falls : {X : Type 0} (cs : X → List Call) (is : X → List Doc) → ((x : X) → AllCalls P (cs x) → AllNodes P (is x))
      → (o : Option X) → AllCalls P (calls.opt cs o) → AllNodes P (opt is o)
  opt_falls cs is h None a = tt
  opt_falls cs is h (Some x) a = h x a

  pub joined_falls : (between : List Doc) → AllNodes P between → (xs : List (List Doc)) → AllLists P xs → AllNodes P (join between xs)
  joined_falls between b [] a = tt
  joined_falls between b (x ∷ []) a = a.0
  joined_falls between b (x ∷ y ∷ xs) a = nodes_append P (x ++ between) (join between (y ∷ xs)) (nodes_append P x between a.0 b) (joined_falls between b (y ∷ xs) a.1)

  pub lists_append : (xs ys : List (List Doc)) → AllLists P xs → AllLists P ys → AllLists P (xs ++ ys)
  lists_append [] ys a b = b
  lists_append (x ∷ xs) ys a b = (a.0, lists_append xs ys a.1 b)

  pub lists_take : (n : ℕ) (xs : List (List Doc)) → AllLists P xs → AllLists P (take n xs)
  lists_take zero xs a = tt
  lists_take (suc n) [] a = tt
  lists_take (suc n) (x ∷ xs) a = (a.0, lists_take n xs a.1)

  pub lists_drop : (n : ℕ) (xs : List (List Doc)) → AllLists P xs → AllLists P (drop n xs)
  lists_drop zero xs a = a
  lists_drop (suc n) [] a = tt
  lists_drop (suc n) (x ∷ xs) a = lists_drop n xs a.1

  -- names, lifetimes and definitions outside have no node
  pub texts_fall : (parts : List (List ℕ)) → AllNodes P (flat_map text parts)
  texts_fall [] = tt
  texts_fall (part ∷ parts) = texts_fall parts

  pub name_falls : (s : PrintEnv) (name : List ℕ) → AllNodes P (name_docs s name)
  name_falls s name = texts_fall (name_parts s.words name)

  pub names_fall : (s : PrintEnv) (names : List (List ℕ)) → AllLists P (map (name_docs s) names)
  names_fall s [] = tt
  names_fall s (name ∷ names) = (name_falls s name, names_fall s names)

  pub puts_fall : (ps : List Layout) → AllNodes P (map Put ps)
  puts_fall [] = tt
  puts_fall (piece ∷ ps) = puts_fall ps

  pub none_falls : {X : Type 0} (is : X → List Doc) → ((x : X) → AllNodes P (is x)) → (o : Option X) → AllNodes P (opt is o)
  none_falls is h None = tt
  none_falls is h (Some x) = h x

  param_falls : (s : PrintEnv) (found : Result (List ℕ) Missing) → AllNodes P (param_docs s found)
  param_falls s (Ok name) = name_falls s name
  param_falls s (Err missing) = tt

  lifetime_doc_falls : (s : PrintEnv) (x : LifetimeRef) → AllNodes P (lifetime_docs s x)
  lifetime_doc_falls s (lifetime.Named name) = name_falls s name
  lifetime_doc_falls s (lifetime.Param id) = param_falls s (s.tables.lifetime_param id)
  lifetime_doc_falls s x = tt

  pub lifetime_falls : (s : PrintEnv) (id : ℕ) → AllNodes P (l s id)
  lifetime_falls s id = none_falls (lifetime_docs s) (lifetime_doc_falls s) (slice_get s.nodes.lifetimes id)

  -- bounds
  pub for_falls : (s : PrintEnv) (names : List (List ℕ)) → AllNodes P (for_names s names)
  for_falls s names = nodes_append P (comma_joined (map (name_docs s) names)) (text (codes "> "))
      (joined_falls (text (codes ", ")) tt (map (name_docs s) names) (names_fall s names)) tt

  use_falls : (s : PrintEnv) (x : UseArgRef) → AllCalls P (use_calls x) → AllNodes P (use_docs s x)
  use_falls s (use_arg.Name name) a = name_falls s name
  use_falls s (use_arg.Lifetime id) a = lifetime_falls s id

  modified_falls : (m : TraitBoundModifier) (id : ℕ) → P (node.TypeRef id) → AllNodes P (modifier_docs m ++ t id)
  modified_falls modifier.None id a = (a, tt)
  modified_falls modifier.Maybe id a = (a, tt)

  bound_falls : (s : PrintEnv) (x : TypeBound) → AllCalls P (bound_calls x) → AllNodes P (bound_docs s x)
  bound_falls s (bound.Path id m) a = modified_falls m id a.0
  bound_falls s (bound.ForLifetime names id) a = nodes_append P (for_names s names) (t id) (for_falls s names) a
  bound_falls s (bound.Lifetime id) a = lifetime_falls s id
  bound_falls s (bound.Use args) a = nodes_append P (comma_joined (map (use_docs s) args)) (text (codes ">"))
      (joined_falls (text (codes ", ")) tt (map (use_docs s) args) (map_falls use_calls (use_docs s) (use_falls s) args a)) tt
  bound_falls s bound.Error a = tt

  pub bounds_fall : (s : PrintEnv) (xs : List TypeBound) → AllCalls P (flat_map bound_calls xs) → AllNodes P (bounds_docs s xs)
  bounds_fall s xs a = joined_falls (text (codes " + ")) tt (map (bound_docs s) xs) (map_falls bound_calls (bound_docs s) (bound_falls s) xs a)

  bounds_after_fall : (s : PrintEnv) (xs : List TypeBound) → AllCalls P (flat_map bound_calls xs) → AllNodes P (bounds_after s xs)
  bounds_after_fall s [] a = tt
  bounds_after_fall s (x ∷ xs) a = bounds_fall s (x ∷ xs) a

  -- generic arguments
  arg_falls : (s : PrintEnv) (x : GenericArg) → AllCalls P (arg_calls x) → AllNodes P (arg_docs s x)
  arg_falls s (arg.Ty id) a = a
  arg_falls s (arg.Lifetime id) a = lifetime_falls s id
  arg_falls s (arg.Const constant) a = a

  each_arg_falls : (s : PrintEnv) (self : Bool) (xs : List GenericArg) → AllCalls P (flat_map arg_calls xs) → AllLists P (each_arg s self xs)
  each_arg_falls s self [] a = tt
  each_arg_falls s true (x ∷ xs) a = (
    arg_falls s x (first_calls (arg_calls x) (flat_map arg_calls xs) a),
    map_falls arg_calls
        (arg_docs s) (arg_falls s) xs (last_calls (arg_calls x) (flat_map arg_calls xs) a),
  )
  each_arg_falls s false (x ∷ xs) a = (
    arg_falls s x (first_calls (arg_calls x) (flat_map arg_calls xs) a),
    map_falls arg_calls
        (arg_docs s) (arg_falls s) xs (last_calls (arg_calls x) (flat_map arg_calls xs) a),
  )

  turbofish_falls : (args : List Doc) → AllNodes P args → AllNodes P (turbofish args)
  turbofish_falls args a = nodes_append P args (text (codes ">")) a tt

  module _ (s : PrintEnv) where
    abbrev args_fall : GenericArgs → Type 0
    args_fall x = AllCalls P (args_calls x) → AllNodes P (args_docs s x)

    abbrev assoc_falls : AssociatedTypeBinding → Type 0
    assoc_falls x = AllCalls P (binding_calls x) → AllNodes P (assoc_docs s x)

    held_fall : (xs : List ((x : AssociatedTypeBinding) × assoc_falls x)) → AllCalls P (flat_map binding_calls (map (λ x. x.0) xs))
        → AllLists P (map (assoc_docs s) (map (λ x. x.0) xs))
    held_fall [] a = tt
    held_fall (x ∷ xs) a = (
      x.1 (first_calls (binding_calls x.0) (flat_map binding_calls (map (λ x. x.0) xs)) a),
      held_fall xs
          (last_calls (binding_calls x.0) (flat_map binding_calls (map (λ x. x.0) xs)) a),
    )

    abbrev option_held : Option ((x : GenericArgs) × args_fall x) → Option GenericArgs
    option_held None = None
    option_held (Some x) = Some x.0

    held_option_falls : (o : Option ((x : GenericArgs) × args_fall x)) → AllCalls P (calls.opt args_calls (option_held o))
        → AllNodes P (opt (λ a. turbofish (args_docs s a)) (option_held o))
    held_option_falls None a = tt
    held_option_falls (Some x) a = turbofish_falls (args_docs s x.0) (x.1 a)

    option_map_held : (o : Option ((x : GenericArgs) × args_fall x))
        → former-AssociatedTypeBinding-args.map ((x : GenericArgs) × args_fall x) GenericArgs (λ e. e.0) o ≡ option_held o
    option_map_held None = refl
    option_map_held (Some x) = refl

    type_after_falls : (o : Option ℕ) → AllCalls P (calls.opt calls.t o) → AllNodes P (type_after o)
    type_after_falls None a = tt
    type_after_falls (Some id) a = a

    assoc_made : (x : AssociatedTypeBinding-F AssociatedTypeBinding GenericArgs) (inner : Option ((x : GenericArgs) × args_fall x))
        → option_held inner ≡ x.args → assoc_falls (roll-AssociatedTypeBinding x)
    assoc_made x inner h a =
        let made = roll-AssociatedTypeBinding x in
        let o = out-AssociatedTypeBinding made in
        let args = calls.opt args_calls o.args in
        let type = calls.opt calls.t o.type_ref in
        let bounds = flat_map bound_calls o.bounds in
        let all : AllCalls P ((args ++ type) ++ bounds) = subst (AllCalls P) (binding_calls_is made) a in
        let of_args : AllCalls P args = first_calls args type (first_calls (args ++ type) bounds all) in
        let of_type : AllCalls P type = last_calls args type (first_calls (args ++ type) bounds all) in
        let of_bounds : AllCalls P bounds = last_calls (args ++ type) bounds all in
        let is : option_held inner ≡ o.args = h ∙ ap (λ u. u.args) (sym (out-roll-AssociatedTypeBinding x)) in
        let name = name_docs s o.name in
        let turbo = opt (λ a. turbofish (args_docs s a)) o.args in
        let fish : AllNodes P turbo = subst (λ (u : Option GenericArgs). AllCalls P (calls.opt args_calls u)
        → AllNodes P (opt (λ a. turbofish (args_docs s a)) u)) is (held_option_falls inner) of_args in
        subst (AllNodes P) (sym (assoc_docs_is s made)) (nodes_append P ((name ++ turbo) ++ bounds_after s o.bounds) (type_after o.type_ref)
        (nodes_append P (name ++ turbo) (bounds_after s o.bounds) (nodes_append P name turbo (name_falls s o.name) fish) (bounds_after_fall s o.bounds of_bounds))
        (type_after_falls o.type_ref of_type))

    args_made : (x : GenericArgs-F AssociatedTypeBinding GenericArgs) (inner : List ((x : AssociatedTypeBinding) × assoc_falls x))
        → map (λ x. x.0) inner ≡ x.bindings → args_fall (roll-GenericArgs x)
    args_made x inner h a =
        let made = roll-GenericArgs x in
        let o = out-GenericArgs made in
        let args = flat_map arg_calls o.args in
        let bindings = flat_map binding_calls o.bindings in
        let all : AllCalls P (args ++ bindings) = subst (AllCalls P) (args_calls_is made) a in
        let is : map (λ x. x.0) inner ≡ o.bindings = h ∙ ap (λ u. u.bindings) (sym (out-roll-GenericArgs x)) in
        let of_bindings : AllLists P (map (assoc_docs s) o.bindings) = subst (λ (u : List AssociatedTypeBinding). AllCalls P
        (flat_map binding_calls u) → AllLists P (map (assoc_docs s) u)) is (held_fall inner) (last_calls args bindings all) in
        let lists = each_arg s o.has_self_type o.args ++ map (assoc_docs s) o.bindings in
        subst (AllNodes P) (sym (args_docs_is s made)) (joined_falls (text (codes ", ")) tt lists
        (lists_append (each_arg s o.has_self_type o.args) (map (assoc_docs s) o.bindings)
        (each_arg_falls s o.has_self_type o.args (first_calls args bindings all)) of_bindings))

    pub args_falls : (x : GenericArgs) → args_fall x
    args_falls =
        ind-GenericArgs assoc_falls args_fall
        (λ x y h. assoc_made x y.args (sym (option_map_held y.args) ∙ ap (λ u. u.args) h))
        (λ x y h. args_made x y.bindings (ap (λ u. u.bindings) h))

    pub generic_args_fall : (o : Option GenericArgs) → AllCalls P (calls.opt args_calls o) → AllNodes P (opt (λ a. turbofish (args_docs s a)) o)
    generic_args_fall None a = tt
    generic_args_fall (Some x) a = turbofish_falls (args_docs s x) (args_falls x a)
