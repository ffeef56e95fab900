-- The equations of the calls and the documents of generic arguments and of associated type bindings.
use Rattle.std.proofs.Common.{◌≡◌, List, [], ◌∷◌, ◌++◌, Option, Some, None, refl, ap, ◌∙◌, map, flat_map}
use Rattle.hir_path.specs.declared.path.GenericArgs.{GenericArgs, out-GenericArgs, fold_out-GenericArgs}
use Rattle.hir_path.specs.declared.path.AssociatedTypeBinding.{AssociatedTypeBinding, out-AssociatedTypeBinding, fold_out-AssociatedTypeBinding}
use Rattle.hir_path.specs.declared.path.AssociatedTypeBinding.TheShapes.{former-AssociatedTypeBinding-args}
use Rattle.hir_node.specs.ChildCalls.{Call, bound_calls, arg_calls, args_calls, binding_calls}
use Rattle.hir_node.specs.ChildCalls as calls
use Rattle.hir_pretty_docs.specs.Prelude.{PrintEnv, Doc, opt, comma_joined, name_docs, binding_layer, args_layer, args_docs}
use Rattle.hir_pretty_docs.specs.Prelude.{assoc_docs, each_arg, turbofish, bounds_after, type_after}

opt_of_map : (s : PrintEnv) (o : Option GenericArgs) → opt turbofish
    (former-AssociatedTypeBinding-args.map GenericArgs (List Doc) (args_docs s) o) ≡ opt (λ a. turbofish (args_docs s a)) o
opt_of_map s None = refl
opt_of_map s (Some x) = refl

pub args_docs_is : (s : PrintEnv) (x : GenericArgs) → args_docs s x
    ≡ comma_joined (each_arg s (out-GenericArgs x).has_self_type (out-GenericArgs x).args ++ map (assoc_docs s) (out-GenericArgs x).bindings)
args_docs_is s x = fold_out-GenericArgs (List Doc) (List Doc) (binding_layer s) (args_layer s) x

pub assoc_docs_is : (s : PrintEnv) (x : AssociatedTypeBinding) → assoc_docs s x ≡ name_docs s (out-AssociatedTypeBinding x).name ++ opt (λ a. turbofish (args_docs s a)) (out-AssociatedTypeBinding x).args ++ bounds_after s (out-AssociatedTypeBinding x).bounds ++ type_after (out-AssociatedTypeBinding x).type_ref
assoc_docs_is s x =
    fold_out-AssociatedTypeBinding (List Doc) (List Doc) (binding_layer s) (args_layer s) x
    ∙ ap (λ args. name_docs s (out-AssociatedTypeBinding x).name ++ args ++ bounds_after s (out-AssociatedTypeBinding x).bounds
    ++ type_after (out-AssociatedTypeBinding x).type_ref) (opt_of_map s (out-AssociatedTypeBinding x).args)

-- the calls of a mapped list
calls_of_map : {X : Type 0} (f : X → List Call) (xs : List X) → flat_map (λ (cs : List Call). cs) (map f xs) ≡ flat_map f xs
calls_of_map f [] = refl
calls_of_map f (x ∷ xs) = ap (λ rest. f x ++ rest) (calls_of_map f xs)

opt_calls_of_map : (o : Option GenericArgs) → calls.opt (λ (cs : List Call). cs)
    (former-AssociatedTypeBinding-args.map GenericArgs (List Call) args_calls o) ≡ calls.opt args_calls o
opt_calls_of_map None = refl
opt_calls_of_map (Some x) = refl

pub args_calls_is : (x : GenericArgs) → args_calls x ≡ flat_map arg_calls (out-GenericArgs x).args ++ flat_map binding_calls (out-GenericArgs x).bindings
args_calls_is x =
    fold_out-GenericArgs (List Call) (List Call) calls.binding_layer calls.args_layer x
    ∙ ap (λ rest. flat_map arg_calls (out-GenericArgs x).args ++ rest) (calls_of_map binding_calls (out-GenericArgs x).bindings)

pub binding_calls_is : (x : AssociatedTypeBinding) → binding_calls x ≡ (calls.opt args_calls (out-AssociatedTypeBinding x).args
    ++ calls.opt calls.t (out-AssociatedTypeBinding x).type_ref) ++ flat_map bound_calls (out-AssociatedTypeBinding x).bounds
binding_calls_is x =
    fold_out-AssociatedTypeBinding (List Call) (List Call) calls.binding_layer calls.args_layer x
    ∙ ap (λ first. first ++ calls.opt calls.t (out-AssociatedTypeBinding x).type_ref
    ++ flat_map bound_calls (out-AssociatedTypeBinding x).bounds) (opt_calls_of_map (out-AssociatedTypeBinding x).args)
