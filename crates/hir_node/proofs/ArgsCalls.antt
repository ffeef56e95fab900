-- The equations of the child calls of generic arguments and of associated type bindings.
use Rattle.std.proofs.Common.{◌≡◌, List, [], ◌∷◌, ◌++◌, Option, Some, None, refl, ap, ◌∙◌, map}
use Rattle.std.specs.List.{flat_map}
use Rattle.hir_node.specs.ChildCalls.{Call, t, opt, bound_calls, arg_calls, args_calls, binding_calls, binding_layer, args_layer}
use Rattle.hir_path.specs.declared.path.GenericArgs.{GenericArgs, out-GenericArgs, fold_out-GenericArgs}
use Rattle.hir_path.specs.declared.path.AssociatedTypeBinding.{AssociatedTypeBinding, out-AssociatedTypeBinding, fold_out-AssociatedTypeBinding}
use Rattle.hir_path.specs.declared.path.AssociatedTypeBinding.TheShapes.{former-AssociatedTypeBinding-args}

-- the pieces of a mapped list
flat_map_of_map : {X : Type 0} (f : X → List Call) (xs : List X) → flat_map (λ piece. piece) (map f xs) ≡ flat_map f xs
flat_map_of_map f [] = refl
flat_map_of_map f (x ∷ xs) = ap (λ rest. f x ++ rest) (flat_map_of_map f xs)

opt_of_map : (o : Option GenericArgs) → opt (λ calls. calls) (former-AssociatedTypeBinding-args.map GenericArgs (List Call) args_calls o) ≡ opt args_calls o
opt_of_map None = refl
opt_of_map (Some x) = refl

pub args_calls_is : (x : GenericArgs) → args_calls x ≡ flat_map arg_calls (out-GenericArgs x).args ++ flat_map binding_calls (out-GenericArgs x).bindings
args_calls_is x =
    fold_out-GenericArgs (List Call) (List Call) binding_layer args_layer x
    ∙ ap (λ rest. flat_map arg_calls (out-GenericArgs x).args ++ rest) (flat_map_of_map binding_calls (out-GenericArgs x).bindings)

pub binding_calls_is : (x : AssociatedTypeBinding) → binding_calls x ≡ opt args_calls (out-AssociatedTypeBinding x).args ++ opt t (out-AssociatedTypeBinding x).type_ref ++ flat_map bound_calls (out-AssociatedTypeBinding x).bounds
binding_calls_is x =
    fold_out-AssociatedTypeBinding (List Call) (List Call) binding_layer args_layer x
    ∙ ap (λ first. first ++ opt t (out-AssociatedTypeBinding x).type_ref ++ flat_map bound_calls (out-AssociatedTypeBinding x).bounds) (opt_of_map (out-AssociatedTypeBinding x).args)
