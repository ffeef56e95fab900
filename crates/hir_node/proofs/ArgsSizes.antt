-- How many lists of arguments and bindings stand in generic arguments: the measure of what recurses on them.
use Rattle.std.proofs.Common.{◌≡◌, ℕ, ◌+◌, ◌<◌, List, [], ◌∷◌, Option, Some, None, length, get_or, map, refl, ap, ◌∙◌, arith}
use Rattle.std.specs.List.{sum_by}
use Rattle.std.proofs.lemmas.List.Sums.{get_or-le-sum_by, sum_by-cons}
use Rattle.hir_path.specs.declared.path.GenericArgs.{GenericArgs, GenericArgs-F, fold-GenericArgs, out-GenericArgs, fold_out-GenericArgs}
use Rattle.hir_path.specs.declared.path.AssociatedTypeBinding.{AssociatedTypeBinding, AssociatedTypeBinding-F, fold-AssociatedTypeBinding, out-AssociatedTypeBinding, fold_out-AssociatedTypeBinding}
use Rattle.hir_path.specs.declared.path.AssociatedTypeBinding.TheShapes.{former-AssociatedTypeBinding-args}

-- of arguments that may be absent, one more than their size
abbrev option_size : Option ℕ → ℕ
option_size None = 0
option_size (Some n) = n + 1

abbrev binding_size_layer : AssociatedTypeBinding-F ℕ ℕ → ℕ
binding_size_layer b = option_size b.args + 1

abbrev args_size_layer : GenericArgs-F ℕ ℕ → ℕ
args_size_layer x = sum_by (λ n. n) x.bindings + 2

pub args_size : GenericArgs → ℕ
args_size = fold-GenericArgs ℕ ℕ binding_size_layer args_size_layer

pub binding_size : AssociatedTypeBinding → ℕ
binding_size = fold-AssociatedTypeBinding ℕ ℕ binding_size_layer args_size_layer

sum_by_of_map : {X : Type 0} (f : X → ℕ) (xs : List X) → sum_by (λ n. n) (map f xs) ≡ sum_by f xs
sum_by_of_map f [] = refl
sum_by_of_map f (x ∷ xs) = rw (sum_by-cons f x xs, sum_by-cons (λ n. n) (f x) (map f xs)) (ap (λ n. f x + n) (sum_by_of_map f xs))

args_size_is : (x : GenericArgs) → args_size x ≡ sum_by binding_size (out-GenericArgs x).bindings + 2
unfolding args_size binding_size
args_size_is x =
    fold_out-GenericArgs ℕ ℕ binding_size_layer args_size_layer x
    ∙ ap (λ n. n + 2) (sum_by_of_map binding_size (out-GenericArgs x).bindings)

-- the list of bindings is smaller than the arguments
pub bindings_smaller : (x : GenericArgs) → sum_by binding_size (out-GenericArgs x).bindings + 1 < args_size x
bindings_smaller x = omega (arith, args_size_is x)

-- a binding is smaller than a list that it is in
pub binding_smaller : (bindings : List AssociatedTypeBinding) (i : ℕ) (d : AssociatedTypeBinding) → i < length bindings → binding_size (get_or bindings i d) < sum_by binding_size bindings + 1
binding_smaller bindings i d lt = omega (arith, get_or-le-sum_by binding_size bindings i d lt)

-- that of arguments that may be absent
abbrev pub opt_size : Option GenericArgs → ℕ
opt_size None = 0
opt_size (Some x) = args_size x + 1

option_size_of_map : (o : Option GenericArgs) → option_size (former-AssociatedTypeBinding-args.map GenericArgs ℕ args_size o) ≡ opt_size o
option_size_of_map None = refl
option_size_of_map (Some x) = refl

-- the arguments of a binding are smaller than the binding
pub args_smaller : (b : AssociatedTypeBinding) → opt_size (out-AssociatedTypeBinding b).args < binding_size b
unfolding args_size binding_size
args_smaller b =
    let whole = fold_out-AssociatedTypeBinding ℕ ℕ binding_size_layer args_size_layer b in
    omega (arith, whole, option_size_of_map (out-AssociatedTypeBinding b).args)
