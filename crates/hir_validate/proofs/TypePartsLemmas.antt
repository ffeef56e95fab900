-- The equations of what generic arguments name as paths, and of whether they begin with a self type.
use Rattle.std.proofs.Common.{◌≡◌, ℕ, ◌+◌, ◌<◌, ◌≤◌, Bool, true, false, ◌&&◌, List, [], ◌∷◌, ◌++◌, Option, Some, None, zero, suc, refl, ap, sym, ◌∙◌, map, take, length, get_or, subst, arith}
use Rattle.std.specs.List.{flat_map, list_all}
use Rattle.std.proofs.lemmas.Bool.{false≢true}
use Rattle.std.proofs.lemmas.List.{take_all}
use Rattle.std.proofs.lemmas.List.Folds.{list_all-append, list_all_more}
use Rattle.hir_path.specs.declared.path.GenericArgs.{GenericArgs, out-GenericArgs, fold_out-GenericArgs}
use Rattle.hir_path.specs.declared.path.AssociatedTypeBinding.{AssociatedTypeBinding, out-AssociatedTypeBinding, fold_out-AssociatedTypeBinding}
use Rattle.hir_path.specs.declared.path.AssociatedTypeBinding.TheShapes.{former-AssociatedTypeBinding-args}
use Rattle.hir_path.specs.declared.path.Path.{Path}
use Rattle.hir_path.specs.declared.path.Path.TheVariants as path
use Rattle.hir_path.specs.declared.bound.TypeBound.{TypeBound}
use Rattle.hir_validate.specs.internal.TypeParts.{may_have_args, IsFine}
use Rattle.hir_validate.specs.TestedParts.{HeldParts, bound_paths, args_paths, all_of, option_all, args_give_self, self_given, binding_paths_layer, args_paths_layer, binding_self_layer, args_self_layer}
use Rattle.hir_validate.specs.internal.TestedParts.{binding_paths, binding_gives_self}

flat_map_of_map : {X A : Type 0} (f : X → List A) (xs : List X) → flat_map (λ piece. piece) (map f xs) ≡ flat_map f xs
flat_map_of_map f [] = refl
flat_map_of_map f (x ∷ xs) = ap (λ rest. f x ++ rest) (flat_map_of_map f xs)

list_all_of_map : {X : Type 0} (f : X → Bool) (xs : List X) → list_all (λ b. b) (map f xs) ≡ list_all f xs
list_all_of_map f [] = refl
list_all_of_map f (x ∷ xs) = ap (λ rest. f x && rest) (list_all_of_map f xs)

all_of_map : (o : Option GenericArgs) → all_of (λ ids. ids) (former-AssociatedTypeBinding-args.map GenericArgs (List ℕ) args_paths o) ≡ all_of args_paths o
all_of_map None = refl
all_of_map (Some x) = refl

option_all_map : (o : Option GenericArgs) → option_all (λ b. b) (former-AssociatedTypeBinding-args.map GenericArgs Bool args_give_self o) ≡ option_all args_give_self o
option_all_map None = refl
option_all_map (Some x) = refl

pub args_paths_is : (x : GenericArgs) → args_paths x ≡ flat_map binding_paths (out-GenericArgs x).bindings
args_paths_is x =
    fold_out-GenericArgs (List ℕ) (List ℕ) binding_paths_layer args_paths_layer x
    ∙ flat_map_of_map binding_paths (out-GenericArgs x).bindings

pub binding_paths_is : (x : AssociatedTypeBinding) → binding_paths x ≡ all_of args_paths (out-AssociatedTypeBinding x).args ++ flat_map bound_paths (out-AssociatedTypeBinding x).bounds
binding_paths_is x =
    fold_out-AssociatedTypeBinding (List ℕ) (List ℕ) binding_paths_layer args_paths_layer x
    ∙ ap (λ first. first ++ flat_map bound_paths (out-AssociatedTypeBinding x).bounds) (all_of_map (out-AssociatedTypeBinding x).args)

pub args_give_self_is : (x : GenericArgs) → args_give_self x ≡ (self_given (out-GenericArgs x).has_self_type (out-GenericArgs x).args && list_all binding_gives_self (out-GenericArgs x).bindings)
args_give_self_is x =
    fold_out-GenericArgs Bool Bool binding_self_layer args_self_layer x
    ∙ ap (λ rest. self_given (out-GenericArgs x).has_self_type (out-GenericArgs x).args && rest) (list_all_of_map binding_gives_self (out-GenericArgs x).bindings)

pub binding_gives_self_is : (x : AssociatedTypeBinding) → binding_gives_self x ≡ option_all args_give_self (out-AssociatedTypeBinding x).args
binding_gives_self_is x =
    fold_out-AssociatedTypeBinding Bool Bool binding_self_layer args_self_layer x
    ∙ option_all_map (out-AssociatedTypeBinding x).args

-- a test of all that is in lists is one of each list
pub list_all-flat_map : {X A : Type 0} (p : A → Bool) (f : X → List A) (xs : List X) → list_all p (flat_map f xs) ≡ list_all (λ x. list_all p (f x)) xs
list_all-flat_map p f [] = refl
list_all-flat_map p f (x ∷ xs) = list_all-append p (f x) (flat_map f xs) ∙ ap (λ rest. list_all p (f x) && rest) (list_all-flat_map p f xs)

and_false : (b : Bool) → false ≡ (b && false)
and_false false = refl
and_false true = refl

-- a test of all stops at an item that fails
pub all_stops : {X : Type 0} (p : X → Bool) (xs : List X) (i : ℕ) (x : X) → i < length xs → x ≡ get_or xs i x → p x ≡ false → false ≡ list_all p xs
all_stops p [] i x lt is h = absurd (omega arith)
all_stops p (y ∷ ys) zero x lt is h = sym (ap (λ b. b && list_all p ys) (ap p (sym is) ∙ h))
all_stops p (y ∷ ys) (suc i) x lt is h = and_false (p y) ∙ ap (λ rest. p y && rest) (all_stops p ys i x (omega arith) is h)

-- if a prefix and the next item pass the test, the longer prefix passes it
pub all_more : {X : Type 0} (p : X → Bool) (xs : List X) (i : ℕ) (x : X) → i < length xs → x ≡ get_or xs i x → list_all p (take i xs) ≡ true → p x ≡ true → list_all p (take (i + 1) xs) ≡ true
all_more p xs i x lt is h k = list_all_more p xs i x lt ∙ (rw (h, ← is) k)

pub all_done : {X : Type 0} (p : X → Bool) (xs : List X) (i : ℕ) → length xs ≤ i → list_all p (take i xs) ≡ true → true ≡ list_all p xs
all_done p xs i le h = sym (rw (take_all i xs le) at h)

-- where there are no generic arguments and no bounds, nothing can be at fault
path_is_fine : (p : Option Path) → may_have_args p ≡ false → IsFine record { path = p; args = None; bounds = [] }
path_is_fine None h = record { paths = λ types. refl; gives_self = refl; lists_fit = refl }
path_is_fine (Some (path.BarePath mod_path)) h = record { paths = λ types. refl; gives_self = refl; lists_fit = refl }
path_is_fine (Some (path.Normal normal)) h = absurd (false≢true (sym h))
path_is_fine (Some (path.LangItem target name)) h = record { paths = λ types. refl; gives_self = refl; lists_fit = refl }

pub plain_is_fine : (h : HeldParts) → may_have_args h.path ≡ false → h.args ≡ None → h.bounds ≡ [] → IsFine h
plain_is_fine h p a b =
    subst (λ (args : Option GenericArgs). IsFine record { path = h.path; args = args; bounds = h.bounds }) (sym a)
    (subst (λ (bounds : List TypeBound). IsFine record { path = h.path; args = None; bounds = bounds }) (sym b) (path_is_fine h.path p))
