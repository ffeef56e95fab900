-- That `==` of generic arguments decides whether they are the same: by induction, since they lead back to
-- themselves.
use Rattle.std.specs.Prelude.{◌≡◌, ℕ, List, [], ◌∷◌, Bool, Option, Some, None, map, eqb}
use Rattle.std.proofs.Common.{refl, ap, sym, ◌∙◌, subst}
use Rattle.std.specs.Bool.{Decides}
use Rattle.hir_path.specs.same.Fields.{and_decides}
use Rattle.std.specs.Option.{option_eq}
use Rattle.hir_path.specs.declared.path.AssociatedTypeBinding.TheShapes.{former-AssociatedTypeBinding-args}
use Rattle.std.specs.Cmp.Lexicographic.{pointwise, pointwise_decides, bytes_decides}
use Rattle.hir_collections.specs.Exact.{exact}
use Rattle.hir_path.specs.declared.path.GenericArg.{GenericArg}
use Rattle.hir_path.specs.declared.bound.TypeBound.{TypeBound}
use Rattle.hir_path.specs.declared.path.GenericArgsParentheses.{GenericArgsParentheses}
use Rattle.hir_path.specs.contracts.bound.TypeBoundPartialEq.TheImpl as bound
use Rattle.hir_path.specs.contracts.path.GenericArgsParenthesesPartialEq.TheImpl as parentheses
use Rattle.std.specs.contracts.prelude.BoolPartialEq.TheImpl as flag
use Rattle.hir_path.specs.contracts.path.GenericArgPartialEq.TheImpl as generic_arg
use Rattle.hir_path.specs.declared.path.GenericArgs.{GenericArgs, GenericArgs-F, out-GenericArgs, roll-GenericArgs, out-roll-GenericArgs, roll-out-GenericArgs, ind-GenericArgs}
use Rattle.hir_path.specs.declared.path.AssociatedTypeBinding.{AssociatedTypeBinding, AssociatedTypeBinding-F, out-AssociatedTypeBinding, roll-AssociatedTypeBinding, out-roll-AssociatedTypeBinding, roll-out-AssociatedTypeBinding, ind-AssociatedTypeBinding}
use Rattle.hir_path.specs.contracts.path.GenericArgsPartialEq.TheImpl as args
use Rattle.hir_path.specs.contracts.path.GenericArgsPartialEq.TheImpl.Laws as args_laws
use Rattle.hir_path.specs.contracts.path.AssociatedTypeBindingPartialEq.TheImpl as binding
use Rattle.hir_path.specs.contracts.path.AssociatedTypeBindingPartialEq.TheImpl.Laws as binding_laws

-- x, with a test that decides for each y whether it is x
abbrev WithTest : {X : Type 0} → (X → X → Bool) → Type 0
WithTest {X} E = (x : X) × ((y : X) → Decides (E x y) (x ≡ y))

abbrev without_tests : {X : Type 0} {E : X → X → Bool} → List (WithTest E) → List X
without_tests xs = map (λ e. e.0) xs

list_decides : {X : Type 0} (E : X → X → Bool) (xs : List (WithTest E)) (ys : List X)
    → Decides (pointwise E (without_tests xs) ys) (without_tests xs ≡ ys)
list_decides E [] [] = (λ h. refl, λ e. refl)
list_decides E [] (y ∷ ys) = (λ h. absurd (cc), λ e. absurd (cc))
list_decides E (x ∷ xs) [] = (λ h. absurd (cc), λ e. absurd (cc))
list_decides E (x ∷ xs) (y ∷ ys) =
    and_decides _ _ (x.1 y) (list_decides E xs ys) (λ p q i. p i ∷ q i) (λ e. cc) (λ e. cc)

abbrev option_told : {X : Type 0} {E : X → X → Bool} → Option (WithTest E) → Option X
option_told None = None
option_told (Some x) = Some x.0

option_decides : {X : Type 0} (E : X → X → Bool) (o : Option (WithTest E)) (p : Option X)
    → Decides (option_eq E (option_told o) p) (option_told o ≡ p)
option_decides E None None = (λ h. refl, λ e. refl)
option_decides E None (Some y) = (λ h. absurd (cc), λ e. absurd (cc))
option_decides E (Some x) None = (λ h. absurd (cc), λ e. absurd (cc))
option_decides E (Some x) (Some y) = (λ h i. Some ((x.1 y).0 h i), λ e. (x.1 y).1 (cc))

generic_args_decide : (xs ys : List GenericArg) → Decides (pointwise generic_arg.ghosts.eq xs ys) (xs ≡ ys)
generic_args_decide = pointwise_decides (λ x y. search exact)

bounds_decide : (xs ys : List TypeBound) → Decides (pointwise bound.ghosts.eq xs ys) (xs ≡ ys)
bounds_decide = pointwise_decides (λ x y. search exact)

parentheses_decide : (x y : GenericArgsParentheses) → Decides (parentheses.ghosts.eq x y) (x ≡ y)
parentheses_decide x y = search exact

flags_decide : (x y : Bool) → Decides (flag.ghosts.eq x y) (x ≡ y)
flags_decide x y = search exact

same_args : (x y : GenericArgs-F AssociatedTypeBinding GenericArgs) → x.args ≡ y.args
    → x.has_self_type ≡ y.has_self_type → x.bindings ≡ y.bindings → x.parenthesized ≡ y.parenthesized → x ≡ y
same_args x y a h b p = λ i. record { args = a i; has_self_type = h i; bindings = b i; parenthesized = p i }

opened_args : (x y : GenericArgs) → out-GenericArgs x ≡ out-GenericArgs y → x ≡ y
opened_args x y e = sym (roll-out-GenericArgs x) ∙ ap roll-GenericArgs e ∙ roll-out-GenericArgs y

-- generic arguments, where a test decides whether their bindings are the same
args_step : (x y : GenericArgs) → Decides (pointwise binding.ghosts.eq (out-GenericArgs x).bindings
    (out-GenericArgs y).bindings) ((out-GenericArgs x).bindings ≡ (out-GenericArgs y).bindings)
    → Decides (args.ghosts.eq x y) (x ≡ y)
args_step x y bindings =
    let u = out-GenericArgs x in
    let v = out-GenericArgs y in
    let flags = flags_decide u.has_self_type v.has_self_type in
    let lists = generic_args_decide u.args v.args in
    let marks = parentheses_decide u.parenthesized v.parenthesized in
    let shown : Decides (args_laws.unfolded x y) (x ≡ y) =
    and_decides _ _ lists (and_decides {R = (u.has_self_type ≡ v.has_self_type) × (u.bindings ≡ v.bindings)
    × (u.parenthesized ≡ v.parenthesized)} _ _ flags
    (and_decides {R = (u.bindings ≡ v.bindings) × (u.parenthesized ≡ v.parenthesized)} _ _ bindings marks
    (λ b p. (b, p)) (λ r. r.0) (λ r. r.1)) (λ h r. (h, r.0, r.1)) (λ r. r.0) (λ r. (r.1, r.2)))
    (λ a r. opened_args x y (same_args u v a r.0 r.1 r.2)) (λ e i. (out-GenericArgs (e i)).args)
    (λ e. (
      λ i. (out-GenericArgs (e i)).has_self_type,
      λ i. (out-GenericArgs (e i)).bindings,
      λ i.
          (out-GenericArgs (e i)).parenthesized,
    ))
    in
    subst (λ b. Decides b (x ≡ y)) (sym (args_laws.is x y)) shown

same_binding : (x y : AssociatedTypeBinding-F AssociatedTypeBinding GenericArgs) → x.name ≡ y.name
    → x.args ≡ y.args → x.type_ref ≡ y.type_ref → x.bounds ≡ y.bounds → x ≡ y
same_binding x y n a t b = λ i. record { name = n i; args = a i; type_ref = t i; bounds = b i }

opened_binding : (x y : AssociatedTypeBinding)
    → out-AssociatedTypeBinding x ≡ out-AssociatedTypeBinding y → x ≡ y
opened_binding x y e = sym (roll-out-AssociatedTypeBinding x) ∙ ap roll-AssociatedTypeBinding e
    ∙ roll-out-AssociatedTypeBinding y

types_decide : (x y : Option ℕ) → Decides (option_eq eqb x y) (x ≡ y)
types_decide x y = search exact

-- an associated type binding, where a test decides whether its own arguments are the same
binding_step : (x y : AssociatedTypeBinding) → Decides
    (option_eq args.ghosts.eq (out-AssociatedTypeBinding x).args (out-AssociatedTypeBinding y).args)
    ((out-AssociatedTypeBinding x).args ≡ (out-AssociatedTypeBinding y).args)
    → Decides (binding.ghosts.eq x y) (x ≡ y)
binding_step x y inner =
    let u = out-AssociatedTypeBinding x in
    let v = out-AssociatedTypeBinding y in
    let names = bytes_decides u.name v.name in
    let types = types_decide u.type_ref v.type_ref in
    let bounds = bounds_decide u.bounds v.bounds in
    let shown : Decides (binding_laws.unfolded x y) (x ≡ y) =
    and_decides _ _ names (and_decides {R = (u.args ≡ v.args) × (u.type_ref ≡ v.type_ref)
    × (u.bounds ≡ v.bounds)} _ _ inner (and_decides {R = (u.type_ref ≡ v.type_ref)
    × (u.bounds ≡ v.bounds)} _ _ types bounds (λ t b. (t, b)) (λ r. r.0) (λ r. r.1))
    (λ a r. (a, r.0, r.1)) (λ r. r.0) (λ r. (r.1, r.2)))
    (λ n r. opened_binding x y (same_binding u v n r.0 r.1 r.2))
    (λ e i. (out-AssociatedTypeBinding (e i)).name)
    (λ e. (
      λ i. (out-AssociatedTypeBinding (e i)).args,
      λ i.
          (out-AssociatedTypeBinding (e i)).type_ref,
      λ i. (out-AssociatedTypeBinding (e i)).bounds,
    ))
    in
    subst (λ b. Decides b (x ≡ y)) (sym (binding_laws.is x y)) shown

abbrev args_told : GenericArgs → Type 0
args_told x = (y : GenericArgs) → Decides (args.ghosts.eq x y) (x ≡ y)

abbrev binding_told : AssociatedTypeBinding → Type 0
binding_told x = (y : AssociatedTypeBinding) → Decides (binding.ghosts.eq x y) (x ≡ y)

option_map_told : (o : Option (WithTest args.ghosts.eq))
    → former-AssociatedTypeBinding-args.map (WithTest args.ghosts.eq) GenericArgs (λ e. e.0) o ≡ option_told o
option_map_told None = refl
option_map_told (Some x) = refl

binding_made : (x : AssociatedTypeBinding-F AssociatedTypeBinding GenericArgs)
    (inner : Option (WithTest args.ghosts.eq)) → option_told inner ≡ x.args
    → binding_told (roll-AssociatedTypeBinding x)
binding_made x inner e z =
    let child = e ∙ sym (ap (λ u. u.args) (out-roll-AssociatedTypeBinding x)) in
    let at_z = (out-AssociatedTypeBinding z).args in
    binding_step (roll-AssociatedTypeBinding x) z
    (subst (λ o. Decides (option_eq args.ghosts.eq o at_z) (o ≡ at_z)) child
    (option_decides _ inner at_z))

args_made : (x : GenericArgs-F AssociatedTypeBinding GenericArgs) (inner : List (WithTest binding.ghosts.eq))
    → without_tests inner ≡ x.bindings → args_told (roll-GenericArgs x)
args_made x inner e z =
    let children = e ∙ sym (ap (λ u. u.bindings) (out-roll-GenericArgs x)) in
    let zs = (out-GenericArgs z).bindings in
    args_step (roll-GenericArgs x) z (subst (λ xs. Decides (pointwise binding.ghosts.eq xs zs) (xs ≡ zs))
    children (list_decides _ inner zs))

pub args_decides : (x y : GenericArgs) → Decides (args.ghosts.eq x y) (x ≡ y)
args_decides =
    ind-GenericArgs binding_told args_told
    (λ x y e. binding_made x y.args (sym (option_map_told y.args) ∙ ap (λ u. u.args) e))
    (λ x y e. args_made x y.bindings (ap (λ u. u.bindings) e))

pub binding_decides : (x y : AssociatedTypeBinding) → Decides (binding.ghosts.eq x y) (x ≡ y)
binding_decides =
    ind-AssociatedTypeBinding binding_told args_told
    (λ x y e. binding_made x y.args (sym (option_map_told y.args) ∙ ap (λ u. u.args) e))
    (λ x y e. args_made x y.bindings (ap (λ u. u.bindings) e))
