-- The patterns among the child calls of a pattern.
use Rattle.std.proofs.Common.{◌≡◌, ℕ, List, [], ◌∷◌, ◌++◌, Option, Some, None, refl, ap, sym, ◌∙◌, map, append-nil, Bool}
use Rattle.std.specs.List.{flat_map, FoldsTo}
use Rattle.std.specs.Option.{option_to_list}
use Rattle.std.proofs.lemmas.List.Concat.{flat_map-append}
use Rattle.hir_path.specs.declared.bound.TypeBound.{TypeBound}
use Rattle.hir_path.specs.declared.bound.TypeBound.TheVariants as bound
use Rattle.hir_path.specs.declared.bound.UseArgRef.{UseArgRef}
use Rattle.hir_path.specs.declared.bound.UseArgRef.TheVariants as use_arg
use Rattle.hir_path.specs.declared.path.GenericArg.{GenericArg}
use Rattle.hir_path.specs.declared.path.GenericArg.TheVariants as arg
use Rattle.hir_path.specs.declared.path.GenericArgs.{GenericArgs, GenericArgs-F, out-GenericArgs, roll-GenericArgs, out-roll-GenericArgs, ind-GenericArgs}
use Rattle.hir_path.specs.declared.path.AssociatedTypeBinding.{AssociatedTypeBinding, AssociatedTypeBinding-F, out-AssociatedTypeBinding, roll-AssociatedTypeBinding, out-roll-AssociatedTypeBinding}
use Rattle.hir_path.specs.declared.path.AssociatedTypeBinding.TheShapes.{former-AssociatedTypeBinding-args}
use Rattle.hir_path.specs.declared.path.Path.{Path}
use Rattle.hir_path.specs.declared.path.Path.TheVariants as path
use Rattle.hir_node.specs.declared.pat.RecordFieldPat.{RecordFieldPat}
use Rattle.hir_node.specs.ChildCalls.{Call, p, t, opt, use_calls, bound_calls, arg_calls, args_calls, binding_calls, path_calls, pat_of_call, child_pats}
use Rattle.hir_node.specs.declared.pat.Pat.TheVariants as pat
use Rattle.hir_node.proofs.ArgsCalls.{args_calls_is, binding_calls_is}

-- no pattern is among the calls of a part
abbrev none : List Call → Type 0
none calls = flat_map pat_of_call calls ≡ []

none-append : (xs ys : List Call) → none xs → none ys → none (xs ++ ys)
none-append xs ys h k = flat_map-append pat_of_call xs ys ∙ rw (h, k) refl

none-each : {X : Type 0} (calls : X → List Call) → ((x : X) → none (calls x)) → (xs : List X) → none (flat_map calls xs)
none-each calls h [] = refl
none-each calls h (x ∷ xs) = none-append (calls x) (flat_map calls xs) (h x) (none-each calls h xs)

none-opt : {X : Type 0} (calls : X → List Call) → ((x : X) → none (calls x)) → (o : Option X) → none (opt calls o)
none-opt calls h None = refl
none-opt calls h (Some x) = h x

none-use : (x : UseArgRef) → none (use_calls x)
none-use (use_arg.Name name) = refl
none-use (use_arg.Lifetime id) = refl

none-bound : (x : TypeBound) → none (bound_calls x)
none-bound (bound.Path id modifier) = refl
none-bound (bound.ForLifetime names id) = refl
none-bound (bound.Lifetime id) = refl
none-bound (bound.Use args) = none-each use_calls none-use args
none-bound bound.Error = refl

none-arg : (x : GenericArg) → none (arg_calls x)
none-arg (arg.Ty id) = refl
none-arg (arg.Lifetime id) = refl
none-arg (arg.Const constant) = refl

abbrev args_none : GenericArgs → Type 0
args_none x = none (args_calls x)

abbrev binding_none : AssociatedTypeBinding → Type 0
binding_none x = none (binding_calls x)

none-held : (xs : List ((x : AssociatedTypeBinding) × binding_none x)) → none (flat_map binding_calls (map (λ x. x.0) xs))
none-held [] = refl
none-held (x ∷ xs) = none-append (binding_calls x.0) (flat_map binding_calls (map (λ x. x.0) xs)) x.1 (none-held xs)

abbrev option_held : Option ((x : GenericArgs) × args_none x) → Option GenericArgs
option_held None = None
option_held (Some x) = Some x.0

none-held_option : (o : Option ((x : GenericArgs) × args_none x)) → none (opt args_calls (option_held o))
none-held_option None = refl
none-held_option (Some x) = x.1

option_map_held : (o : Option ((x : GenericArgs) × args_none x)) → former-AssociatedTypeBinding-args.map ((x : GenericArgs) × args_none x) GenericArgs (λ e. e.0) o ≡ option_held o
option_map_held None = refl
option_map_held (Some x) = refl

binding_made : (x : AssociatedTypeBinding-F AssociatedTypeBinding GenericArgs) (inner : Option ((x : GenericArgs) × args_none x)) → option_held inner ≡ x.args → binding_none (roll-AssociatedTypeBinding x)
binding_made x inner h =
    let made = roll-AssociatedTypeBinding x in
    let args = opt args_calls (out-AssociatedTypeBinding made).args in
    let type = opt t (out-AssociatedTypeBinding made).type_ref in
    let bounds = flat_map bound_calls (out-AssociatedTypeBinding made).bounds in
    let of_args : none args = rw (out-roll-AssociatedTypeBinding x, ← h) (none-held_option inner) in
    let of_type : none type = none-opt t (λ id. refl) (out-AssociatedTypeBinding made).type_ref in
    let of_bounds : none bounds = none-each bound_calls none-bound (out-AssociatedTypeBinding made).bounds in
    rw (binding_calls_is made) (none-append (args ++ type) bounds (none-append args type of_args of_type) of_bounds)

args_made : (x : GenericArgs-F AssociatedTypeBinding GenericArgs) (inner : List ((x : AssociatedTypeBinding) × binding_none x)) → map (λ x. x.0) inner ≡ x.bindings → args_none (roll-GenericArgs x)
args_made x inner h =
    let made = roll-GenericArgs x in
    let args = flat_map arg_calls (out-GenericArgs made).args in
    let bindings = flat_map binding_calls (out-GenericArgs made).bindings in
    let of_bindings : none bindings = rw (out-roll-GenericArgs x, ← h) (none-held inner) in
    rw (args_calls_is made) (none-append args bindings (none-each arg_calls none-arg (out-GenericArgs made).args) of_bindings)

none-args : (x : GenericArgs) → args_none x
none-args =
    ind-GenericArgs binding_none args_none
    (λ x y h. binding_made x y.args (sym (option_map_held y.args) ∙ ap (λ u. u.args) h))
    (λ x y h. args_made x y.bindings (ap (λ u. u.bindings) h))

pub none-path : (x : Path) → none (path_calls x)
none-path (path.BarePath mod_path) = refl
none-path (path.LangItem target name) = refl
none-path (path.Normal normal) =
    none-append (flat_map (opt args_calls) normal.generic_args) (opt t normal.type_anchor) (none-each (opt args_calls) (none-opt args_calls none-args) normal.generic_args) (none-opt t (λ id. refl) normal.type_anchor)

pub pats-list : (ids : List ℕ) → flat_map pat_of_call (flat_map p ids) ≡ ids
pats-list [] = refl
pats-list (id ∷ ids) = ap (λ rest. id ∷ rest) (pats-list ids)

pats-fields : (fields : List RecordFieldPat) → flat_map pat_of_call (flat_map (λ field. p field.pat) fields) ≡ map (λ field. field.pat) fields
pats-fields [] = refl
pats-fields (field ∷ fields) = ap (λ rest. field.pat ∷ rest) (pats-fields fields)

pub pats-opt : (o : Option ℕ) → flat_map pat_of_call (opt p o) ≡ option_to_list o
pats-opt None = refl
pats-opt (Some id) = refl

-- the child patterns of each pattern that has a path, a list or a part that may be absent
pub child-tuple_struct : (path : Path) (args : List ℕ) (ellipsis : Option ℕ) → child_pats (pat.TupleStruct path args ellipsis) ≡ args
child-tuple_struct path args ellipsis = flat_map-append pat_of_call (flat_map p args) (path_calls path) ∙ rw (pats-list args, none-path path) (append-nil args)

pub child-record : (path : Path) (args : List RecordFieldPat) (ellipsis : Bool) → child_pats (pat.Record ellipsis path args) ≡ map (λ field. field.pat) args
child-record path args ellipsis = flat_map-append pat_of_call (flat_map (λ field. p field.pat) args) (path_calls path) ∙ rw (pats-fields args, none-path path) (append-nil (map (λ field. field.pat) args))

pub child-slice : (prefix : List ℕ) (slice : Option ℕ) (suffix : List ℕ) → child_pats (pat.Slice prefix slice suffix) ≡ (prefix ++ option_to_list slice) ++ suffix
child-slice prefix slice suffix =
    flat_map-append pat_of_call (flat_map p prefix ++ opt p slice) (flat_map p suffix)
    ∙ ap (λ first. first ++ flat_map pat_of_call (flat_map p suffix)) (flat_map-append pat_of_call (flat_map p prefix) (opt p slice))
    ∙ rw (pats-list prefix, pats-opt slice, pats-list suffix) refl

-- a fold over two lists, one after another
pub folds_on : {P A : Type 0} (R : P → A → P → Type 0) (xs ys : List A) (p q r : P) → FoldsTo R p xs q → FoldsTo R q ys r → FoldsTo R p (xs ++ ys) r
folds_on R [] ys p q r h k = rw h k
folds_on R (x ∷ xs) ys p q r h k = (h.0, h.1, folds_on R xs ys h.0 q r h.2 k)
