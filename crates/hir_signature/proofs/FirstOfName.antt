-- That the place of the first member that passes is that of the first for which what the test decides holds.
use Rattle.std.proofs.Common.{◌≡◌, ◌+◌, ℕ, Bool, true, false, cond, List, [], ◌∷◌, length, Option, Some, None, arith, ap, sym, subst, refl}
use Rattle.std.specs.List.{position, position_from, All}
use Rattle.std.proofs.lemmas.List.Elements.{All-nil, All-cons}
use Rattle.std.specs.Option.{MatchOption}
use Rattle.std.specs.Bool.{Decides}
use Rattle.std.specs.Cmp.Lexicographic.{bytes_decides}
use Rattle.std.proofs.lemmas.Iterator.Adapters.{position_from-zero}
use Rattle.hir_signature.specs.declared.param_data.LifetimeParamData.{LifetimeParamData}
use Rattle.hir_signature.specs.declared.any_param.TypeOrConstParamData.{TypeOrConstParamData}
use Rattle.hir_signature.specs.declared.any_param.TypeOrConstParamData.TheVariants.{TypeParamData, ConstParamData}
use Rattle.hir_signature.specs.FirstOfName.{FirstAt, IsFirst, IsTypeNamed, IsConstNamed, IsLifetimeNamed}
use Rattle.hir_signature.specs.Generics.{is_type_named, is_const_named, is_lifetime_named, same_name}

-- the same, where the first member has the number n
abbrev FirstFrom : {X : Type 0} → (X → Type 0) → ℕ → List X → Option ℕ → Type 0
FirstFrom P n xs r = MatchOption r (All (λ x. P x → ⊥) xs) (λ at. (k : ℕ) × (at ≡ n + k) × FirstAt P xs k)

one_more : {X : Type 0} (P : X → Type 0) (n : ℕ) (x : X) (xs : List X) (b : Bool) → Decides b (P x) → (r : Option ℕ) → FirstFrom P (n + 1) xs r → FirstFrom P n (x ∷ xs) (cond b (Some n) r)
one_more P n x xs true d r later = (0, (let e : n ≡ n + 0 = omega arith in e), record { before = []; member = x; after = xs; split = refl; place = refl; none_before = All-nil _; holds = d.0 refl })
one_more P n x xs false d None later = All-cons (λ y. P y → ⊥) x xs (λ h. absurd (cc (d.1 h))) later
one_more P n x xs false d (Some at) later =
    let f = later.2 in
    let e : at ≡ n + (later.0 + 1) = omega (arith, later.1) in
    let place : later.0 + 1 ≡ length (x ∷ f.before) = omega (arith, f.place) in
    (later.0 + 1, e, record { before = x ∷ f.before; member = f.member; after = f.after; split = ap (λ ys. x ∷ ys) f.split; place = place; none_before = All-cons (λ y. P y → ⊥) x f.before (λ h. absurd (cc (d.1 h))) f.none_before; holds = f.holds })

first_from : {X : Type 0} (P : X → Type 0) (p : X → Bool) → ((x : X) → Decides (p x) (P x)) → (n : ℕ) (xs : List X) → FirstFrom P n xs (position_from p n xs)
first_from P p d n [] = All-nil _
first_from P p d n (x ∷ xs) = one_more P n x xs (p x) (d x) (position_from p (n + 1) xs) (first_from P p d (n + 1) xs)

from_zero : {X : Type 0} (P : X → Type 0) (xs : List X) (r : Option ℕ) → FirstFrom P 0 xs r → IsFirst P xs r
from_zero P xs None t = t
from_zero P xs (Some at) t =
    let e : t.0 ≡ at = omega (arith, t.1) in
    subst (λ k. FirstAt P xs k) e t.2

is_first : {X : Type 0} (P : X → Type 0) (p : X → Bool) → ((x : X) → Decides (p x) (P x)) → (xs : List X) → IsFirst P xs (position p xs)
is_first P p d xs = subst (λ r. IsFirst P xs r) (sym (position_from-zero p xs)) (from_zero P xs (position_from p 0 xs) (first_from P p d 0 xs))

same_names : (name : List ℕ) (own : Option (List ℕ)) → Decides (same_name name own) (own ≡ Some name)
same_names name None = ((λ h. absurd (cc h)), (λ h. absurd (cc h)))
same_names name (Some own) = ((λ h. ap Some ((bytes_decides own name).0 h)), (λ h. let e : own ≡ name = cc in (bytes_decides own name).1 e))

types : (name : List ℕ) (param : TypeOrConstParamData) → Decides (is_type_named name param) (IsTypeNamed name param)
types name (TypeParamData p) = same_names name p.name
types name (ConstParamData p) = ((λ h. absurd (cc h)), (λ h. absurd h))

consts : (name : List ℕ) (param : TypeOrConstParamData) → Decides (is_const_named name param) (IsConstNamed name param)
consts name (TypeParamData p) = ((λ h. absurd (cc h)), (λ h. absurd h))
consts name (ConstParamData p) = bytes_decides p.name name

pub first_type_named : (name : List ℕ) (params : List TypeOrConstParamData) → IsFirst (IsTypeNamed name) params (position (is_type_named name) params)
first_type_named name params = is_first (IsTypeNamed name) (is_type_named name) (types name) params

pub first_const_named : (name : List ℕ) (params : List TypeOrConstParamData) → IsFirst (IsConstNamed name) params (position (is_const_named name) params)
first_const_named name params = is_first (IsConstNamed name) (is_const_named name) (consts name) params

pub first_lifetime_named : (name : List ℕ) (lifetimes : List LifetimeParamData) → IsFirst (IsLifetimeNamed name) lifetimes (position (is_lifetime_named name) lifetimes)
first_lifetime_named name lifetimes = is_first (IsLifetimeNamed name) (is_lifetime_named name) (λ l. bytes_decides l.name name) lifetimes
