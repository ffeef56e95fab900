-- The visible entries are those that some name resolves to.
use Rattle.std.proofs.Common.{◌≡◌, ℕ, zero, suc, List, [], ◌∷◌, ◌++◌, Option, Some, None, Bool, true, false, cond, refl, sym, ap, ◌∙◌, rules}
use Rattle.std.proofs.Common.{Contains, arith, subst, append_assoc, fold, ◌⊎◌, inl, inr}
use Rattle.std.proofs.lemmas.{List.append-nil, List.Folds.list_any-append, List.Sorted.list_any-IsPermutation}
use Rattle.std.proofs.lemmas.{Bool.Decides.Decides-and}
use Rattle.std.specs.List.Sorted.{IsPermutation}
use Rattle.std.specs.{Bool.Decides, List.list_any, Prelude.◌||◌, Prelude.◌&&◌, Prelude.◌↔◌, Prelude.not}
use Rattle.hir_base.specs.declared.hygiene.SyntaxContext.{SyntaxContext}
use Rattle.hir_base.specs.contracts.hygiene.HygieneIdPartialEq.TheImpl as hygienes
use Rattle.hir_base.specs.contracts.name.NamePartialEq.TheImpl as names
use Rattle.hir_path.specs.same.Leaves.{names_decide}
use Rattle.hir_node.specs.same.Leaves.{hygienes_decide}
use Rattle.hir_scope.specs.{Frames.Chain, Resolution.matches, Resolution.find_entry, Resolution.entries_of, Resolution.resolve}
use Rattle.hir_scope.specs.declared.scope.ScopeEntry.{ScopeEntry}
use Rattle.hir_usages.specs.Visible.{with_new_name, visible_in}
use Rattle.hir_usages.specs.internal.Seen.{AreSeen, is_key}
use Rattle.std.proofs.lemmas.{List.Sums.fold-append}
use Rattle.std.specs.List.{slice_get}
use Rattle.std.specs.Prelude.{option_map}
use Rattle.hir_scope.specs.{Paths.chain, Scopes.Scope}
use Rattle.hir_usages.proofs.RenameLemmas.{GoesOutward, chain_step, of_some_scope}

pub asked : (n : List ℕ) (h : SyntaxContext) (e : ScopeEntry) → Decides (matches n h e) ((e.hygiene ≡ h) × (e.name ≡ n))
asked n h e = Decides-and (hygienes.ghosts.eq e.hygiene h) (names.ghosts.eq e.name n) (hygienes_decide e.hygiene h) (names_decide e.name n)

module _ (n : List ℕ) (h : SyntaxContext) where
  -- an entry that isn't asked for changes nothing
  unasked : (e : ScopeEntry) → matches n h e ≡ false → (found es : List ScopeEntry) → find_entry n h (found ++ es)
      ≡ find_entry n h (found ++ e ∷ es)
  unasked e q [] es = ap (λ (t : Bool). cond t (Some e) (find_entry n h es)) (sym q)
  unasked e q (f ∷ fs) es = ap (λ (o : Option ScopeEntry). cond (matches n h f) (Some f) o) (unasked e q fs es)

  -- where one is found, later entries change nothing
  found_before : (found xs ys : List ScopeEntry) → list_any (matches n h) found ≡ true → find_entry n h (found ++ xs)
      ≡ find_entry n h (found ++ ys)
  found_before [] xs ys q = absurd cc
  found_before (f ∷ fs) xs ys q = at (matches n h f) q (found_before fs xs ys) where
    at : (t : Bool) → (t || list_any (matches n h) fs) ≡ true →
        (list_any (matches n h) fs ≡ true → find_entry n h (fs ++ xs) ≡ find_entry n h (fs ++ ys)) →
        cond t (Some f) (find_entry n h (fs ++ xs)) ≡ cond t (Some f) (find_entry n h (fs ++ ys))
    at true r rest = refl
    at false r rest = rest r

  none_before : (found : List ScopeEntry) (e : ScopeEntry) → list_any (matches n h) found ≡ false → matches n h e
      ≡ true → find_entry n h (found ++ e ∷ []) ≡ Some e
  none_before [] e q r = ap (λ (t : Bool). cond t (Some e) None) r
  none_before (f ∷ fs) e q r = at (matches n h f) q (λ p. none_before fs e p r) where
    at : (t : Bool) → (t || list_any (matches n h) fs) ≡ false →
        (list_any (matches n h) fs ≡ false → find_entry n h (fs ++ e ∷ []) ≡ Some e) →
        cond t (Some f) (find_entry n h (fs ++ e ∷ [])) ≡ Some e
    at true p rest = absurd cc
    at false p rest = rest p

  still_first : (found xs : List ScopeEntry) (e : ScopeEntry) → find_entry n h found ≡ Some e → find_entry n h (found ++ xs) ≡ Some e
  still_first [] xs e q = absurd cc
  still_first (f ∷ fs) xs e q = at (matches n h f) q (still_first fs xs e) where
    at : (t : Bool) → cond t (Some f) (find_entry n h fs) ≡ Some e →
        (find_entry n h fs ≡ Some e → find_entry n h (fs ++ xs) ≡ Some e) →
        cond t (Some f) (find_entry n h (fs ++ xs)) ≡ Some e
    at true p rest = p
    at false p rest = rest p

  pub among : (es : List ScopeEntry) (e : ScopeEntry) → find_entry n h es ≡ Some e → Contains es e
  among [] e q = absurd cc
  among (x ∷ xs) e q = at (matches n h x) q (among xs e) where
    at : (t : Bool) → cond t (Some x) (find_entry n h xs) ≡ Some e → (find_entry n h xs ≡ Some e → Contains xs e) → Contains (x ∷ xs) e
    at true p rest = let same : x ≡ e = cc in (0, omega arith, same)
    at false p rest = let m = rest p in (suc m.0, omega (arith, m.1), m.2)

  -- each name resolves to the same among the entries that are left
  kept : (found es : List ScopeEntry) → find_entry n h (fold with_new_name found es) ≡ find_entry n h (found ++ es)
  kept found [] = ap (find_entry n h) (sym (append-nil found))
  kept found (e ∷ es) = search (rules, unasked, asked, found_before, append_assoc, kept (with_new_name found e) es)

in_two : (xs : List ScopeEntry) (x e : ScopeEntry) → Contains (xs ++ x ∷ []) e → Contains xs e ⊎ (x ≡ e)
in_two [] x e (zero, l, is) = inr is
in_two [] x e (suc i, l, is) = absurd (omega (arith, l))
in_two (y ∷ xs) x e (zero, l, is) = inl (0, omega arith, is)
in_two (y ∷ xs) x e (suc i, l, is) =
    elim (in_two xs x e (i, omega (arith, l), is)) [
      | inl m ↦ inl (suc m.0, omega (arith, m.1), m.2)
      | inr q ↦ inr q
    ]

abbrev AreFirst : List ScopeEntry → Type 0
AreFirst found = (e : ScopeEntry) → Contains found e → find_entry e.name e.hygiene found ≡ Some e

first_more : (found : List ScopeEntry) (x : ScopeEntry) → AreFirst found → AreFirst (with_new_name found x)
first_more found x first = at (list_any (matches x.name x.hygiene) found) refl where
  at : (t : Bool) → list_any (matches x.name x.hygiene) found ≡ t → AreFirst (cond t found (found ++ x ∷ []))
  at true q = first
  at false q = λ e m. elim (in_two found x e m) [
    | inl k ↦ still_first e.name e.hygiene found (x ∷ []) e (first e k)
    | inr same ↦ subst (λ (y : ScopeEntry). find_entry y.name y.hygiene (found ++ x ∷ []) ≡ Some y) same
        (none_before x.name x.hygiene found x q ((asked x.name x.hygiene x).1 (refl, refl)))
  ]

all_first : (found es : List ScopeEntry) → AreFirst found → AreFirst (fold with_new_name found es)
all_first found [] first = first
all_first found (x ∷ es) first = all_first (with_new_name found x) es (first_more found x first)

pub visible_resolves : (frames : Chain) (e : ScopeEntry) →
    Contains (visible_in frames) e ↔ ((n : List ℕ) × (h : SyntaxContext) × (resolve frames n h ≡ Some e))
visible_resolves frames e = (
  λ m. (
    e.name,
    e.hygiene,
    sym (kept e.name e.hygiene [] (entries_of frames)) ∙ all_first [] (entries_of frames)
        (λ x k. absurd (omega (arith, k.1))) e m,
  ),
  λ r. among r.0 r.1 (visible_in frames) e (kept r.0 r.1 [] (entries_of frames) ∙ r.2),
)

-- the entries of a scope come before those of its parent
pub visible_step : (scopes : List Scope) (s : ℕ) (parent : Option ℕ) (es : List ScopeEntry) → GoesOutward scopes →
    option_map (λ (y : Scope). y.parent) (slice_get scopes s) ≡ Some parent →
    option_map (λ (y : Scope). y.entries) (slice_get scopes s) ≡ Some es → (found : List ScopeEntry) →
    fold with_new_name found (entries_of (chain scopes (Some s))) ≡ fold with_new_name (fold with_new_name found es)
    (entries_of (chain scopes parent))
visible_step scopes s parent es outward p e found =
    let x = of_some_scope (λ (y : Scope). y.entries) (slice_get scopes s) es e in
    let outer = entries_of (chain scopes parent) in
    ap (λ (c : Chain). fold with_new_name found (entries_of c)) (chain_step scopes s parent x.0 outward p x.1)
    ∙ (ap (λ (xs : List ScopeEntry). fold with_new_name found (xs ++ outer)) x.2 ∙ fold-append with_new_name found es outer)

-- What was seen is what the entries have.

or_turned : (t r : Bool) → (t || r) ≡ (r || (t || false))
or_turned true true = refl
or_turned true false = refl
or_turned false true = refl
or_turned false false = refl

alike : (p q : Bool) (P Q : Type 0) → Decides p P → Decides q Q → (P → Q) → (Q → P) → p ≡ q
alike true true P Q d e f g = refl
alike false false P Q d e f g = refl
alike true false P Q d e f g = sym (e.1 (f (d.0 refl)))
alike false true P Q d e f g = d.1 (g (e.0 refl))

module _ {K : Type 0} (hygiene : K → SyntaxContext) (name : K → List ℕ) where
  abbrev pub was_seen : List K → List ℕ → SyntaxContext → Bool
  was_seen keys n h = list_any (λ (k : K). is_key n h (hygiene k) (name k)) keys

  -- a key is equal to those of its name and hygiene
  equal_keys : (n : List ℕ) (h : SyntaxContext) (k : K) →
      (hygienes.ghosts.eq h (hygiene k) && names.ghosts.eq n (name k)) ≡ is_key n h (hygiene k) (name k)
  equal_keys n h k = search (rules, alike, Decides-and)

  pub key_was_seen : (n : List ℕ) (h : SyntaxContext) (keys : List K) →
      list_any (λ (k : K). hygienes.ghosts.eq h (hygiene k) && names.ghosts.eq n (name k)) keys ≡ was_seen keys n h
  key_was_seen n h [] = refl
  key_was_seen n h (k ∷ keys) = search (rules, equal_keys, key_was_seen n h keys)

  -- one more was seen, and has an entry
  pub seen_more : (entries : List ScopeEntry) (keys later : List K) (k : K) (e : ScopeEntry) → hygiene k ≡ e.hygiene →
      name k ≡ e.name → IsPermutation (k ∷ keys) later →
      AreSeen entries (was_seen keys) → AreSeen (entries ++ e ∷ []) (was_seen later)
  seen_more entries keys later k e same_h same_n turned are n h =
      sym (list_any-IsPermutation (λ (q : K). is_key n h (hygiene q) (name q)) (k ∷ keys) later turned)
      ∙ ((λ i. is_key n h (same_h i) (same_n i) || are n h i)
      ∙ (or_turned (matches n h e) (list_any (matches n h) entries) ∙ sym (list_any-append (matches n h) entries (e ∷ []))))

-- the key wasn't there, so the entry is new
pub entry_is_new : (found : List ScopeEntry) (e : ScopeEntry) (was there added : Bool) → was
    ≡ list_any (matches e.name e.hygiene) found → there ≡ was → added ≡ not there → added ≡ true →
    with_new_name found e ≡ found ++ e ∷ []
entry_is_new found e was true added is same new put = let lie : true ≡ false = sym put ∙ new in absurd cc
entry_is_new found e was false added is same new put = ap (λ (t : Bool). cond t found (found ++ e ∷ [])) (sym (same ∙ is))
