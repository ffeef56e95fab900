-- The segments of a view, by its names and its lists of arguments.
use Rattle.std.proofs.Common.{◌≡◌, ℕ, zero, suc, ◌-◌, List, [], ◌∷◌, ◌++◌, length, take, drop, get_or, Option, Some, None, refl, ap, sym, ◌∙◌, rules, Bor}
use Rattle.std.specs.Prelude.{slice_get, IsTrue, ◌↔◌, Bool, true, false, cond, nat_le, ◌==◌}
use Rattle.std.specs.Option.{option_map}
use Rattle.std.specs.Slice.{IsItemAt}
use Rattle.std.proofs.lemmas.Option.{slice_get_past, slice_get_read}
use Rattle.std.proofs.lemmas.List.{drop_all}
use Rattle.hir_path.specs.declared.path.GenericArgs.{GenericArgs}
use Rattle.hir_path.specs.Segments.{Segments, OneListEach, one_each, with_args, or_none, past, items, skip, first, strip}
use Rattle.hir_path.specs.Lists.{all_but, last_of}

pub length-zipped : (names : List (List ℕ)) (lists : List (Option GenericArgs)) → length (with_args names lists) ≡ length names
length-zipped [] lists = refl
length-zipped (name ∷ names) [] = ap (λ n. suc n) (length-zipped names [])
length-zipped (name ∷ names) (args ∷ lists) = ap (λ n. suc n) (length-zipped names lists)

pub zipped-nil : (names : List (List ℕ)) (lists : List (Option GenericArgs)) → with_args names lists ≡ [] → names ≡ []
zipped-nil [] lists e = refl
zipped-nil (name ∷ names) [] e = absurd (cc)
zipped-nil (name ∷ names) (args ∷ lists) e = absurd (cc)

pub get-zipped : (names : List (List ℕ)) (lists : List (Option GenericArgs)) (i : ℕ) → slice_get (with_args names lists) i ≡ option_map (λ name. record { name = name; args = get_or lists i None }) (slice_get names i)
get-zipped [] lists i = refl
get-zipped (name ∷ names) [] zero = refl
get-zipped (name ∷ names) [] (suc i) = get-zipped names [] i
get-zipped (name ∷ names) (args ∷ lists) zero = refl
get-zipped (name ∷ names) (args ∷ lists) (suc i) = get-zipped names lists i

pub zipped-of-none : (names : List (List ℕ)) (lists : List (Option GenericArgs)) → names ≡ [] → with_args names lists ≡ []
zipped-of-none names lists e = rw e refl

pub zipped_is_empty : (b : Bool) (names : List (List ℕ)) (lists : List (Option GenericArgs)) → b ≡ (length names == 0) → IsTrue b ↔ (with_args names lists ≡ [])
zipped_is_empty b [] lists e = search (rules, e)
zipped_is_empty b (name ∷ names) [] e = (λ t. absurd (search (rules, e, t)), λ h. absurd (cc))
zipped_is_empty b (name ∷ names) (args ∷ lists) e = (λ t. absurd (search (rules, e, t)), λ h. absurd (cc))

-- what a slice was asked for
item_none : {X : Type 0} (xs : List X) (i : ℕ) (r : Option (Bor X)) → IsItemAt xs i r → r ≡ None → slice_get xs i ≡ None
item_none xs i None h e = slice_get_past xs i h.3
item_none xs i (Some x) h e = absurd (cc)

item_some : {X : Type 0} (xs : List X) (i : ℕ) (r : Option (Bor X)) (x : Bor X) → IsItemAt xs i r → r ≡ Some x → slice_get xs i ≡ Some x.now
item_some xs i None x h e = absurd (cc)
item_some xs i (Some y) x h e = slice_get_read xs (length xs) i x.now refl (search (rules, h.3, e)) (search (rules, h.1, e))

-- where the name in a place is known
pub get_some : (names : List (List ℕ)) (lists : List (Option GenericArgs)) (i : ℕ) (r : Option (Bor (List ℕ))) (name : Bor (List ℕ)) → IsItemAt names i r → r ≡ Some name → slice_get (with_args names lists) i ≡ Some (record { name = name.now; args = get_or lists i None })
get_some names lists i r name h e = get-zipped names lists i ∙ ap (λ found. option_map (λ name. record { name = name; args = get_or lists i None }) found) (item_some names i r name h e)

pub get_none : (names : List (List ℕ)) (lists : List (Option GenericArgs)) (i : ℕ) (r : Option (Bor (List ℕ))) → IsItemAt names i r → r ≡ None → slice_get (with_args names lists) i ≡ None
get_none names lists i r h e = get-zipped names lists i ∙ ap (λ found. option_map (λ name. record { name = name; args = get_or lists i None }) found) (item_none names i r h e)

-- the last segment has the place before the number of names
pub last-zipped : (names : List (List ℕ)) (lists : List (Option GenericArgs)) → last_of (with_args names lists) ≡ slice_get (with_args names lists) (length names - 1)
last-zipped names lists = ap (λ n. slice_get (with_args names lists) (n - 1)) (length-zipped names lists)

pub ruleset segments = (length-zipped, zipped_is_empty)

-- the first n of bare names, and the names after them
split-bare : (n : ℕ) (names : List (List ℕ)) → with_args (take n names) [] ++ with_args (drop n names) [] ≡ with_args names []
split-bare zero names = refl
split-bare (suc n) [] = refl
split-bare (suc n) (name ∷ names) = ap (λ rest. record { name = name; args = None } ∷ rest) (split-bare n names)

split-zipped : (n : ℕ) (names : List (List ℕ)) (lists : List (Option GenericArgs)) → with_args (take n names) (take n lists) ++ with_args (drop n names) (drop n lists) ≡ with_args names lists
split-zipped zero names lists = refl
split-zipped (suc n) [] lists = refl
split-zipped (suc n) (name ∷ names) [] = ap (λ rest. record { name = name; args = None } ∷ rest) (split-bare n names)
split-zipped (suc n) (name ∷ names) (args ∷ lists) = ap (λ rest. record { name = name; args = args } ∷ rest) (split-zipped n names lists)

-- lists that are left out past their end are the rest of the lists
past-is-drop : (n : ℕ) (lists : List (Option GenericArgs)) → (b : Bool) → b ≡ nat_le n (length lists) → or_none (cond b (Some (drop n lists)) None) ≡ drop n lists
past-is-drop n lists true e = refl
past-is-drop n lists false e = sym (drop_all n lists (search (rules, e)))

-- the first segments and the others are all
front_and_rest : (n : ℕ) (names : List (List ℕ)) (lists : Option (List (Option GenericArgs))) → with_args (take n names) (or_none (option_map (take n) lists)) ++ with_args (drop n names) (or_none (past n lists)) ≡ with_args names (or_none lists)
front_and_rest n names None = split-bare n names
front_and_rest n names (Some lists) = rw (past-is-drop n lists (nat_le n (length lists)) refl) (split-zipped n names lists)

pub first_then_skip : (s : Segments) (n : ℕ) → items (first n s) ++ items (skip n s) ≡ items s
first_then_skip s n = front_and_rest n s.names s.lists

take-bare : (n : ℕ) (names : List (List ℕ)) → with_args (take n names) [] ≡ take n (with_args names [])
take-bare zero names = refl
take-bare (suc n) [] = refl
take-bare (suc n) (name ∷ names) = ap (λ rest. record { name = name; args = None } ∷ rest) (take-bare n names)

take-zipped : (n : ℕ) (names : List (List ℕ)) (lists : List (Option GenericArgs)) → with_args (take n names) (take n lists) ≡ take n (with_args names lists)
take-zipped zero names lists = refl
take-zipped (suc n) [] lists = refl
take-zipped (suc n) (name ∷ names) [] = ap (λ rest. record { name = name; args = None } ∷ rest) (take-bare n names)
take-zipped (suc n) (name ∷ names) (args ∷ lists) = ap (λ rest. record { name = name; args = args } ∷ rest) (take-zipped n names lists)

-- with one list a name, what is stripped is all but the last segments
strip_is_all_but : (n : ℕ) (names : List (List ℕ)) (lists : Option (List (Option GenericArgs))) → one_each names lists → with_args (all_but n names) (or_none (option_map (all_but n) lists)) ≡ all_but n (with_args names (or_none lists))
strip_is_all_but n names None fits = take-bare (length names - n) names ∙ ap (λ k. take (k - n) (with_args names [])) (sym (length-zipped names []))
strip_is_all_but n names (Some lists) fits =
    ap (λ k. with_args (take (length names - n) names) (take (k - n) lists)) fits
    ∙ take-zipped (length names - n) names lists
    ∙ ap (λ k. take (k - n) (with_args names lists)) (sym (length-zipped names lists))

pub strip_is : (s : Segments) (n : ℕ) → OneListEach s → items (strip n s) ≡ all_but n (items s)
strip_is s n fits = strip_is_all_but n s.names s.lists fits
