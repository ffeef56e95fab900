-- Items by what a list has: none, one, or more.
use Rattle.std.proofs.Common.{◌≡◌, ℕ, zero, suc, ◌+◌, ◌-◌, ◌<◌, ◌≤◌, Bool, true, false, List, [], ◌∷◌, ◌++◌, codes, map, take}
use Rattle.std.proofs.Common.{drop, length, get_or, Option, Some, None, refl, sym, ap, ap₂, ◌∙◌, arith, append_assoc, ◌==◌, ◌&&◌}
use Rattle.std.proofs.Common.{not, IsTrue, is_none, is_some, flat_map, option_to_list, rules}
use Rattle.std.proofs.lemmas.{Bool.cases_lt, Bool.Decides.nat_tests, List.take-map, List.drop-map, List.take_all, List.drop_all}
use Rattle.std.proofs.lemmas.List.{length-map, Concat.flat_map-append}
use Rattle.hir_node.specs.declared.{expr_types.Array.TheVariants.ElementList, expr_types.Statement.Statement}
use Rattle.hir_node.specs.declared.expr_types.{ClosureKind.ClosureKind, CoroutineKind.CoroutineKind, CoroutineSource.CoroutineSource}
use Rattle.hir_node.specs.declared.expr_types.ClosureKind.TheVariants as closure
use Rattle.hir_path.specs.declared.{bound.TypeBound.TypeBound, path.GenericArg.GenericArg}
use Rattle.hir_path.specs.declared.path.GenericArgs.{GenericArgs, out-GenericArgs}
use Rattle.hir_pretty_docs.specs.Prelude.{PrintEnv, name_docs, Doc, text, sp, into, out, br, e, p, opt, when, join, comma_joined}
use Rattle.hir_pretty_docs.specs.Prelude.{arguments, array_docs, statement_docs, inside_block, with_rest, arg_docs, each_arg}
use Rattle.hir_pretty_docs.specs.Prelude.{args_docs, assoc_docs, turbofish, segments_from, bounds_docs, bounds_after, supers}
use Rattle.hir_pretty_docs.specs.Prelude.{following, header}
use Rattle.hir_pretty_docs.proofs.ListLemmas.{drop_item, is_cons, following_joined, following_append}
use Rattle.hir_pretty_docs.proofs.ArgsDocs.{args_docs_is}

-- 1. Whether a list has members

pub cons_length : {X : Type 0} (x : X) (xs : List X) → (length (x ∷ xs) == 0) ≡ false
cons_length x xs = grind (arith, nat_tests)

pub not_empty : {X : Type 0} (xs : List X) → not (length xs == 0) ≡ is_cons xs
not_empty [] = refl
not_empty (x ∷ xs) = ap not (cons_length x xs)

pub cons_map : {X Y : Type 0} (f : X → Y) (xs : List X) → is_cons (map f xs) ≡ is_cons xs
cons_map f [] = refl
cons_map f (x ∷ xs) = refl

pub filled : {X : Type 0} (xs : List X) (b : Bool) → (IsTrue b → xs ≡ []) × (xs ≡ [] → IsTrue b) → not b ≡ is_cons xs
filled [] b k = let e : b ≡ true = k.1 refl in ap not e
filled (x ∷ xs) true k = absurd (let e = k.0 refl in cc)
filled (x ∷ xs) false k = refl

-- 2. Arguments, elements and statements

pub some_arguments : (xs : List ℕ) → (length xs == 0) ≡ false
    → text (codes "(") ++ into ++ flat_map (λ id. e id ++ text (codes ",") ++ br) xs ++ out ++ text (codes ")") ≡ arguments xs
some_arguments [] h = absurd (cc)
some_arguments (x ∷ xs) h = refl

pub some_elements : (xs : List ℕ) → (xs ≡ [] → ⊥)
    → text (codes "[") ++ into ++ flat_map (λ id. e id ++ text (codes ", ")) xs ++ out ++ br ++ text (codes "]") ≡ array_docs (ElementList xs)
some_elements [] h = absurd (h refl)
some_elements (x ∷ xs) h = refl

pub none_is : (o : Option ℕ) (r : Bool) → is_some o ≡ not r → r ≡ is_none o
none_is None true h = refl
none_is None false h = absurd (cc)
none_is (Some x) true h = absurd (cc)
none_is (Some x) false h = refl

pub some_statements : (xs : List Statement) (tail : Option ℕ) → ((length xs == 0) && is_none tail) ≡ false
    → text (codes "{") ++ into ++ flat_map statement_docs xs ++ opt e tail ++ br ++ out ++ text (codes "}") ≡ text (codes "{") ++ inside_block xs tail ++ text (codes "}")
some_statements [] None h = absurd (cc)
some_statements [] (Some t) h = refl
some_statements (x ∷ xs) tail h = refl

-- 3. Bounds and generic arguments

pub bounds_is : (s : PrintEnv) (bs : List TypeBound) (b : Bool) → (IsTrue b → bs ≡ []) × (bs ≡ [] → IsTrue b)
    → when (not b) (text (codes ": ")) ++ bounds_docs s bs ≡ bounds_after s bs
bounds_is s [] b k = ap (λ c. when c (text (codes ": ")) ++ bounds_docs s []) (filled [] b k)
bounds_is s (x ∷ bs) b k = ap (λ c. when c (text (codes ": ")) ++ bounds_docs s (x ∷ bs)) (filled (x ∷ bs) b k)

each_is : (s : PrintEnv) (self : Bool) (args : List GenericArg) (bs : List (List Doc))
    → when (is_cons args && self) (text (codes "Self=")) ++ join (text (codes ", ")) (map (arg_docs s) args)
    ++ following (text (codes ", ")) (is_cons args) bs ≡ comma_joined (each_arg s self args ++ bs)
each_is s true [] bs = following_joined (text (codes ", ")) bs
each_is s false [] bs = following_joined (text (codes ", ")) bs
each_is s false (a ∷ more) bs = following_append (text (codes ", ")) (arg_docs s a ∷ map (arg_docs s) more) bs
each_is s true (a ∷ []) bs = following_append (text (codes ", ")) ((text (codes "Self=") ++ arg_docs s a) ∷ []) bs
each_is s true (a ∷ b ∷ more) bs = following_append (text (codes ", ")) ((text (codes "Self=") ++ arg_docs s a) ∷ arg_docs s b ∷ map (arg_docs s) more) bs

pub args_is : (s : PrintEnv) (x : GenericArgs)
    → when (is_cons (out-GenericArgs x).args && (out-GenericArgs x).has_self_type) (text (codes "Self="))
    ++ join (text (codes ", ")) (map (arg_docs s) (out-GenericArgs x).args)
    ++ following (text (codes ", ")) (is_cons (out-GenericArgs x).args) (map (assoc_docs s) (out-GenericArgs x).bindings) ≡ args_docs s x
args_is s x = each_is s (out-GenericArgs x).has_self_type (out-GenericArgs x).args (map (assoc_docs s) (out-GenericArgs x).bindings) ∙ sym (args_docs_is s x)

-- 4. `super`, one more or the last

pub supers_more : (n : ℕ) → 1 < n → text (codes "super::") ++ supers (n - 1) ≡ supers n
supers_more zero h = absurd (omega arith)
supers_more (suc zero) h = absurd (omega arith)
supers_more (suc (suc n)) h = let k : suc (suc n) - 1 ≡ suc n = omega arith in ap (λ m. text (codes "super::") ++ supers m) k

pub supers_last : (n : ℕ) → n ≤ 1 → 0 < n → text (codes "super") ≡ supers n
supers_last zero h k = absurd (omega arith)
supers_last (suc zero) h k = refl
supers_last (suc (suc n)) h k = absurd (omega arith)

-- 5. Patterns with a rest, and of a slice

around : (sep x : List Doc) (xs ys : List (List Doc)) → join sep xs ++ when (is_cons xs) sep ++ x ++ following sep true ys ≡ join sep (xs ++ (x ∷ []) ++ ys)
around sep x xs ys =
    append_assoc (join sep xs ++ when (is_cons xs) sep) x (following sep true ys) ∙ append_assoc (join sep xs) (when (is_cons xs) sep) (x ++ following sep true ys)
    ∙ ap (λ zs. join sep xs ++ zs) (sym (append_assoc (when (is_cons xs) sep) x (following sep true ys)))
    ∙ following_append sep xs (x ∷ ys) ∙ ap (join sep) (sym (append_assoc xs (x ∷ []) ys))

-- a list cut where it ends, or before
all_but_last_is : {X Y : Type 0} (f : X → Y) (xs : List X) (n m : ℕ) → m ≡ length xs - (length xs - n) → map f (take m xs) ≡ take n (map f xs)
all_but_last_is f xs n m h = search (rules, cases_lt, take-map, length-map, take_all)

back_cut : {X Y : Type 0} (f : X → Y) (xs : List X) (n m : ℕ) → m ≡ length xs - (length xs - n) → map f (drop m xs) ≡ drop n (map f xs)
back_cut f xs n m h = search (rules, cases_lt, drop-map, length-map, drop_all)

pub rest_is : (pats all_but_last back : List ℕ) (n m : ℕ) → m ≡ length pats - (length pats - n) → all_but_last ≡ take m pats → back ≡ drop m pats
    → join (text (codes ", ")) (map p all_but_last) ++ when (not (length all_but_last == 0)) (text (codes ", "))
    ++ text (codes "..") ++ following (text (codes ", ")) true (map p back)
    ≡ comma_joined (with_rest (Some n) (map p pats))
rest_is pats all_but_last back n m h f b = search (rules, not_empty, cons_map, around, all_but_last_is, back_cut)

slice_parts : (prefix suffix : List ℕ) (slice : Option ℕ)
    → flat_map (λ id. p id ++ text (codes ", ")) prefix ++ opt (λ id. p id ++ text (codes ", ")) slice ++ flat_map (λ id. p id ++ text (codes ", ")) suffix
    ≡ flat_map (λ id. p id ++ text (codes ", ")) (prefix ++ option_to_list slice ++ suffix)
slice_parts prefix suffix slice = search (rules, flat_map-append)

pub slice_is : (prefix suffix : List ℕ) (slice : Option ℕ)
    → text (codes "[") ++ flat_map (λ id. p id ++ text (codes ", ")) prefix ++ opt (λ id. p id ++ text (codes ", ")) slice
    ++ flat_map (λ id. p id ++ text (codes ", ")) suffix ++ text (codes "]")
    ≡ text (codes "[") ++ flat_map (λ id. p id ++ text (codes ", ")) (prefix ++ option_to_list slice ++ suffix) ++ text (codes "]")
slice_is prefix suffix slice = ap (λ is. text (codes "[") ++ is ++ text (codes "]")) (slice_parts prefix suffix slice)

-- a binding with a pattern
pub bound_to : (is : List Doc) (q : ℕ) → is ++ sp ++ text (codes "@ ") ++ p q ≡ is ++ (sp ++ text (codes "@ ") ++ p q)
bound_to is q = append_assoc (is ++ sp) (text (codes "@ ")) (p q) ∙ append_assoc is sp (text (codes "@ ") ++ p q)

-- 6. Segments of a path

pub segment_alone : (s : PrintEnv) (after : Bool) (names : List (List ℕ)) (i : ℕ) (name : List ℕ)
    (lists : List (Option GenericArgs)) → i < length names → name ≡ get_or names i name → length lists < 1
    → when after (text (codes "::")) ++ name_docs s name ++ segments_from s true (drop (i + 1) names) lists ≡ segments_from s after (drop i names) lists
segment_alone s after names i name [] h e k = sym (ap (λ ns. segments_from s after ns []) (drop_item names i name h e))
segment_alone s after names i name (x ∷ xs) h e k = absurd (omega arith)

pub segment_with : (s : PrintEnv) (after : Bool) (names : List (List ℕ)) (i : ℕ) (name : List ℕ) (lists rest : List (Option GenericArgs)) (args : Option GenericArgs)
    → i < length names → name ≡ get_or names i name → lists ≡ args ∷ rest
    → when after (text (codes "::")) ++ name_docs s name ++ opt (λ a. turbofish (args_docs s a)) args ++ segments_from s true (drop (i + 1) names) rest
    ≡ segments_from s after (drop i names) lists
segment_with s after names i name lists rest args h e k = sym (ap₂ (λ ns xs. segments_from s after ns xs) (drop_item names i name h e) k)

-- 7. A block after what comes before it

pub braces_after : (before inside : List Doc) → before ++ (text (codes "{") ++ inside ++ text (codes "}")) ≡ before ++ text (codes "{") ++ inside ++ text (codes "}")
braces_after before inside = search (rules, append_assoc)

-- 8. The header of a closure that is no coroutine

pub barred_header : (kind : ClosureKind) (xs : List (List Doc)) (ret : Option ℕ)
    → ((k : CoroutineKind) (source : CoroutineSource) → kind ≡ closure.Coroutine k source → ⊥) → header closure.Closure xs ret ≡ header kind xs ret
barred_header (closure.Coroutine k source) xs ret h = absurd (h k source refl)
barred_header kind xs ret h = refl
