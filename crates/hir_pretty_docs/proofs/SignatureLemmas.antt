-- The documents of a function type by its parameters and its result.
use Rattle.std.proofs.Common.{◌≡◌, ℕ, ◌-◌, Bool, true, false, List, [], ◌∷◌, ◌++◌, codes, map, length, Option, refl, sym, ap, ◌∙◌}
use Rattle.std.proofs.Common.{arith, append_assoc, append-nil, length-append, ◌&&◌, ◌==◌, not, flat_map, rules}
use Rattle.hir_pretty_docs.specs.Prelude.{Doc, text, t, when, join, comma_joined, all_but_last, last, varargs_docs, signature_docs}
use Rattle.hir_pretty_docs.proofs.{ListLemmas.is_cons, OrderLemmas.not_empty}

-- the types of parameters
abbrev pub types_of : List (Option (List ℕ) × ℕ) → List ℕ
types_of xs = map (λ (entry : Option (List ℕ) × ℕ). entry.1) xs

all_but_last_cut : (bs : List (Option (List ℕ) × ℕ)) (x : Option (List ℕ) × ℕ) → all_but_last (types_of (bs ++ (x ∷ []))) ≡ types_of bs
all_but_last_cut [] x = refl
all_but_last_cut (b ∷ []) x = refl
all_but_last_cut (b ∷ c ∷ bs) x = ap (λ rest. b.1 ∷ rest) (all_but_last_cut (c ∷ bs) x)

lasts : (bs : List (Option (List ℕ) × ℕ)) (x : Option (List ℕ) × ℕ) → last (types_of (bs ++ (x ∷ []))) ≡ t x.1
lasts [] x = refl
lasts (b ∷ []) x = refl
lasts (b ∷ c ∷ bs) x = lasts (c ∷ bs) x

each_type : (bs : List (Option (List ℕ) × ℕ)) → map (λ (entry : Option (List ℕ) × ℕ). t entry.1) bs ≡ map t (types_of bs)
each_type [] = refl
each_type (b ∷ bs) = ap (λ rest. t b.1 ∷ rest) (each_type bs)

dots : (v : Bool) (is : List Doc) (bs : List (Option (List ℕ) × ℕ))
    → is ++ when (v && is_cons bs) (text (codes ", ")) ++ when v (text (codes "...")) ≡ is ++ varargs_docs v (types_of bs)
dots false is bs = append-nil (is ++ [])
dots true is [] = ap (λ xs. xs ++ text (codes "...")) (append-nil is)
dots true is (b ∷ bs) = append_assoc is (text (codes ", ")) (text (codes "..."))

-- what is written of the parameters and of the result
abbrev pub written : Bool → List (Option (List ℕ) × ℕ) → List (Option (List ℕ) × ℕ) → List Doc
written v bs ret =
    text (codes "fn(") ++ join (text (codes ", ")) (map (λ (entry : Option (List ℕ) × ℕ). t entry.1) bs) ++ when (v && not (length bs == 0)) (text (codes ", "))
    ++ when v (text (codes "...")) ++ text (codes ") -> ") ++ flat_map (λ (entry : Option (List ℕ) × ℕ). t entry.1) ret

parts : (v : Bool) (bs ret : List (Option (List ℕ) × ℕ))
    → written v bs ret ≡ text (codes "fn(") ++ comma_joined (map t (types_of bs)) ++ varargs_docs v (types_of bs)
    ++ text (codes ") -> ") ++ flat_map (λ (entry : Option (List ℕ) × ℕ). t entry.1) ret
parts v bs ret =
    let tail = flat_map (λ (entry : Option (List ℕ) × ℕ). t entry.1) ret in
    ap (λ xs. text (codes "fn(") ++ comma_joined xs ++ when (v && not (length bs == 0)) (text (codes ", "))
    ++ when v (text (codes "...")) ++ text (codes ") -> ") ++ tail) (each_type bs)
    ∙ ap (λ b. text (codes "fn(") ++ comma_joined (map t (types_of bs)) ++ when (v && b) (text (codes ", "))
    ++ when v (text (codes "...")) ++ text (codes ") -> ") ++ tail) (not_empty bs)
    ∙ ap (λ is. is ++ text (codes ") -> ") ++ tail) (dots v (text (codes "fn(") ++ comma_joined (map t (types_of bs))) bs)

pub signature_is : (v : Bool) (params bs ret : List (Option (List ℕ) × ℕ)) → params ≡ bs ++ ret → length bs ≡ length params - 1
    → written v bs ret ≡ signature_docs v (map (λ (entry : Option (List ℕ) × ℕ). entry.1) params)
signature_is v params [] [] h k = parts v [] [] ∙ ap (λ xs. signature_docs v (types_of xs)) (sym h)
signature_is v params (b ∷ bs) [] h k = absurd (let l = ap length h in let m = length-append (b ∷ bs) [] in omega arith)
signature_is v params bs (x ∷ []) h k = search (rules, arith, parts v bs (x ∷ []), all_but_last_cut bs x, lasts bs x)
signature_is v params bs (x ∷ y ∷ more) h k = absurd (let l = ap length h in let m = length-append bs (x ∷ y ∷ more) in omega arith)
