-- A `HashMap` as a finite map: what a look-up, an insertion, an iteration and a comparison mean.
use Rattle.std.proofs.Common.{◌≡◌, ℕ, List, [], ◌∷◌, Bool, true, false, cond, length, ◌⊎◌, refl, ap, sym, ◌∙◌, subst, inl, inr, ⊎_elim, Decides, arith, rules}
use Rattle.std.specs.Cmp.{unsigned_Decides}
use Rattle.std.specs.Prelude.{◌==◌, Option, Some, None, IsSome, OnSome, option_map}
use Rattle.std.specs.Bool.{one_answer}
use Rattle.std.specs.declared.cmp.Ordering.TheVariants.{Less, Equal, Greater}
use Rattle.std.specs.Ordering.{eq_by_cmp, is_eq}
use Rattle.std.specs.Cmp.Lexicographic.{nat_list_cmp_total}
use Rattle.std.specs.List.{IsDistinct, AllByRecursion, AllZip}
use Rattle.std.proofs.lemmas.List.Elements.{same_from_all_zip}
use Rattle.std.specs.List.Sorted.{IsPermutation}
use Rattle.std.proofs.lemmas.List.Sorted.{IsPermutation-refl, IsPermutation-cons, IsPermutation-swap, IsPermutation-trans}
use Rattle.std.specs.Map.{lookup, keys_of}
use Rattle.std.specs.FinMap as map
use Rattle.std.specs.FinMap.Entries.{find, put, by_order}
use Rattle.hir_collections.specs.Table.{by_code, by_code-IsAntisymmetric, by_code_decides, by_codes, table_of}

nothing : {A : Type 0} (es : List A) → length es ≡ 0 → es ≡ []
nothing [] e = refl
nothing (x ∷ es) e = absurd (omega arith)

-- to put a new key is to add its entry somewhere
put_new : {V : Type 0} (c : List ℕ) (v : V) (es : List (List ℕ × V)) → find by_code c es ≡ None → IsPermutation ((c, v) ∷ es) (put by_code c v es)
put_new c v [] h = IsPermutation-refl _
put_new c v (e ∷ es) h =
    elim (by_code c e.0) as (λ o. by_code c e.0 ≡ o → IsPermutation ((c, v) ∷ e ∷ es) (by_order o ((c, v) ∷ e ∷ es) ((e.0, v) ∷ es) (e ∷ put by_code c v es))) [
      | Less ↦ λ t. IsPermutation-refl _
      | Equal ↦ λ t.
          let found : Some e.1 ≡ None = sym (ap (λ o. cond (is_eq o) (Some e.1) (find by_code c es)) t) ∙ h in
          absurd (cc)
      | Greater ↦ λ t.
          let later : find by_code c es ≡ None = sym (ap (λ o. cond (is_eq o) (Some e.1) (find by_code c es)) t) ∙ h in
          IsPermutation-trans _ _ _ (IsPermutation-swap ((c, v) ∷ e ∷ es) (e ∷ (c, v) ∷ es) 0 1 (omega arith) (omega arith) refl) (IsPermutation-cons e _ _ (put_new c v es later))
    ] refl

-- P holds of a lookup that lends a value, if P follows from the value that is found
pub when_some : {A B P : Type 0} (f : A → B) (r : Option A) (o : Option B) → option_map f r ≡ o → (IsSome o → P) → OnSome r P
when_some f None o e h = search rules
when_some f (Some x) o e h = h (subst IsSome e (search rules))

same_test : {K : Type 0} (code : K → List ℕ) (E : K → K → Bool) → ((x y : K) → Decides (E x y) (code x ≡ code y)) → (k q : K) → E k q ≡ eq_by_cmp by_code (code k) (code q)
same_test code E tells k q = one_answer (E k q) _ (tells k q) (by_code_decides (code k) (code q))

-- a clone, where clones of keys and of values are the same
pub table_of-clone : {K V : Type 0} (code : K → List ℕ) (C : K → K → Type 0) (D : V → V → Type 0) → ((x y : K) → C x y → y ≡ x) → ((x y : V) → D x y → y ≡ x)
    → (es fs : List (K × V)) → AllZip (λ p q. C p.0 q.0 × D p.1 q.1) es fs → table_of code fs ≡ table_of code es
table_of-clone code C D key value es fs clones =
    ap (table_of code) (same_from_all_zip (λ p q. C p.0 q.0 × D p.1 q.1) es fs clones (λ p q same i. (key p.0 q.0 same.0 i, value p.1 q.1 same.1 i)))

-- a map of no entries is the empty one
pub empty_by_len : {V : Type 0} (m : map.FinMap by_code V) → Decides (map.len m == 0) (m ≡ map.empty)
empty_by_len {V = V} m = (
  λ h.
      let none : map.entries m ≡ [] = nothing _ (sym (map.len-entries m) ∙ (unsigned_Decides _ _).0 h) in
      let none' : map.entries (map.empty {X = V} {R = by_code}) ≡ [] = nothing _ (sym (map.len-entries map.empty) ∙ map.len-empty by_code V) in
      map.same_entries_map m map.empty (none ∙ sym none'),
  λ e. (unsigned_Decides _ _).1 (ap map.len e ∙ map.len-empty by_code V),
)

module _ {K V : Type 0} (code : K → List ℕ) where
  -- a key with the code c, or none of the entries has it
  key_at : (c : List ℕ) (es : List (K × V)) → ((q : K) × (code q ≡ c)) ⊎ (find by_code c (by_codes code es) ≡ None)
  key_at c [] = inr refl
  key_at c (e ∷ es) =
      elim (eq_by_cmp by_code c (code e.0)) as (λ b. eq_by_cmp by_code c (code e.0) ≡ b → ((q : K) × (code q ≡ c)) ⊎ (cond b (Some e.1) (find by_code c (by_codes code es)) ≡ None)) [
        | true ↦ λ h. inl (e.0, sym ((by_code_decides c (code e.0)).0 h))
        | false ↦ λ h. key_at c es
      ] refl

  module _ (E : K → K → Bool) (tells : (x y : K) → Decides (E x y) (code x ≡ code y)) where
    found : (k : K) (es : List (K × V)) → lookup (E k) es ≡ find by_code (code k) (by_codes code es)
    found k [] = refl
    found k (e ∷ es) = ap (λ b. cond b (Some e.1) (lookup (E k) es)) (same_test code E tells k e.0) ∙ ap (cond (eq_by_cmp by_code (code k) (code e.0)) (Some e.1)) (found k es)

    -- a look-up
    pub get-table_of : (k : K) (es : List (K × V)) → map.get (table_of code es) (code k) ≡ lookup (E k) es
    get-table_of k es = map.get-from_entries nat_list_cmp_total (by_codes code es) (code k) ∙ sym (found k es)

    -- tables whose lookups agree at each key are the same map
    pub alike : (es fs : List (K × V)) → ((q : K) → lookup (E q) es ≡ lookup (E q) fs) → table_of code es ≡ table_of code fs
    alike es fs same =
        let of_key : (c : List ℕ) → (q : K) × (code q ≡ c) → find by_code c (by_codes code es) ≡ find by_code c (by_codes code fs) =
        λ c q. subst (λ d. find by_code d (by_codes code es) ≡ find by_code d (by_codes code fs)) q.1 (sym (found q.0 es) ∙ same q.0 ∙ found q.0 fs)
        in
        map.same_map nat_list_cmp_total by_code-IsAntisymmetric _ _ (λ c.
        map.get-from_entries nat_list_cmp_total (by_codes code es) c
        ∙ ⊎_elim (of_key c) (λ none. ⊎_elim (of_key c) (λ none'. none ∙ sym none') (key_at c fs)) (key_at c es)
        ∙ sym (map.get-from_entries nat_list_cmp_total (by_codes code fs) c))

    -- a comparison
    pub same_tables : (es fs : List (K × V)) (r : Bool) → Decides r ((q : K) → lookup (E q) es ≡ lookup (E q) fs) → Decides r (table_of code es ≡ table_of code fs)
    same_tables es fs r d = (
      λ h. alike es fs (d.0 h),
      λ e. d.1 (λ q. sym (get-table_of q es) ∙ ap (λ m. map.get m (code q)) e ∙ get-table_of q fs),
    )

    -- a table with no entries
    pub none_left : (es : List (K × V)) → length es ≡ 0 → table_of code es ≡ map.empty
    none_left [] h = map.same_map nat_list_cmp_total by_code-IsAntisymmetric _ _ (λ c. map.get-from_entries nat_list_cmp_total [] c ∙ sym (map.get-empty by_code c))
    none_left (e ∷ es) h = absurd (omega arith)

    pub none_there : (es : List (K × V)) → table_of code es ≡ map.empty → length es ≡ 0
    none_there [] h = refl
    none_there (e ∷ es) h =
        let here : E e.0 e.0 ≡ true = (tells e.0 e.0).1 refl in
        let found : Some e.1 ≡ None =
        sym (ap (λ b. cond b (Some e.1) (lookup (E e.0) es)) here) ∙ sym (get-table_of e.0 (e ∷ es)) ∙ ap (λ m. map.get m (code e.0)) h ∙ map.get-empty by_code (code e.0)
        in
        absurd (cc)

    absent : (k : K) (es : List (K × V)) → AllByRecursion (λ y. E k y ≡ false) (keys_of es) → lookup (E k) es ≡ None
    absent k [] h = refl
    absent k (e ∷ es) h = ap (λ b. cond b (Some e.1) (lookup (E k) es)) h.0 ∙ absent k es h.1

    -- an iteration: the entries of the map, in some order
    pub entries-table_of : (es : List (K × V)) → IsDistinct E (keys_of es) → IsPermutation (by_codes code es) (map.entries (table_of code es))
    unfolding IsDistinct
    entries-table_of [] h =
        let none : map.entries (table_of code []) ≡ [] = nothing _ (sym (map.len-entries (table_of code [])) ∙ map.len-empty by_code V) in
        subst (IsPermutation []) (sym none) (IsPermutation-refl [])
    entries-table_of (e ∷ es) h =
        let m = table_of code es in
        let new : find by_code (code e.0) (map.entries m) ≡ None = sym (map.get-entries m (code e.0)) ∙ get-table_of e.0 es ∙ absent e.0 es h.0 in
        subst (IsPermutation (by_codes code (e ∷ es))) (sym (map.entries-insert nat_list_cmp_total m (code e.0) e.1))
        (IsPermutation-trans _ _ _ (IsPermutation-cons (code e.0, e.1) _ _ (entries-table_of es h.1)) (put_new (code e.0) e.1 (map.entries m) new))

    module _ (k : K) (v : V) (es fs : List (K × V)) (updates : (q : K) → lookup (E q) fs ≡ cond (E k q) (Some v) (lookup (E q) es)) where
      abbrev wanted : List ℕ → Option V
      wanted c = cond (eq_by_cmp by_code c (code k)) (Some v) (find by_code c (by_codes code es))

      at_key : (q : K) → find by_code (code q) (by_codes code fs) ≡ wanted (code q)
      at_key q =
          let here : E k q ≡ eq_by_cmp by_code (code q) (code k) =
          one_answer (E k q) _ (tells k q) (λ h. sym ((by_code_decides (code q) (code k)).0 h), λ e. (by_code_decides (code q) (code k)).1 (sym e))
          in
          sym (found q fs) ∙ updates q ∙ ap (λ b. cond b (Some v) (lookup (E q) es)) here ∙ ap (cond (eq_by_cmp by_code (code q) (code k)) (Some v)) (found q es)

      at_code : (c : List ℕ) → find by_code c (by_codes code fs) ≡ wanted c
      at_code c =
          let of_key : (q : K) × (code q ≡ c) → find by_code c (by_codes code fs) ≡ wanted c =
          λ q. subst (λ d. find by_code d (by_codes code fs) ≡ wanted d) q.1 (at_key q.0)
          in
          ⊎_elim of_key (λ none_after. ⊎_elim of_key (λ none_before.
          elim (eq_by_cmp by_code c (code k)) as (λ b. eq_by_cmp by_code c (code k) ≡ b → find by_code c (by_codes code fs) ≡ wanted c) [
            | true ↦ λ h. of_key (k, sym ((by_code_decides c (code k)).0 h))
            | false ↦ λ h. none_after ∙ sym none_before ∙ sym (ap (λ b. cond b (Some v) (find by_code c (by_codes code es))) h)
          ] refl) (key_at c es)) (key_at c fs)

      -- an insertion
      pub table_of_insert : table_of code fs ≡ map.insert (table_of code es) (code k) v
      table_of_insert =
          map.same_map nat_list_cmp_total by_code-IsAntisymmetric _ _ (λ c.
          map.get-from_entries nat_list_cmp_total (by_codes code fs) c
          ∙ at_code c
          ∙ sym (map.get-insert nat_list_cmp_total (table_of code es) (code k) v c ∙ ap (cond (eq_by_cmp by_code c (code k)) (Some v)) (map.get-from_entries nat_list_cmp_total (by_codes code es) c)))
