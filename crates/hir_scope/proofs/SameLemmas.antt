-- How scopes are kept, and when they are the same.
use Rattle.std.proofs.Common.{◌≡◌, ℕ, zero, suc, ◌+◌, ◌-◌, ◌<◌, ◌≤◌, ◌⊎◌, inl, inr, List, [], ◌∷◌, ◌++◌, Option, Some, length, take, rules}
use Rattle.std.proofs.Common.{drop, refl, ap, sym, ◌∙◌, subst, arith, Bool, true, false, cond, get_or, length-append, ◌&&◌, Decides}
use Rattle.std.proofs.lemmas.List.{take-append-le, drop-append-le, drop_at, take_all, length-drop, length-take-le, length_push}
use Rattle.std.proofs.lemmas.List.{map-append, drop_all}
use Rattle.std.proofs.lemmas.List.{Folds.drop_split, Sums.sum_by-append}
use Rattle.std.proofs.lemmas.Option.{none-some, slice_get-map, slice_get_read}
use Rattle.std.specs.Cmp.{nat_cmp_total, unsigned_Decides}
use Rattle.std.specs.Cmp.Lexicographic.{pointwise, pointwise_decides}
use Rattle.std.specs.FinMap as finmap
use Rattle.std.specs.{List.slice_get, Ordering.nat_cmp, Ordering.eq_by_cmp, Prelude.option_map, Prelude.eqb}
use Rattle.hir_collections.specs.Maps.{same_maps, same_maps_decides}
use Rattle.hir_path.specs.same.Fields.{both}
use Rattle.hir_scope.specs.Flat.{entries_in, scope_of, scopes_of, FollowEachOther, IsFlat}
use Rattle.hir_scope.specs.Scopes.{Scopes, Scope, IsBelow, ParentsStandEarlier, entry_count}
use Rattle.hir_scope.specs.contracts.expr_scopes.ScopeDataExactEq.TheImpl.Laws as row_law
use Rattle.hir_scope.specs.contracts.expr_scopes.ScopeDataPartialEq.TheImpl as row
use Rattle.hir_scope.specs.contracts.scope.ScopeEntryExactEq.TheImpl.Laws as entry_law
use Rattle.hir_scope.specs.contracts.scope.ScopeEntryPartialEq.TheImpl as entry
use Rattle.hir_scope.specs.declared.{expr_scopes.ScopeData.ScopeData, scope.ScopeEntry.ScopeEntry}
use Rattle.hir_scope.specs.same.SameScopes.{same_scopes, scopes_decide}
use Rattle.std.proofs.lemmas.Grind.{common_steps}

-- 1. Ranges that follow each other in one list: what a range holds, and what one range more changes.

pub follow_rises : (from : ℕ) (rows : List ScopeData) (last : ℕ) → FollowEachOther from rows last → from ≤ last
follow_rises from [] last h = omega (arith, h)
follow_rises from (row ∷ rows) last h = let r = follow_rises row.end rows last h.2 in omega (arith, h.1, r)

-- a range begins before it ends, and ends within the list
pub range_at : (from : ℕ) (rows : List ScopeData) (last i : ℕ) (row : ScopeData) → FollowEachOther from rows last →
    slice_get rows i ≡ Some row → (row.start ≤ row.end) × (row.end ≤ last)
range_at from [] last i row h e = absurd cc
range_at from (first ∷ rows) last zero row h e = search (rules, follow_rises)
range_at from (first ∷ rows) last (suc i) row h e = range_at first.end rows last i row h.2 e

pub follow_push : (from : ℕ) (rows : List ScopeData) (last : ℕ) (row : ScopeData) → FollowEachOther from rows last →
    row.start ≡ last → last ≤ row.end → FollowEachOther from (rows ++ row ∷ []) row.end
follow_push from [] last row h s e = (omega (arith, h, s), omega (arith, h, e), refl)
follow_push from (first ∷ rows) last row h s e = (h.0, h.1, follow_push first.end rows last row h.2 s e)

-- the entries of a range are those between its ends
pub range_kept : (xs ys : List ScopeEntry) (row : ScopeData) → row.start ≤ row.end → row.end ≤ length xs →
    entries_in (xs ++ ys) row ≡ entries_in xs row
range_kept xs ys row b w = search (rules, drop-append-le, take-append-le, length-drop)

pub scopes_kept : (xs ys : List ScopeEntry) (from : ℕ) (rows : List ScopeData) →
    FollowEachOther from rows (length xs) → scopes_of (xs ++ ys) rows ≡ scopes_of xs rows
scopes_kept xs ys from [] h = refl
scopes_kept xs ys from (row ∷ rows) h = search (rules, range_kept, follow_rises, scopes_kept xs ys row.end rows h.2)

-- the entries of the range at the end
pub range_new : (xs ys : List ScopeEntry) (row : ScopeData) → row.start ≡ length xs → row.end
    ≡ length xs + length ys → entries_in (xs ++ ys) row ≡ ys
range_new xs ys row s e = search (rules, drop_at, take_all)

pub length_in : (xs : List ScopeEntry) (row : ScopeData) → row.start ≤ row.end → row.end ≤ length xs →
    length (entries_in xs row) ≡ row.end - row.start
length_in xs row b w = length-take-le (row.end - row.start) (drop row.start xs) (omega (arith, b, w, length-drop row.start xs))

-- all entries are in the ranges
pub entries_are_counted : (xs : List ScopeEntry) (from : ℕ) (rows : List ScopeData) →
    FollowEachOther from rows (length xs) → entry_count (scopes_of xs rows) + from ≡ length xs
entries_are_counted xs from [] h = omega (arith, h)
entries_are_counted xs from (row ∷ rows) h =
    grind (arith, common_steps, length_in, follow_rises, sum_by-append, entries_are_counted xs row.end rows h.2)

-- what scopes are seen as

pub parents_seen : (es : List ScopeEntry) (rows : List ScopeData) →
    ((i : ℕ) (row : ScopeData) → slice_get rows i ≡ Some row → IsBelow i row.parent) →
    ParentsStandEarlier (scopes_of es rows)
parents_seen es rows h i s e = search (rules, slice_get-map)

-- a scope that exists is seen by its range
pub scope_seen : (es : List ScopeEntry) (rows : List ScopeData) (i : ℕ) (row : ScopeData) → slice_get rows i
    ≡ Some row → slice_get (scopes_of es rows) i ≡ Some (scope_of es row)
scope_seen es rows i row e = slice_get-map (scope_of es) rows i ∙ ap (option_map (scope_of es)) e

pub length_seen : (es : List ScopeEntry) (rows : List ScopeData) → length (scopes_of es rows) ≡ length rows
length_seen es [] = refl
length_seen es (row ∷ rows) = ap suc (length_seen es rows)

-- a scope that is seen has a range
pub row_seen : (es : List ScopeEntry) (rows : List ScopeData) (m : finmap.FinMap nat_cmp ℕ) (seen : Scopes)
    (scope i : ℕ) (row : ScopeData) → record { scopes = scopes_of es rows; scope_by_expr = m } ≡ seen →
    scope < length seen.scopes → i ≡ scope → row ≡ get_or rows i row → slice_get rows i ≡ Some row
row_seen es rows m seen scope i row view l is e = search (rules, slice_get_read, length_seen)

-- the scope of each expression is below n
abbrev pub AreBelow : finmap.FinMap nat_cmp ℕ → ℕ → Type 0
AreBelow m n = (expr scope : ℕ) → finmap.get m expr ≡ Some scope → scope < n

-- a value that was written is the one written, or that from before
pub at_or_before : (b : Bool) (v : ℕ) (o : Option ℕ) (w : ℕ) → cond b (Some v) o ≡ Some w → ((b ≡ true) × (v ≡ w)) ⊎ (o ≡ Some w)
at_or_before true v o w e = inl (refl, (cc))
at_or_before false v o w e = inr e

pub below_inserted : (m : finmap.FinMap nat_cmp ℕ) (n e s : ℕ) → AreBelow m n → s < n → AreBelow (finmap.insert m e s) n
below_inserted m n e s h l expr scope q =
    grind (
      arith,
      common_steps,
      (at_or_before (eq_by_cmp nat_cmp expr e) s (finmap.get m expr) scope (sym (finmap.get-insert nat_cmp_total m e s expr) ∙ q)),
    )

pub flat_empty : IsFlat [] [] finmap.empty
flat_empty = record {
  fill = refl;
  parents = λ i row e. absurd cc;
  in_range = λ expr scope e. absurd (none-some scope (sym (finmap.get-empty nat_cmp expr) ∙ e));
  few_scopes = omega arith;
  few_entries = omega arith;
}

pub flat_set : (es : List ScopeEntry) (rows : List ScopeData) (m : finmap.FinMap nat_cmp ℕ) (e s : ℕ) →
    IsFlat es rows m → s < length rows → IsFlat es rows (finmap.insert m e s)
flat_set es rows m e s f l = search (rules, below_inserted)

below_with_one : (rows : List ScopeData) (row : ScopeData) (n : ℕ) →
    ((i : ℕ) (x : ScopeData) → slice_get rows i ≡ Some x → IsBelow (n + i) x.parent) →
    IsBelow (n + length rows) row.parent → (i : ℕ) (x : ScopeData) → slice_get (rows ++ row ∷ []) i ≡ Some x →
    IsBelow (n + i) x.parent
below_with_one [] row n h b zero x q = let k : row ≡ x = cc in subst (λ (y : ScopeData). IsBelow (n + 0) y.parent) k b
below_with_one [] row n h b (suc i) x q = absurd cc
below_with_one (first ∷ rows) row n h b zero x q = h zero x q
below_with_one (first ∷ rows) row n h b (suc i) x q =
    let shift : (j : ℕ) → suc n + j ≡ n + suc j = λ j. omega arith in
    subst (λ m. IsBelow m x.parent) (shift i)
    (below_with_one rows row (suc n) (λ j y r. subst (λ m. IsBelow m y.parent) (sym (shift j)) (h (suc j) y r))
    (subst (λ m. IsBelow m row.parent) (sym (shift (length rows))) b) i x q)

-- one scope more, of entries that are put last
pub flat_push : (es more : List ScopeEntry) (rows : List ScopeData) (m : finmap.FinMap nat_cmp ℕ) (row : ScopeData) → IsFlat es rows m →
    row.start ≡ length es → row.end ≡ length es + length more → IsBelow (length rows) row.parent →
    length rows < 4294967295 → length es + length more ≤ 4294967295 → IsFlat (es ++ more) (rows ++ row ∷ []) m
flat_push es more rows m row f s e b n k = record {
  fill = subst (FollowEachOther 0 (rows ++ row ∷ [])) (e ∙ sym (length-append es more))
      (follow_push 0 rows (length es) row f.fill s (omega (arith, e)));
  parents = λ i x q. parent_pushed i x q;
  in_range = λ expr scope q. let l = f.in_range expr scope q in omega (arith, l, length_push rows row);
  few_scopes = omega (arith, n, length_push rows row);
  few_entries = omega (arith, k, length-append es more);
} where
  parent_pushed : (i : ℕ) (x : ScopeData) → slice_get (rows ++ row ∷ []) i ≡ Some x → IsBelow i x.parent
  parent_pushed i x q =
      let from_zero : (j : ℕ) → 0 + j ≡ j = λ j. omega arith in
      subst (λ m. IsBelow m x.parent) (from_zero i)
      (below_with_one rows row 0 (λ j y r. subst (λ m. IsBelow m y.parent) (sym (from_zero j)) (f.parents j y r))
      (subst (λ m. IsBelow m row.parent) (sym (from_zero (length rows))) b) i x q)

pub seen_pushed : (es more : List ScopeEntry) (rows : List ScopeData) (row : ScopeData) → FollowEachOther 0 rows (length es) →
    row.start ≡ length es → row.end ≡ length es + length more →
    scopes_of (es ++ more) (rows ++ row ∷ []) ≡ scopes_of es rows ++ record { parent = row.parent; kind = row.kind; entries = more } ∷ []
seen_pushed es more rows row f s e = search (rules, map-append, scopes_kept, range_new)

-- more scopes, or more entries, than there may be, where there is one scope more with n entries
abbrev pub TooMany : List Scope → ℕ → Type 0
TooMany scopes n = (4294967295 < length scopes + 1) ⊎ (4294967295 < entry_count scopes + n)

pub scopes_too_many : (es : List ScopeEntry) (rows : List ScopeData) (n : ℕ) → 4294967295 ≤ length rows → TooMany (scopes_of es rows) n
scopes_too_many es rows n h = inl (omega (arith, h, length_seen es rows))

pub entries_too_many : (es : List ScopeEntry) (rows : List ScopeData) (n : ℕ) → FollowEachOther 0 rows (length es) →
    4294967295 < length es + n → TooMany (scopes_of es rows) n
entries_too_many es rows n f h = inr (omega (arith, h, entries_are_counted es 0 rows f))

pub not_too_many : (es : List ScopeEntry) (rows : List ScopeData) (n : ℕ) → FollowEachOther 0 rows (length es) →
    length rows < 4294967295 → length es + n ≤ 4294967295 → TooMany (scopes_of es rows) n → ⊥
not_too_many es rows n f h k (inl w) = absurd (omega (arith, h, w, length_seen es rows))
not_too_many es rows n f h k (inr w) = absurd (omega (arith, k, w, entries_are_counted es 0 rows f))

-- 2. Scopes are the same exactly where what keeps them is.

pub kept_once : (xs ys : List ScopeEntry) (from : ℕ) (rows others : List ScopeData) →
    FollowEachOther from rows (length xs) → FollowEachOther from others (length ys) →
    scopes_of xs rows ≡ scopes_of ys others → (rows ≡ others) × (drop from xs ≡ drop from ys)
kept_once xs ys from [] [] f g e = (refl, drop_all from xs (omega (arith, f)) ∙ sym (drop_all from ys (omega (arith, g))))
kept_once xs ys from [] (other ∷ others) f g e = absurd cc
kept_once xs ys from (row ∷ rows) [] f g e = absurd cc
kept_once xs ys from (row ∷ rows) (other ∷ others) f g e =
    let h : scope_of xs row ≡ scope_of ys other = cc in
    let t : scopes_of xs rows ≡ scopes_of ys others = cc in
    let es : entries_in xs row ≡ entries_in ys other = λ i. (h i).entries in
    let m = length_in xs row (omega (arith, f.0, f.1)) (follow_rises row.end rows (length xs) f.2) in
    let n = length_in ys other (omega (arith, g.0, g.1)) (follow_rises other.end others (length ys) g.2) in
    let starts : row.start ≡ other.start = f.0 ∙ sym g.0 in
    let ends : row.end ≡ other.end = omega (arith, f.0, f.1, g.0, g.1, m, n, ap (length {A = ScopeEntry}) es) in
    let same : row ≡ other = λ i. record { parent = (h i).parent; kind = (h i).kind; start = starts i; end = ends i } in
    let r = kept_once xs ys row.end rows others f.2 (subst (λ k. FollowEachOther k others (length ys)) (sym ends) g.2) t in (
      λ i. same i ∷ r.0 i,
      subst (λ k. drop k xs ≡ drop k ys) f.0
          (drop_split xs row.start row.end (omega (arith, f.0, f.1))
          ∙ (λ i. es i ++ r.1 i)
          ∙ ap (λ k. take (other.end - other.start) (drop other.start ys) ++ drop k ys) ends
          ∙ sym (drop_split ys other.start other.end (omega (arith, g.0, g.1)))
          ∙ ap (λ k. drop k ys) (sym starts)),
    )

-- two tests that decide the same
pub one_test : {P Q : Type 0} (a b : Bool) → Decides a P → Decides b Q → (P → Q) → (Q → P) → a ≡ b
one_test true true p q to from = refl
one_test false false p q to from = refl
one_test true false p q to from = let r : false ≡ true = q.1 (to (p.0 refl)) in absurd cc
one_test false true p q to from = let r : false ≡ true = p.1 (from (q.0 refl)) in absurd cc

-- tests of the three parts of what keeps scopes are, one after the other, the test of the scopes
pub all_tests : (xs ys : List ScopeEntry) (rows others : List ScopeData) (m n : finmap.FinMap nat_cmp ℕ) →
    IsFlat xs rows m → IsFlat ys others n →
    (a b c : Bool) → a ≡ pointwise row.ghosts.eq rows others → b ≡ pointwise entry.ghosts.eq xs ys → c ≡ same_maps nat_cmp eqb m n →
    a && (b && c) ≡ same_scopes (record { scopes = scopes_of xs rows; scope_by_expr = m })
    (record { scopes = scopes_of ys others; scope_by_expr = n })
all_tests xs ys rows others m n f g a b c p q r =
    let maps = subst (λ t. Decides t (m ≡ n)) (sym r)
    (same_maps_decides nat_cmp_total eqb finmap.nat_cmp-IsAntisymmetric unsigned_Decides m n) in
    let lists = subst (λ t. Decides t (xs ≡ ys)) (sym q) (pointwise_decides entry_law.lawful.eq_decides xs ys) in
    let ranges = subst (λ t. Decides t (rows ≡ others)) (sym p) (pointwise_decides row_law.lawful.eq_decides rows others) in
    one_test (a && (b && c)) _ (both a (b && c) ranges (both b c lists maps))
    (scopes_decide (record { scopes = scopes_of xs rows; scope_by_expr = m }) (record { scopes = scopes_of ys others; scope_by_expr = n }))
    (λ e i. record { scopes = scopes_of (e.1.0 i) (e.0 i); scope_by_expr = e.1.1 i })
    (λ e.
    let k = kept_once xs ys 0 rows others f.fill g.fill (λ i. (e i).scopes) in
    (k.0, (k.1, λ i. (e i).scope_by_expr)))
