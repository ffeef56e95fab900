-- The parents of a graph's nodes as its rows are read: a row begins, and a child is added to the last one.
use Rattle.std.proofs.Common.{◌≡◌, ◌≢◌, ℕ, zero, suc, ◌+◌, ◌-◌, ◌<◌, ◌⊎◌, ◌↔◌, List, [], ◌∷◌, ◌++◌, Option, Some, None, true, false, length, get_or, set, take, map, replicate, inl, inr, ⊎_elim, refl, ap, sym, ◌∙◌, subst, arith, add-one, append_assoc, Contains}
use Rattle.std.specs.Prelude.{is_some}
use Rattle.std.specs.Option.{option_or}
use Rattle.std.proofs.lemmas.Bool.{cases_eq, cases_lt, false≢true}
use Rattle.std.proofs.lemmas.List.{append-nil, take-append-le, take_at, get_or_append_left, get_or_push, get_or_past, get_or-map, get_or-replicate, get_or-set_same, get_or-set_other, length_push, length-set, length-replicate, map-set, take_more}
use Rattle.std.proofs.lemmas.List.Elements.{Contains-push, Contains-push_cases, Contains-append_left}
use Rattle.std.specs.List.{concat}
use Rattle.hir_forest.specs.declared.roots.ForestFault.{ForestFault}
use Rattle.hir_forest.specs.declared.roots.ForestFault.TheVariants.{SharedChild}
use Rattle.hir_forest.specs.Verdict.{◌unless◌, first_below}
use Rattle.hir_forest.specs.Rows.{with_children}
use Rattle.hir_forest.specs.Forest.{IsChild}
use Rattle.hir_forest.specs.Faults.{edge_fault}
use Rattle.hir_forest.specs.internal.Parents.{parent_of, NameNodes}
use Rattle.hir_forest.specs.Parents.{HasParent, HasParents, Parentage, shared_fault, IsParentageOf}
use Rattle.hir_forest.proofs.ForestLemmas.{parent_of_child, child_of_parent}
use Rattle.hir_forest.proofs.RowsLemmas.{with_children-more, with_children-fresh, length-with_children}

clash : {X : Type 0} (x : X) (P : Type 0) → None ≡ Some x → P
clash x P e = absurd (let h : ⊥ = cc in h)

same_some : {X : Type 0} (x y : X) → Some x ≡ Some y → x ≡ y
same_some x y e = cc

-- the children of a graph with an empty row more, and with children more
concat-begun : (g : List (List ℕ)) → concat (g ++ [] ∷ []) ≡ concat g
concat-begun [] = refl
concat-begun (row ∷ g) = ap (λ rest. row ++ rest) (concat-begun g)

pub concat-with_children : (g : List (List ℕ)) (children : List ℕ) → 0 < length g → concat (with_children g children) ≡ concat g ++ children
concat-with_children [] children h = absurd (omega arith)
concat-with_children (row ∷ []) children h = append-nil (row ++ children) ∙ sym (ap (λ t. t ++ children) (append-nil row))
concat-with_children (row ∷ next ∷ g) children h =
    ap (λ t. row ++ t) (concat-with_children (next ∷ g) children (omega arith)) ∙ sym (append_assoc row (concat (next ∷ g)) children)

row_begun : (g : List (List ℕ)) (p : ℕ) → get_or (g ++ [] ∷ []) p [] ≡ get_or g p []
row_begun [] zero = refl
row_begun [] (suc p) = refl
row_begun (row ∷ g) zero = refl
row_begun (row ∷ g) (suc p) = row_begun g p

row_last : (g : List (List ℕ)) (children : List ℕ) (p : ℕ) → suc p ≡ length g → get_or (with_children g children) p [] ≡ get_or g p [] ++ children
row_last [] children p h = absurd (omega arith)
row_last (row ∷ []) children zero h = refl
row_last (row ∷ []) children (suc p) h = absurd (omega arith)
row_last (row ∷ next ∷ g) children zero h = absurd (omega arith)
row_last (row ∷ next ∷ g) children (suc p) h = row_last (next ∷ g) children p (omega arith)

row_other : (g : List (List ℕ)) (children : List ℕ) (p : ℕ) → suc p ≢ length g → get_or (with_children g children) p [] ≡ get_or g p []
row_other [] children p h = refl
row_other (row ∷ []) children zero h = absurd (h refl)
row_other (row ∷ []) children (suc p) h = refl
row_other (row ∷ next ∷ g) children zero h = refl
row_other (row ∷ next ∷ g) children (suc p) h = row_other (next ∷ g) children p (λ e. h (omega arith))

-- who is a child of whom, with a child more in the last row
child_more : (g : List (List ℕ)) (child p c : ℕ) → IsChild (with_children g (child ∷ [])) p c → IsChild g p c ⊎ ((suc p ≡ length g) × (child ≡ c))
child_more g child p c k =
    elim (cases_eq (suc p) (length g)) [
      | inl e ↦ ⊎_elim inl (λ h. inr (e, h)) (Contains-push_cases (get_or g p []) child c (subst (λ (row : List ℕ). Contains row c) (row_last g (child ∷ []) p e) k))
      | inr ne ↦ inl (subst (λ (row : List ℕ). Contains row c) (row_other g (child ∷ []) p ne) k)
    ]

child_kept : (g : List (List ℕ)) (child p c : ℕ) → IsChild g p c → IsChild (with_children g (child ∷ [])) p c
child_kept g child p c k =
    elim (cases_eq (suc p) (length g)) [
      | inl e ↦ subst (λ (row : List ℕ). Contains row c) (sym (row_last g (child ∷ []) p e)) (Contains-append_left (get_or g p []) (child ∷ []) c k)
      | inr ne ↦ subst (λ (row : List ℕ). Contains row c) (sym (row_other g (child ∷ []) p ne)) k
    ]

child_new : (g : List (List ℕ)) (child p : ℕ) → suc p ≡ length g → IsChild (with_children g (child ∷ [])) p child
child_new g child p e = subst (λ (row : List ℕ). Contains row child) (sym (row_last g (child ∷ []) p e)) (Contains-push (get_or g p []) child)

-- the first shared child among the children of edges, with one edge more
edge_at : List ℕ → ℕ → Option ForestFault → Type 0
edge_at before shared_child a = (SharedChild shared_child unless (Contains before shared_child → ⊥)) a

edge_same : (es : List ℕ) (child e : ℕ) → e < length es → (a : Option ForestFault) → edge_fault es e a → edge_fault (es ++ child ∷ []) e a
unfolding edge_at
edge_same es child e h a v =
    let front : take e (es ++ child ∷ []) ≡ take e es = take-append-le e es (child ∷ []) (omega arith) in
    let here : get_or (es ++ child ∷ []) e 0 ≡ get_or es e 0 = get_or_append_left es (child ∷ []) 0 e h in
    subst (λ (before : List ℕ). edge_at before (get_or (es ++ child ∷ []) e 0) a) (sym front)
    (subst (λ (shared_child : ℕ). edge_at (take e es) shared_child a) (sym here) v)

edge_last : (es : List ℕ) (child : ℕ) (a : Option ForestFault) → edge_at es child a → edge_fault (es ++ child ∷ []) (length es) a
unfolding edge_at
edge_last es child a v =
    let front : take (length es) (es ++ child ∷ []) ≡ es = take_at es (child ∷ []) (length es) refl in
    let here : get_or (es ++ child ∷ []) (length es) 0 ≡ child = get_or_push es child 0 (length es) refl in
    subst (λ (before : List ℕ). edge_at before (get_or (es ++ child ∷ []) (length es) 0) a) (sym front)
    (subst (λ (shared_child : ℕ). edge_at es shared_child a) (sym here) v)

abbrev edges : List ℕ → Option ForestFault → Type 0
edges es = first_below (length es) (edge_fault es)

edges_none : (es : List ℕ) (child : ℕ) → edges es None → (Contains es child → ⊥) → edges (es ++ child ∷ []) None
unfolding edge_at
edges_none es child v new e h =
    let n = length_push es child in
    elim (cases_eq e (length es)) [
      | inl q ↦ subst (λ (i : ℕ). edge_fault (es ++ child ∷ []) i None) (sym q) (edge_last es child None new)
      | inr ne ↦ let low : e < length es = omega arith in edge_same es child e low None (v e low)
    ]

edges_found : (es : List ℕ) (child : ℕ) → edges es None → Contains es child → edges (es ++ child ∷ []) (Some (SharedChild child))
unfolding edge_at
edges_found es child v known =
    (length es, omega (arith, length_push es child), edge_last es child (Some (SharedChild child)) (refl, λ new. new known), λ j low. edge_same es child j low None (v j low))

edges_kept : (es : List ℕ) (child : ℕ) (f : ForestFault) → edges es (Some f) → edges (es ++ child ∷ []) (Some f)
edges_kept es child f v =
    (v.0, omega (arith, length_push es child, v.1), edge_same es child v.0 v.1 (Some f) v.2, λ j low. edge_same es child j (omega (arith, v.1)) None (v.3 j low))

pub with_empty_row : (g : List (List ℕ)) (t : Parentage) → IsParentageOf g t → IsParentageOf (g ++ [] ∷ []) record t { rows = t.rows + 1 }
with_empty_row g t h = record {
  rows = omega (arith, length_push g [], h.rows);
  shared = subst (λ (es : List ℕ). edges es (shared_fault t.shared)) (sym (concat-begun g)) h.shared;
  parents = λ none c p. subst (λ (row : List ℕ). HasParent t.parents c p ↔ Contains row c) (sym (row_begun g p)) (h.parents none c p);
}

module _ (g : List (List ℕ)) (t : Parentage) (h : IsParentageOf g t) (child : ℕ) (some : 0 < t.rows) where
  children : concat (with_children g (child ∷ [])) ≡ concat g ++ child ∷ []
  children = concat-with_children g (child ∷ []) (omega (arith, h.rows))

  all_rows : t.rows ≡ length (with_children g (child ∷ []))
  all_rows = h.rows ∙ sym (length-with_children g (child ∷ []))

  -- a child is shared already
  pushed_later : (shared_child : ℕ) → t.shared ≡ Some shared_child → (new : Parentage) → new.rows ≡ t.rows → new.shared ≡ Some shared_child → IsParentageOf (with_children g (child ∷ [])) new
  pushed_later shared_child is new rows same = record {
    rows = rows ∙ all_rows;
    shared = subst (λ (es : List ℕ). edges es (shared_fault new.shared)) (sym children)
        (subst (λ (o : Option ℕ). edges (concat g ++ child ∷ []) (shared_fault o)) (sym same)
        (edges_kept (concat g) child (SharedChild shared_child) (subst (λ (o : Option ℕ). edges (concat g) (shared_fault o)) is h.shared)));
    parents = λ none. clash shared_child _ (sym none ∙ same);
  }

  -- the child has a parent, and no child was shared before
  pushed_known : (q : ℕ) → get_or t.parents child None ≡ Some q → t.shared ≡ None → IsParentageOf (with_children g (child ∷ [])) record t { shared = Some child }
  pushed_known q has none = record {
    rows = all_rows;
    shared = subst (λ (es : List ℕ). edges es (Some (SharedChild child))) (sym children)
        (edges_found (concat g) child (subst (λ (o : Option ℕ). edges (concat g) (shared_fault o)) none h.shared) (child_of_parent g q child ((h.parents none child q).0 has)));
    parents = λ none_now. clash child _ (sym none_now);
  }

  -- the child has no parent yet
  pushed_new : get_or t.parents child None ≡ None → child < length t.parents → t.shared ≡ None → IsParentageOf (with_children g (child ∷ [])) record t { parents = set t.parents child (Some (t.rows - 1)) }
  pushed_new bare within none = record {
    rows = all_rows;
    shared = subst (λ (es : List ℕ). edges es (shared_fault t.shared)) (sym children)
        (subst (λ (o : Option ℕ). edges (concat g ++ child ∷ []) (shared_fault o)) (sym none)
        (edges_none (concat g) child (subst (λ (o : Option ℕ). edges (concat g) (shared_fault o)) none h.shared) (λ known. let k = parent_of_child g child known in no_child k.0 k.1)));
    parents = λ _ c p. elim (cases_eq c child) [
      | inl e ↦ subst (λ (x : ℕ). HasParent (set t.parents child (Some (t.rows - 1))) x p ↔ IsChild (with_children g (child ∷ [])) p x) (sym e) (here p)
      | inr ne ↦ there c p ne
    ];
  }
    where
      no_child : (p : ℕ) → IsChild g p child → ⊥
      no_child p k = clash p ⊥ (sym bare ∙ (h.parents none child p).1 k)

      now_is : get_or (set t.parents child (Some (t.rows - 1))) child None ≡ Some (t.rows - 1)
      now_is = get_or-set_same t.parents child (Some (t.rows - 1)) None within

      here : (p : ℕ) → HasParent (set t.parents child (Some (t.rows - 1))) child p ↔ IsChild (with_children g (child ∷ [])) p child
      here p = (
        λ has. let e : t.rows - 1 ≡ p = same_some (t.rows - 1) p (sym now_is ∙ has) in child_new g child p (omega (arith, h.rows)),
        λ k. ⊎_elim (λ old. absurd (no_child p old)) (λ last. let e : t.rows - 1 ≡ p = omega (arith, h.rows, last.0) in now_is ∙ ap Some e) (child_more g child p child k),
      )

      there : (c p : ℕ) → c ≢ child → HasParent (set t.parents child (Some (t.rows - 1))) c p ↔ IsChild (with_children g (child ∷ [])) p c
      there c p ne =
          let same : get_or (set t.parents child (Some (t.rows - 1))) c None ≡ get_or t.parents c None = get_or-set_other t.parents child c (Some (t.rows - 1)) None ne in (
            λ has. child_kept g child p c ((h.parents none c p).0 (sym same ∙ has)),
            λ k. ⊎_elim (λ old. same ∙ (h.parents none c p).1 old) (λ last. absurd (ne (sym last.1))) (child_more g child p c k),
          )

  -- the child has a parent
  pushed_again_by : (o v : Option ℕ) → t.shared ≡ o → get_or t.parents child None ≡ v → is_some v ≡ true → IsParentageOf (with_children g (child ∷ [])) record t { shared = option_or o (Some child) }
  pushed_again_by o None is has there = absurd (false≢true there)
  pushed_again_by None (Some q) is has there = pushed_known q has is
  pushed_again_by (Some shared_child) (Some q) is has there = pushed_later shared_child is record t { shared = Some shared_child } refl refl

  pub pushed_again : is_some (get_or t.parents child None) ≡ true → IsParentageOf (with_children g (child ∷ [])) record t { shared = option_or t.shared (Some child) }
  pushed_again there = pushed_again_by t.shared (get_or t.parents child None) refl refl there

  -- the child has none
  pushed_first_by : (o v : Option ℕ) → t.shared ≡ o → get_or t.parents child None ≡ v → is_some v ≡ false → child < length t.parents → IsParentageOf (with_children g (child ∷ [])) record t { parents = set t.parents child (Some (t.rows - 1)) }
  pushed_first_by o (Some q) is has unset within = absurd (false≢true (sym unset))
  pushed_first_by None None is has unset within = pushed_new has within is
  pushed_first_by (Some shared_child) None is has unset within = pushed_later shared_child is record t { parents = set t.parents child (Some (t.rows - 1)) } refl is

  pub pushed_first : is_some (get_or t.parents child None) ≡ false → child < length t.parents → IsParentageOf (with_children g (child ∷ [])) record t { parents = set t.parents child (Some (t.rows - 1)) }
  pushed_first unset within = pushed_first_by t.shared (get_or t.parents child None) refl refl unset within

-- before the first row
pub none_yet : (parents : List (Option ℕ)) (n : ℕ) → parents ≡ replicate n None → IsParentageOf [] record { rows = 0; parents = parents; shared = None }
none_yet parents n is = record {
  rows = refl;
  shared = λ i h. absurd (omega arith);
  parents = λ _ c p. (
    λ has. clash p _ (sym (all_none c) ∙ has),
    λ k. absurd (omega (arith, k.1)),
  );
}
  where
    all_none : (c : ℕ) → get_or parents c None ≡ None
    all_none c = elim (cases_lt c n) [
      | inl h ↦ subst (λ (l : List (Option ℕ)). get_or l c None ≡ None) (sym is) (get_or-replicate n c None None h)
      | inr h ↦ get_or_past parents c None (let n_is : length (replicate {A = Option ℕ} n None) ≡ n = length-replicate n None in let long : length parents ≡ length (replicate {A = Option ℕ} n None) = ap length is in omega arith)
    ]

-- where no child is shared
pub parents_known : (g : List (List ℕ)) (t : Parentage) → IsParentageOf g t → t.shared ≡ None → t.rows ≡ length t.parents → HasParents g t.parents
parents_known g t h none all = record { nodes = sym all ∙ h.rows; children = h.parents none }

pub edges_of : (g : List (List ℕ)) (t : Parentage) (o : Option ℕ) → IsParentageOf g t → t.shared ≡ o → first_below (length (concat g)) (edge_fault (concat g)) (shared_fault o)
edges_of g t o h is = subst (λ (x : Option ℕ). edges (concat g) (shared_fault x)) is h.shared

-- the numbers of the table
pub parent_read : (numbers : List ℕ) (n : ℕ) → n < length numbers → get_or (map parent_of numbers) n None ≡ parent_of (get_or numbers n 0)
parent_read numbers n h = get_or-map parent_of numbers n 0 None h

pub all_zero : (n : ℕ) → map parent_of (replicate n 0) ≡ replicate n None
all_zero zero = refl
all_zero (suc n) = ap (λ rest. None ∷ rest) (all_zero n)

pub zeros_name : (n : ℕ) → NameNodes (replicate n 0)
zeros_name n i = elim (cases_lt i n) [
  | inl h ↦ let z : get_or (replicate {A = ℕ} n 0) i 0 ≡ 0 = get_or-replicate n i 0 0 h in omega arith
  | inr h ↦ let z : get_or (replicate {A = ℕ} n 0) i 0 ≡ 0 = get_or_past (replicate {A = ℕ} n 0) i 0 (omega (arith, length-replicate {A = ℕ} n 0)) in omega arith
]

pub name_set : (numbers : List ℕ) (node parent : ℕ) → NameNodes numbers → node < length numbers → parent < length numbers → NameNodes (set numbers node (parent + 1))
name_set numbers node parent h within low n = elim (cases_eq n node) [
  | inl e ↦ let s = subst (λ (x : ℕ). get_or (set numbers node (parent + 1)) x 0 ≡ parent + 1) (sym e) (get_or-set_same numbers node (parent + 1) 0 within) in omega (arith, length-set numbers node (parent + 1))
  | inr ne ↦ let s = get_or-set_other numbers node n (parent + 1) 0 ne in let old = h n in omega (arith, length-set numbers node (parent + 1))
]

-- a parent is noted
pub parent_noted : (numbers : List ℕ) (parents : List (Option ℕ)) (node parent : ℕ) → map parent_of numbers ≡ parents → map parent_of (set numbers node (parent + 1)) ≡ set parents node (Some parent)
parent_noted numbers parents node parent is =
    let next : parent_of (parent + 1) ≡ Some parent = rw (add-one parent) refl in
    map-set parent_of numbers node (parent + 1) ∙ ap (λ (o : Option ℕ). set (map parent_of numbers) node o) next ∙ ap (λ (l : List (Option ℕ)). set l node (Some parent)) is

pub node_before : (n : ℕ) → 0 < n → parent_of n ≡ Some (n - 1)
node_before zero h = absurd (omega arith)
node_before (suc p) h = let e : suc p - 1 ≡ p = omega arith in rw e refl

pub with_children-nothing : (g : List (List ℕ)) → g ≡ with_children g []
with_children-nothing [] = refl
with_children-nothing (row ∷ []) = ap (λ t. t ∷ []) (sym (append-nil row))
with_children-nothing (row ∷ next ∷ g) = ap (λ t. row ∷ t) (with_children-nothing (next ∷ g))
