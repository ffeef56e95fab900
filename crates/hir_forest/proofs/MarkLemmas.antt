-- Tables of marks, and the list of roots as far as it has been read.
use Rattle.std.proofs.Common.{◌≡◌, ℕ, suc, ◌+◌, ◌<◌, ◌≤◌, ◌⊎◌, ◌↔◌, Bool, true, false, not, cond, List, [], ◌∷◌, ◌++◌, length, get_or, set, take, inl, inr, ⊎_elim, refl, ap, sym, ◌∙◌, subst, arith, add-one, Contains}
use Rattle.std.proofs.lemmas.List.{get_or_past, take_more, get_or-set_same, get_or-set_other, length-set, length_push, length-map, take-map, get_or-map}
use Rattle.std.proofs.lemmas.List.Elements.{Contains-push, Contains-push_cases, Contains-append_left}
use Rattle.std.proofs.lemmas.Bool.{cases_eq, cases_lt, false≢true}
use Rattle.std.proofs.lemmas.List.Sums.{sum_by-set}
use Rattle.hir_forest.specs.declared.roots.Root.{Root}
use Rattle.hir_forest.specs.declared.roots.Ends.{Ends}
use Rattle.hir_forest.specs.Faults.{root_nodes, ends_before, no_ends, EndsFit}
use Rattle.hir_forest.specs.Forest.{Marks}
use Rattle.hir_forest.specs.internal.Forest.{MarksAll}

-- only a place of the table is marked
pub marks_in : (table : List Bool) (c : ℕ) → Marks table c → c < length table
marks_in table c m =
    elim (cases_lt c (length table)) [
      | inl h ↦ h
      | inr h ↦ absurd (false≢true (sym (get_or_past table c false h) ∙ m))
    ]

-- a table with one more mark
pub Marks-set : (table : List Bool) (k c : ℕ) → k < length table → Marks (set table k true) c → Marks table c ⊎ (k ≡ c)
Marks-set table k c h m =
    elim (cases_eq c k) [
      | inl e ↦ inr (sym e)
      | inr ne ↦ inl (rw get_or-set_other at m)
    ]

pub Marks-kept : (table : List Bool) (k c : ℕ) → k < length table → Marks table c → Marks (set table k true) c
Marks-kept table k c h m =
    elim (cases_eq c k) [
      | inl e ↦ subst (λ (n : ℕ). get_or (set table k true) n false ≡ true) (sym e) (get_or-set_same table k true false h)
      | inr ne ↦ get_or-set_other table k c true false ne ∙ m
    ]

pub Marks-here : (table : List Bool) (k : ℕ) → k < length table → Marks (set table k true) k
Marks-here table k h = get_or-set_same table k true false h

pub MarksAll-more : (table : List Bool) (xs : List ℕ) (i : ℕ) → i < length xs → get_or xs i 0 < length table → MarksAll table (take i xs) → MarksAll (set table (get_or xs i 0) true) (take (i + 1) xs)
MarksAll-more table xs i h k m =
    rw (take_more xs i 0 h) (λ c. (
      λ n. ⊎_elim (λ a. Contains-append_left (take i xs) _ c ((m c).0 a)) (λ e. subst (Contains (take i xs ++ get_or xs i 0 ∷ [])) e (Contains-push (take i xs) (get_or xs i 0))) (Marks-set table (get_or xs i 0) c k n),
      λ n. ⊎_elim (λ a. Marks-kept table (get_or xs i 0) c k ((m c).1 a)) (λ e. subst (Marks (set table (get_or xs i 0) true)) e (Marks-here table (get_or xs i 0) k)) (Contains-push_cases (take i xs) (get_or xs i 0) c n),
    ))

contains_more : (xs : List ℕ) (i c : ℕ) → i < length xs → Contains (take (i + 1) xs) c → Contains (take i xs) c ⊎ (get_or xs i 0 ≡ c)
contains_more xs i c h m = Contains-push_cases (take i xs) (get_or xs i 0) c (rw (take_more xs i 0 h) at m)

contains_earlier : (xs : List ℕ) (i c : ℕ) → i < length xs → Contains (take i xs) c → Contains (take (i + 1) xs) c
contains_earlier xs i c h m = rw (take_more xs i 0 h) (Contains-append_left (take i xs) _ c m)

contains_last : (xs : List ℕ) (i c : ℕ) → i < length xs → get_or xs i 0 ≡ c → Contains (take (i + 1) xs) c
contains_last xs i c h e = rw (take_more xs i 0 h) (subst (Contains (take i xs ++ get_or xs i 0 ∷ [])) e (Contains-push (take i xs) (get_or xs i 0)))

-- the roots that may be one, as far as the list has been read
module _ (table : List Bool) (roots : List Root) (i limit : ℕ) (r : Root) (in' : i < length roots) (m : (c : ℕ) → Marks table c ↔ (Contains (root_nodes (take i roots)) c × (c < limit))) where
  node_is : get_or (root_nodes roots) i 0 ≡ (get_or roots i r).node
  node_is = get_or-map (λ (x : Root). x.node) roots i r 0 in'

  nodes_taken : (n : ℕ) → root_nodes (take n roots) ≡ take n (root_nodes roots)
  nodes_taken n = sym (take-map (λ (x : Root). x.node) n roots)

  nodes_in : i < length (root_nodes roots)
  nodes_in = omega (arith, length-map roots (λ (x : Root). x.node))

  pub roots_more : (get_or roots i r).node < limit → limit ≤ length table → (c : ℕ) → Marks (set table (get_or roots i r).node true) c ↔ (Contains (root_nodes (take (i + 1) roots)) c × (c < limit))
  roots_more low fits c = (
    λ n. ⊎_elim
        (λ a. let b = (m c).0 a in (rw (nodes_taken (i + 1)) (contains_earlier (root_nodes roots) i c nodes_in (rw (nodes_taken i) at b.0)), b.1))
        (λ e. (rw (nodes_taken (i + 1)) (contains_last (root_nodes roots) i c nodes_in (node_is ∙ e)), subst (λ (x : ℕ). x < limit) e low))
        (Marks-set table (get_or roots i r).node c (omega arith) n),
    λ p. ⊎_elim
        (λ a. Marks-kept table (get_or roots i r).node c (omega arith) ((m c).1 (rw (nodes_taken i) a, p.1)))
        (λ e. subst (Marks (set table (get_or roots i r).node true)) (sym node_is ∙ e) (Marks-here table (get_or roots i r).node (omega arith)))
        (contains_more (root_nodes roots) i c nodes_in (rw (nodes_taken (i + 1)) at p.0)),
  )

  pub roots_same : limit ≤ (get_or roots i r).node → (c : ℕ) → Marks table c ↔ (Contains (root_nodes (take (i + 1) roots)) c × (c < limit))
  roots_same high c = (
    λ n. let b = (m c).0 n in (rw (nodes_taken (i + 1)) (contains_earlier (root_nodes roots) i c nodes_in (rw (nodes_taken i) at b.0)), b.1),
    λ p. ⊎_elim
        (λ a. (m c).1 (rw (nodes_taken i) a, p.1))
        (λ e. let f = node_is in let g = p.1 in absurd (omega arith))
        (contains_more (root_nodes roots) i c nodes_in (rw (nodes_taken (i + 1)) at p.0)),
  )

-- one more root is read
pub root_node_is : (roots : List Root) (i : ℕ) (r : Root) → i < length roots → get_or (root_nodes roots) i 0 ≡ (get_or roots i r).node
root_node_is roots i r h = get_or-map (λ (x : Root). x.node) roots i r 0 h

pub ends_more : (roots : List Root) (i : ℕ) (r : Root) → i < length roots → (get_or roots i r).ends ≡ ends_before roots (i + 1)
ends_more roots i r h = rw add-one (sym (get_or-map (λ (x : Root). x.ends) roots i r no_ends h))

pub fits_at : (lengths earlier : Ends) (roots : List Root) (i : ℕ) (r : Root) → i < length roots → earlier ≡ ends_before roots i → EndsFit lengths earlier (get_or roots i r).ends → EndsFit lengths (ends_before roots i) (ends_before roots (suc i))
fits_at lengths earlier roots i r h e f =
    let here : (get_or roots i r).ends ≡ ends_before roots (suc i) = sym (get_or-map (λ (x : Root). x.ends) roots i r no_ends h) in
    subst (λ (x : Ends). EndsFit lengths x (ends_before roots (suc i))) e (subst (λ (x : Ends). EndsFit lengths earlier x) here f)

pub unfit_at : (lengths earlier : Ends) (roots : List Root) (i : ℕ) (r : Root) → i < length roots → earlier ≡ ends_before roots i → EndsFit lengths (ends_before roots i) (ends_before roots (suc i)) → EndsFit lengths earlier (get_or roots i r).ends
unfit_at lengths earlier roots i r h e f =
    let here : (get_or roots i r).ends ≡ ends_before roots (suc i) = sym (get_or-map (λ (x : Root). x.ends) roots i r no_ends h) in
    subst (λ (x : Ends). EndsFit lengths x (get_or roots i r).ends) (sym e) (subst (λ (x : Ends). EndsFit lengths (ends_before roots i) x) (sym here) f)
