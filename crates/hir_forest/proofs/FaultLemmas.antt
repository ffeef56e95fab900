-- The parts of the first fault, that it is unique, and what a fault names.
use Rattle.std.proofs.Common.{ℕ, ◌<◌, Option, Some, None, List, length, inl, ⊎_elim, sym, subst, All}
use Rattle.std.specs.List.{concat}
use Rattle.hir_forest.specs.declared.roots.Ends.{Ends}
use Rattle.hir_forest.specs.declared.roots.Root.{Root}
use Rattle.hir_forest.specs.declared.roots.ForestFault.{ForestFault}
use Rattle.hir_forest.specs.declared.roots.ForestFault.TheVariants.{RootOutOfRange, RootRepeated, RootUnderRoot, RootEnds}
use Rattle.hir_forest.specs.Verdict.{◌before◌, first_below}
use Rattle.hir_forest.specs.Forest.{ChainEnds}
use Rattle.hir_forest.specs.Faults.{LiesUnderRoot, root_nodes, edge_fault, cycle_fault, root_fault, forest_fault, IsWithin}
use Rattle.hir_forest.proofs.VerdictLemmas.{IsOne, before-second, unless-one, before-one, first_below-one}

pub shared_fault-first : (g : List (List ℕ)) (lengths : Ends) (roots : List Root) (f : ForestFault) → first_below (length (concat g)) (edge_fault (concat g)) (Some f) → forest_fault g lengths roots (Some f)
unfolding forest_fault
shared_fault-first g lengths roots f h = inl h

pub later_fault : (g : List (List ℕ)) (lengths : Ends) (roots : List Root) → first_below (length (concat g)) (edge_fault (concat g)) None → (a : Option ForestFault)
    → (first_below (length g) (cycle_fault (ChainEnds g)) before first_below (length roots) (root_fault (LiesUnderRoot g lengths.exprs (root_nodes roots)) lengths roots)) a → forest_fault g lengths roots a
unfolding forest_fault
later_fault g lengths roots none a h =
    before-second (first_below (length (concat g)) (edge_fault (concat g))) (first_below (length g) (cycle_fault (ChainEnds g)) before first_below (length roots) (root_fault (LiesUnderRoot g lengths.exprs (root_nodes roots)) lengths roots)) none a h

root_fault-one : (U : ℕ → Type 0) (lengths : Ends) (roots : List Root) (i : ℕ) → IsOne (root_fault U lengths roots i)
root_fault-one U lengths roots i =
    before-one _ _ (unless-one (RootOutOfRange i) _) (before-one _ _ (unless-one (RootRepeated i) _) (before-one _ _ (unless-one (RootUnderRoot i) _) (unless-one (RootEnds i) _)))

pub forest_fault-one : (g : List (List ℕ)) (lengths : Ends) (roots : List Root) → IsOne (forest_fault g lengths roots)
unfolding forest_fault
forest_fault-one g lengths roots =
    before-one _ _
    (first_below-one (length (concat g)) (edge_fault (concat g)) (λ e. unless-one _ _))
    (before-one _ _
    (first_below-one (length g) (cycle_fault (ChainEnds g)) (λ n. unless-one _ _))
    (first_below-one (length roots) _ (root_fault-one (LiesUnderRoot g lengths.exprs (root_nodes roots)) lengths roots)))

pub fault_within : (g : List (List ℕ)) (lengths : Ends) (roots : List Root) (f : ForestFault) → All (λ c. c < length g) (concat g) → forest_fault g lengths roots (Some f) → IsWithin (length g) (length roots) f
unfolding forest_fault
fault_within g lengths roots f within h =
    ⊎_elim
    (λ e. subst (IsWithin (length g) (length roots)) (sym e.2.0) (within e.0 0 e.1))
    (λ r. ⊎_elim
    (λ c. subst (IsWithin (length g) (length roots)) (sym c.2.0) c.1)
    (λ q. ⊎_elim (λ a. subst (IsWithin (length g) (length roots)) (sym a.0) q.1.1)
    (λ x. ⊎_elim (λ a. subst (IsWithin (length g) (length roots)) (sym a.0) q.1.1)
    (λ y. ⊎_elim (λ a. subst (IsWithin (length g) (length roots)) (sym a.0) q.1.1)
    (λ z. subst (IsWithin (length g) (length roots)) (sym z.1.0) q.1.1) y.1) x.1) q.1.2)
    r.1)
    h
