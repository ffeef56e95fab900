use Rattle.std.proofs.Common.{◌≡◌, ℕ, zero, suc, ◌<◌, List, [], ◌∷◌, Option, Some, None, length, inr, refl, sym, subst, ◌∙◌, arith, Contains}
use Rattle.std.specs.Prelude.{slice_get}
use Rattle.std.proofs.lemmas.Bool.{false≢true}
use Rattle.hir_forest.specs.declared.roots.Ends.{Ends}
use Rattle.hir_forest.specs.declared.roots.Root.{Root}
use Rattle.hir_forest.specs.declared.roots.ForestFault.{ForestFault}
use Rattle.hir_forest.specs.declared.roots.ForestFault.TheVariants.{RootEnds}
use Rattle.hir_forest.specs.Verdict.{first_below}
use Rattle.hir_forest.specs.Forest.{LiesUnder}
use Rattle.hir_forest.specs.Faults.{LiesUnderRoot, root_nodes, root_fault, EndsFit, no_ends}
use Rattle.hir_forest.proofs.faults.lone_root_fault.Goals as goal

-- the list of one root
lone : (roots : List Root) (r : Root) → length roots < 2 → Some r ≡ slice_get roots 0 → roots ≡ r ∷ []
lone [] r h e = cc
lone (x ∷ []) r h e = cc
lone (x ∷ y ∷ zs) r h e = absurd (omega (arith, h))

only : (x y : ℕ) → Contains (x ∷ []) y → x ≡ y
only x y (zero, h, e) = e
only x y (suc k, h, e) = absurd (omega (arith, h))

nowhere : (x : ℕ) → Contains [] x → ⊥
nowhere x c = omega (arith, c.1)

abbrev Roots : List (List ℕ) → Ends → List Root → Option ForestFault → Type 0
Roots g lengths roots = first_below (length roots) (root_fault (LiesUnderRoot g lengths.exprs (root_nodes roots)) lengths roots)

module _ (g : List (List ℕ)) (lengths : Ends) (r : Root) (apart : (n : ℕ) → n < lengths.exprs → LiesUnder g n n → ⊥) (low : r.node < lengths.exprs) where
  -- it is under no other root
  not_under : LiesUnderRoot g lengths.exprs (r.node ∷ []) r.node → ⊥
  not_under u = apart r.node low (subst (LiesUnder g r.node) (sym (only r.node u.0 u.1)) u.3)

  unfit : (EndsFit lengths no_ends r.ends → ⊥) → Roots g lengths (r ∷ []) (Some (RootEnds 0))
  unfit un = (0, omega arith, inr (low, inr (nowhere r.node, inr (not_under, (refl, un)))), λ j lt. absurd (omega (arith, lt)))

  fine : EndsFit lengths no_ends r.ends → Roots g lengths (r ∷ []) None
  fine fits zero lt = (low, (nowhere r.node, (not_under, fits)))
  fine fits (suc i) lt = absurd (omega (arith, lt))

pub returns-then-not-fit : goal.returns-then-not-fit
returns-then-not-fit c = λ g apart.
    let r = c.in-Some.root.now in
    let unfits = λ (fits : EndsFit c.args.lengths no_ends r.ends). false≢true (sym c.if-not-fit.true ∙ c.fit.ensures.1 fits) in
    subst (λ (roots : List Root). Roots g c.args.lengths roots (Some (RootEnds 0))) (sym (lone c.args.roots.now r c.requires c.in-Some.ensures.value))
    (unfit g c.args.lengths r apart (omega (arith, c.if-root-lengths.false)) unfits)

pub returns : goal.returns
returns c = λ g apart.
    let r = c.in-Some.root.now in
    subst (λ (roots : List Root). Roots g c.args.lengths roots None) (sym (lone c.args.roots.now r c.requires c.in-Some.ensures.value))
    (fine g c.args.lengths r apart (omega (arith, c.if-root-lengths.false)) (c.fit.ensures.0 c.if-not-fit.false))
