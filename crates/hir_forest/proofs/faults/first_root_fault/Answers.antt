use Rattle.std.proofs.Common.{◌≡◌, ℕ, suc, ◌+◌, ◌<◌, true, List, length, get_or, set, take, inl, inr, refl, sym, subst, ◌∙◌, arith, below_more, Contains}
use Rattle.std.proofs.lemmas.Bool.{false≢true}
use Rattle.std.proofs.lemmas.List.{length-map}
use Rattle.hir_forest.specs.declared.roots.Ends.{Ends}
use Rattle.hir_forest.specs.declared.roots.Root.{Root}
use Rattle.hir_forest.specs.internal.Forest.{MarksAll}
use Rattle.hir_forest.specs.Faults.{LiesUnderRoot, root_nodes, EndsFit, ends_before, no_ends}
use Rattle.hir_forest.proofs.MarkLemmas.{MarksAll-more, root_node_is, ends_more, fits_at, unfit_at}
use Rattle.hir_forest.proofs.ChainLemmas.{clear_none, under_root}
use Rattle.hir_forest.proofs.faults.first_root_fault.Goals as goal

abbrev none : Root
none = record { node = 0; ends = no_ends }

-- of the root, said of its place in the list
at_root : (lengths : Ends) (nodes : List ℕ) (i root : ℕ) → get_or nodes i 0 ≡ root → root < lengths.exprs → get_or nodes i 0 < lengths.exprs
at_root lengths nodes i root is low = subst (λ (n : ℕ). n < lengths.exprs) (sym is) low

listed_once : (nodes : List ℕ) (i root : ℕ) → get_or nodes i 0 ≡ root → (Contains (take i nodes) root → ⊥) → Contains (take i nodes) (get_or nodes i 0) → ⊥
listed_once nodes i root is once again = once (subst (Contains (take i nodes)) is again)

not_under : (g : List (List ℕ)) (lengths : Ends) (nodes : List ℕ) (i root : ℕ) → get_or nodes i 0 ≡ root → (LiesUnderRoot g lengths.exprs nodes root → ⊥) → LiesUnderRoot g lengths.exprs nodes (get_or nodes i 0) → ⊥
not_under g lengths nodes i root is apart under = apart (subst (LiesUnderRoot g lengths.exprs nodes) is under)

pub loop-i-init : goal.loop-i-init
loop-i-init c = record {
  seen = c.requires.seen;
  earlier = refl;
  clear = λ g h ends. clear_none g c.args.parents.now h c.args.listed.now c.args.clear.now (λ n m. omega (arith, ((c.requires.clear n).0 m).1));
  fine = λ g h ends j lt. absurd (omega arith);
}

pub returns-then-root-lengths : goal.returns-then-root-lengths
returns-then-root-lengths c = λ g h ends.
    let i = c.loop-i.i in
    let node = root_node_is c.args.roots.now i none c.loop-i-test.true in
    let high = c.if-root-lengths.true in
    (i, c.loop-i-test.true, inl (refl, λ low. omega arith), c.loop-i.invariant.fine g h ends)

pub returns-then-seen-node : goal.returns-then-seen-node
returns-then-seen-node c = λ g h ends.
    let i = c.loop-i.i in
    let nodes = root_nodes c.args.roots.now in
    let root : ℕ = (get_or c.args.roots.now i none).node in
    let node = root_node_is c.args.roots.now i none c.loop-i-test.true in
    let low : root < c.args.lengths.exprs = c.if-root-lengths.false in
    let again : Contains (take i nodes) root = (c.loop-i.invariant.seen root).0 c.if-seen-node.true in
    (i, c.loop-i-test.true, inr (at_root c.args.lengths nodes i root node low, inl (refl, λ new. new (subst (Contains (take i nodes)) (sym node) again))), c.loop-i.invariant.fine g h ends)

pub returns-then-is_under : goal.returns-then-is_under
returns-then-is_under c = λ g h ends.
    let i = c.loop-i.i in
    let nodes = root_nodes c.args.roots.now in
    let root : ℕ = (get_or c.args.roots.now i none).node in
    let node = root_node_is c.args.roots.now i none c.loop-i-test.true in
    let low : root < c.args.lengths.exprs = c.if-root-lengths.false in
    let once : Contains (take i nodes) root → ⊥ = λ again. false≢true (sym c.if-seen-node.false ∙ (c.loop-i.invariant.seen root).1 again) in
    let marked = (c.is_under.ensures.under g h (ends root (omega (arith, c.requires.exprs, h.nodes))) (c.loop-i.invariant.clear g h ends)).0 c.if-is_under.true in
    let under : LiesUnderRoot g c.args.lengths.exprs nodes root = (under_root g c.args.listed.now c.args.lengths.exprs nodes c.requires.listed root).0 marked in (
      i,
      c.loop-i-test.true,
      inr (at_root c.args.lengths nodes i root node low, inr (listed_once nodes i root node once, inl (refl, λ new. new (subst (LiesUnderRoot g c.args.lengths.exprs nodes) (sym node) under)))),
      c.loop-i.invariant.fine g h ends,
    )

pub returns-then-not-fit : goal.returns-then-not-fit
returns-then-not-fit c = λ g h ends.
    let i = c.loop-i.i in
    let nodes = root_nodes c.args.roots.now in
    let root : ℕ = (get_or c.args.roots.now i none).node in
    let node = root_node_is c.args.roots.now i none c.loop-i-test.true in
    let low : root < c.args.lengths.exprs = c.if-root-lengths.false in
    let once : Contains (take i nodes) root → ⊥ = λ again. false≢true (sym c.if-seen-node.false ∙ (c.loop-i.invariant.seen root).1 again) in
    let apart : LiesUnderRoot g c.args.lengths.exprs nodes root → ⊥ = λ under.
    let marked = (under_root g c.args.listed.now c.args.lengths.exprs nodes c.requires.listed root).1 under in
    false≢true (sym c.if-is_under.false ∙ (c.is_under.ensures.under g h (ends root (omega (arith, c.requires.exprs, h.nodes))) (c.loop-i.invariant.clear g h ends)).1 marked) in
    let unfit = λ (fits : EndsFit c.args.lengths (ends_before c.args.roots.now i) (ends_before c.args.roots.now (suc i))).
    false≢true (sym c.if-not-fit.true ∙ c.fit.ensures.1 (unfit_at c.args.lengths c.loop-i.earlier c.args.roots.now i none c.loop-i-test.true c.loop-i.invariant.earlier fits)) in (
      i,
      c.loop-i-test.true,
      inr (at_root c.args.lengths nodes i root node low, inr (listed_once nodes i root node once, inr (not_under g c.args.lengths nodes i root node apart, (refl, unfit)))),
      c.loop-i.invariant.fine g h ends,
    )

pub loop-i-preserved : goal.loop-i-preserved
loop-i-preserved c =
    let i = c.loop-i.i in
    let nodes = root_nodes c.args.roots.now in
    let root : ℕ = (get_or c.args.roots.now i none).node in
    let node = root_node_is c.args.roots.now i none c.loop-i-test.true in
    let low : root < c.args.lengths.exprs = c.if-root-lengths.false in
    let once : Contains (take i nodes) root → ⊥ = λ again. false≢true (sym c.if-seen-node.false ∙ (c.loop-i.invariant.seen root).1 again) in
    let fit = c.fit.ensures.0 c.if-not-fit.false in
    let long : i < length nodes = omega (arith, c.loop-i-test.true, length-map c.args.roots.now (λ (x : Root). x.node)) in
    record {
      seen = subst (λ (n : ℕ). MarksAll (set c.loop-i.seen n true) (take (i + 1) nodes)) node
          (MarksAll-more c.loop-i.seen nodes i long (omega (arith, c.requires.exprs, c.requires.seen_nodes, c.loop-i.auto.seen)) c.loop-i.invariant.seen);
      earlier = ends_more c.args.roots.now i none c.loop-i-test.true;
      clear = λ g h ends. c.is_under.ensures.clear g h (ends root (omega (arith, c.requires.exprs, h.nodes))) (c.loop-i.invariant.clear g h ends) c.if-is_under.false;
      fine = λ g h ends.
          let apart : LiesUnderRoot g c.args.lengths.exprs nodes root → ⊥ = λ under.
          let marked = (under_root g c.args.listed.now c.args.lengths.exprs nodes c.requires.listed root).1 under in
          false≢true (sym c.if-is_under.false ∙ (c.is_under.ensures.under g h (ends root (omega (arith, c.requires.exprs, h.nodes))) (c.loop-i.invariant.clear g h ends)).1 marked) in
          below_more _ _ (c.loop-i.invariant.fine g h ends) (
            at_root c.args.lengths nodes i root node low,
            (
              listed_once nodes i root node once,
              (
                not_under g c.args.lengths nodes i root node apart,
                fits_at c.args.lengths c.loop-i.earlier c.args.roots.now i none c.loop-i-test.true c.loop-i.invariant.earlier fit,
              ),
            ),
          );
    }

pub returns : goal.returns
returns c = λ g h ends j lt. c.loop-i.invariant.fine g h ends j (omega arith)
