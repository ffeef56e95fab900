use Rattle.std.proofs.Common.{refl, sym, arith}
use Rattle.std.proofs.lemmas.Bool.{false≢true}
use Rattle.hir_forest.proofs.ChainLemmas.{up, too_long, under_none}
use Rattle.hir_forest.proofs.UnderLemmas.{under_parent, under_same}
use Rattle.hir_forest.proofs.under.is_under_marked.Goals as goal

pub loop-init : goal.loop-init
loop-init c = record { within = c.requires.node; climbs = λ g h. refl; same = λ g h. (λ u. u, λ u. u) }

pub returns-then-known-at : goal.returns-then-known-at
returns-then-known-at c = λ g h e known.
    let here = known c.loop.at c.if-known-at.true in
    let same = c.loop.invariant.same g h in
    (λ t. same.1 (here.0 t), λ u. here.1 (same.0 u))

pub returns-then-marked-parent : goal.returns-then-marked-parent
returns-then-marked-parent c = λ g h e known. (
  λ t. (c.loop.invariant.same g h).1 (under_parent g c.args.parents.now h c.args.marked.now c.loop.at c.in-Some.parent (sym c.in-Some.ensures.parent) c.if-marked-parent.true),
  λ u. refl,
)

pub returns-in-None : goal.returns-in-None
returns-in-None c = λ g h e known. (
  λ t. absurd (false≢true t),
  λ u. absurd (under_none g c.args.parents.now h c.args.marked.now c.loop.at (sym c.in-None.ensures.parent) ((c.loop.invariant.same g h).0 u)),
)

pub loop-preserved : goal.loop-preserved
loop-preserved c = record {
  within = c.in-Some.ensures.within;
  climbs = λ g h. up g c.args.parents.now h c.loop.counter c.args.node c.loop.at c.in-Some.parent (c.loop.invariant.climbs g h) (sym c.in-Some.ensures.parent);
  same = λ g h.
      let a = c.loop.invariant.same g h in
      let b = under_same g c.args.parents.now h c.args.marked.now c.loop.at c.in-Some.parent (sym c.in-Some.ensures.parent) c.if-marked-parent.false in
      (λ u. b.0 (a.0 u), λ u. a.1 (b.1 u));
}

pub returns : goal.returns
returns c = λ g h e known. (
  λ t. absurd (false≢true t),
  λ u. absurd (too_long g c.args.parents.now h c.loop.counter c.args.node c.loop.at (c.loop.invariant.climbs g h) c.requires.node (omega (arith, c.loop-test.false, c.len-end.ensures)) e),
)
