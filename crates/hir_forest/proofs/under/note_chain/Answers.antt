use Rattle.std.proofs.Common.{◌<◌, length, ⊎_elim, sym, subst, arith}
use Rattle.hir_forest.specs.Forest.{Marks}
use Rattle.hir_forest.proofs.ChainLemmas.{way_start, way_next, node_marked, still_marked, fewer_left}
use Rattle.hir_forest.proofs.UnderLemmas.{under_same, known_more}
use Rattle.hir_forest.proofs.under.note_chain.Goals as goal

pub loop-known-init : goal.loop-known-init
loop-known-init c = record {
  way = way_start c.args.parents.now c.args.node c.args.known.now c.requires.node;
  answer = λ g h is. is;
  right = λ g h is old. old;
}

pub loop-known-preserved : goal.loop-known-preserved
loop-known-preserved c =
    let s = c.loop-known.invariant in
    let low : c.loop-known.at < length c.loop-known.known = omega (arith, c.requires.known, c.loop-known.auto.known, s.way.within) in
    let under : c.loop-known.at < length c.loop-known.under = omega (arith, c.requires.under, c.loop-known.auto.under, s.way.within) in
    record {
      way = way_next c.args.parents.now c.args.node c.loop-known.at c.args.known.now c.loop-known.known s.way low c.in-Some.parent (sym c.in-Some.ensures.parent) c.in-Some.ensures.within;
      answer = λ g h is.
          let a = s.answer g h is in
          let b = under_same g c.args.parents.now h c.args.marked.now c.loop-known.at c.in-Some.parent (sym c.in-Some.ensures.parent) c.if-marked-parent.false in
          (λ t. b.0 (a.0 t), λ u. a.1 (b.1 u));
      right = λ g h is old. known_more g c.args.marked.now c.loop-known.known c.loop-known.under c.loop-known.at c.args.is_under low under (s.right g h is old) (s.answer g h is);
    }

pub loop-known-smaller : goal.loop-known-smaller
loop-known-smaller c =
    let s = c.loop-known.invariant in
    fewer_left c.args.parents.now c.args.node c.loop-known.at c.args.known.now c.loop-known.known s.way (omega (arith, c.requires.known, c.loop-known.auto.known, s.way.within)) c.loop-known-test.true

pub returns-then-marked-parent : goal.returns-then-marked-parent
returns-then-marked-parent c =
    let s = c.loop-known.invariant in
    let low : c.loop-known.at < length c.loop-known.known = omega (arith, c.requires.known, c.loop-known.auto.known, s.way.within) in
    let under : c.loop-known.at < length c.loop-known.under = omega (arith, c.requires.under, c.loop-known.auto.under, s.way.within) in
    record {
      node = node_marked c.args.parents.now c.args.node c.loop-known.at c.args.known.now c.loop-known.known s.way low;
      stays = still_marked c.args.parents.now c.args.node c.loop-known.at c.args.known.now c.loop-known.known s.way low;
      known = λ g h is old. known_more g c.args.marked.now c.loop-known.known c.loop-known.under c.loop-known.at c.args.is_under low under (s.right g h is old) (s.answer g h is);
    }

pub returns-in-None : goal.returns-in-None
returns-in-None c =
    let s = c.loop-known.invariant in
    let low : c.loop-known.at < length c.loop-known.known = omega (arith, c.requires.known, c.loop-known.auto.known, s.way.within) in
    let under : c.loop-known.at < length c.loop-known.under = omega (arith, c.requires.under, c.loop-known.auto.under, s.way.within) in
    record {
      node = node_marked c.args.parents.now c.args.node c.loop-known.at c.args.known.now c.loop-known.known s.way low;
      stays = still_marked c.args.parents.now c.args.node c.loop-known.at c.args.known.now c.loop-known.known s.way low;
      known = λ g h is old. known_more g c.args.marked.now c.loop-known.known c.loop-known.under c.loop-known.at c.args.is_under low under (s.right g h is old) (s.answer g h is);
    }

pub returns : goal.returns
returns c =
    let s = c.loop-known.invariant in
    record {
      node = ⊎_elim (λ m. m) (λ e. subst (Marks c.loop-known.known) e c.loop-known-test.false) s.way.first;
      stays = s.way.stays;
      known = s.right;
    }
