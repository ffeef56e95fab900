use Rattle.std.proofs.Common.{◌<◌, length, ⊎_elim, sym, subst, arith}
use Rattle.hir_forest.specs.Forest.{Marks}
use Rattle.hir_forest.proofs.ChainLemmas.{way_start, way_next, node_marked, still_marked, on_way, fewer_left}
use Rattle.hir_forest.proofs.chains.mark_chain.Goals as goal

pub loop-marked-init : goal.loop-marked-init
loop-marked-init c = way_start c.args.parents.now c.args.node c.args.marked.now c.requires.node

pub loop-marked-preserved : goal.loop-marked-preserved
loop-marked-preserved c =
    way_next c.args.parents.now c.args.node c.loop-marked.at c.args.marked.now c.loop-marked.marked c.loop-marked.invariant
    (omega (arith, c.requires.nodes, c.loop-marked.auto.marked, c.loop-marked.invariant.within)) c.in-Some.parent (sym c.in-Some.ensures.parent) c.in-Some.ensures.within

pub loop-marked-smaller : goal.loop-marked-smaller
loop-marked-smaller c =
    fewer_left c.args.parents.now c.args.node c.loop-marked.at c.args.marked.now c.loop-marked.marked c.loop-marked.invariant
    (omega (arith, c.requires.nodes, c.loop-marked.auto.marked, c.loop-marked.invariant.within)) c.loop-marked-test.true

pub returns-in-None : goal.returns-in-None
returns-in-None c =
    let s = c.loop-marked.invariant in
    let low : c.loop-marked.at < length c.loop-marked.marked = omega (arith, c.requires.nodes, c.loop-marked.auto.marked, c.loop-marked.invariant.within) in
    record {
      node = node_marked c.args.parents.now c.args.node c.loop-marked.at c.args.marked.now c.loop-marked.marked s low;
      stays = still_marked c.args.parents.now c.args.node c.loop-marked.at c.args.marked.now c.loop-marked.marked s low;
      fresh = on_way c.args.parents.now c.args.node c.loop-marked.at c.args.marked.now c.loop-marked.marked s low;
    }

pub returns : goal.returns
returns c =
    let s = c.loop-marked.invariant in
    record {
      node = ⊎_elim (λ m. m) (λ e. subst (Marks c.loop-marked.marked) e c.loop-marked-test.false) s.first;
      stays = s.stays;
      fresh = s.fresh;
    }
