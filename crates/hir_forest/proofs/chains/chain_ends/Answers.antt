use Rattle.std.proofs.Common.{refl, sym, arith}
use Rattle.std.proofs.lemmas.Bool.{false≢true}
use Rattle.hir_forest.proofs.ChainLemmas.{up, ends_from, ends_at_top, too_long}
use Rattle.hir_forest.proofs.chains.chain_ends.Goals as goal

pub returns-then-ends-at : goal.returns-then-ends-at
returns-then-ends-at c = λ g h e. (
  λ t. ends_from g c.args.parents.now h c.loop.counter c.args.node c.loop.at (c.loop.invariant.climbs g h) (e c.loop.at c.if-ends-at.true),
  λ t. refl,
)

pub returns-in-None : goal.returns-in-None
returns-in-None c = λ g h e. (
  λ t. ends_at_top g c.args.parents.now h c.loop.counter c.args.node c.loop.at (c.loop.invariant.climbs g h) (sym c.in-None.ensures.parent),
  λ t. refl,
)

pub loop-preserved : goal.loop-preserved
loop-preserved c = record {
  within = c.in-Some.ensures.within;
  climbs = λ g h. up g c.args.parents.now h c.loop.counter c.args.node c.loop.at c.in-Some.parent (c.loop.invariant.climbs g h) (sym c.in-Some.ensures.parent);
}

pub returns : goal.returns
returns c = λ g h e. (
  λ t. absurd (false≢true t),
  λ ends. absurd (too_long g c.args.parents.now h c.loop.counter c.args.node c.loop.at (c.loop.invariant.climbs g h) c.requires.node (omega (arith, c.loop-test.false, c.len-end.ensures)) ends),
)
