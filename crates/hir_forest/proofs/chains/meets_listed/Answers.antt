use Rattle.std.proofs.Common.{refl, sym, arith}
use Rattle.std.proofs.lemmas.Bool.{false≢true}
use Rattle.hir_forest.proofs.ChainLemmas.{up, too_long, meets_next, meets_none}
use Rattle.hir_forest.proofs.chains.meets_listed.Goals as goal

pub loop-init : goal.loop-init
loop-init c = record { within = c.requires.node; climbs = λ g h. refl; meets = λ g h m. m }

pub returns-then-listed-at : goal.returns-then-listed-at
returns-then-listed-at c = λ g h e clear. (
  λ t. (c.loop.at, c.if-listed-at.true, (c.loop.counter, c.loop.invariant.climbs g h)),
  λ m. refl,
)

pub returns-then-clear-at : goal.returns-then-clear-at
returns-then-clear-at c = λ g h e clear. (
  λ t. absurd (false≢true t),
  λ m. absurd (clear c.loop.at c.if-clear-at.true (c.loop.invariant.meets g h m)),
)

pub returns-in-None : goal.returns-in-None
returns-in-None c = λ g h e clear. (
  λ t. absurd (false≢true t),
  λ m. absurd (meets_none g c.args.parents.now h c.args.listed.now c.loop.at c.if-listed-at.false (sym c.in-None.ensures.parent) (c.loop.invariant.meets g h m)),
)

pub loop-preserved : goal.loop-preserved
loop-preserved c = record {
  within = c.in-Some.ensures.within;
  climbs = λ g h. up g c.args.parents.now h c.loop.counter c.args.node c.loop.at c.in-Some.parent (c.loop.invariant.climbs g h) (sym c.in-Some.ensures.parent);
  meets = λ g h m. meets_next g c.args.parents.now h c.args.listed.now c.loop.at c.in-Some.parent c.if-listed-at.false (sym c.in-Some.ensures.parent) (c.loop.invariant.meets g h m);
}

pub returns : goal.returns
returns c = λ g h e clear. (
  λ t. absurd (false≢true t),
  λ m. absurd (too_long g c.args.parents.now h c.loop.counter c.args.node c.loop.at (c.loop.invariant.climbs g h) c.requires.node (omega (arith, c.loop-test.false, c.len-end.ensures)) e),
)
