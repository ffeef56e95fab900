use Rattle.std.proofs.Common.{ℕ, suc, zero, List, refl, sym, ◌∙◌}
use Rattle.std.proofs.lemmas.Bool.{false≢true}
use Rattle.hir_forest.specs.Forest.{ChainEnds}
use Rattle.hir_forest.specs.Parents.{HasParents}
use Rattle.hir_forest.proofs.ChainLemmas.{has_child, ends_on_chain, under_next, under_none, clear_more}
use Rattle.hir_forest.proofs.chains.is_under.Goals as goal
use Rattle.hir_forest.proofs.chains.is_under.Goals.{In-Some}

-- the chain from the parent ends as well
parent_ends : (c : In-Some) (g : List (List ℕ)) → HasParents g c.args.parents.now → ChainEnds g c.args.node → ChainEnds g c.in-Some.parent
parent_ends c g h e =
    ends_on_chain g c.args.parents.now h c.args.node c.in-Some.parent
    (suc zero, (c.in-Some.parent, has_child g c.args.parents.now h c.args.node c.in-Some.parent (sym c.in-Some.ensures.parent), refl)) e

pub returns-in-None : goal.returns-in-None
returns-in-None c = record {
  under = λ g h e clear. (
    λ t. absurd (false≢true t),
    λ l. absurd (under_none g c.args.parents.now h c.args.listed.now c.args.node (sym c.in-None.ensures.parent) l),
  );
  clear = λ g h e clear f. clear;
}

pub returns-then-meets_listed : goal.returns-then-meets_listed
returns-then-meets_listed c =
    let at = (goal.at.returns-then-meets_listed c).In-Some in
    record {
      under = λ g h e clear.
          let met = (c.meets_listed.ensures g h (parent_ends at g h e) clear).0 c.if-meets_listed.true in (
            λ t. (under_next g c.args.parents.now h c.args.listed.now c.args.node c.in-Some.parent (sym c.in-Some.ensures.parent)).1 met,
            λ l. refl,
          );
      clear = λ g h e clear f. absurd (false≢true (sym f));
    }

pub returns : goal.returns
returns c =
    let at = (goal.at.returns c).In-Some in
    record {
      under = λ g h e clear. (
        λ t. absurd (false≢true t),
        λ l.
            let met = (under_next g c.args.parents.now h c.args.listed.now c.args.node c.in-Some.parent (sym c.in-Some.ensures.parent)).0 l in
            absurd (false≢true (sym c.if-meets_listed.false ∙ (c.meets_listed.ensures g h (parent_ends at g h e) clear).1 met)),
      );
      clear = λ g h e clear f.
          clear_more g c.args.parents.now h c.args.listed.now c.args.clear.now c.mark_chain.new.marked c.in-Some.parent clear
          (λ met. false≢true (sym c.if-meets_listed.false ∙ (c.meets_listed.ensures g h (parent_ends at g h e) clear).1 met))
          (c.mark_chain.ensures.fresh g h);
    }
