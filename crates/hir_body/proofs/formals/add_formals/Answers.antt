use Rattle.std.proofs.Common.{arith, refl, sym, ◌∙◌, inr, ⊎_elim, below_more, take, Contains}
use Rattle.std.proofs.lemmas.Bool.{false≢true}
use Rattle.std.proofs.lemmas.List.{take_all, length-map}
use Rattle.hir_node.specs.declared.node_id.NodeId.TheVariants as node
use Rattle.hir_body.specs.Bodies.{formals_of}
use Rattle.hir_body.proofs.BodyLemmas.{read_at, node_of_pat, pat_of_node, gains_more}
use Rattle.hir_body.proofs.formals.add_formals.Goals as goal

pub has_pat-requires : goal.has_pat-requires
has_pat-requires c =
    let i = c.loop-i.i in
    rw (c.loop-i.invariant.added.0, c.index-params-i.is) (c.requires.in_range i c.index-params-i.result c.loop-i-test.true)

pub add_pat-requires : goal.add_pat-requires
add_pat-requires c =
    let i = c.loop-i.i in
    rw (c.loop-i.invariant.added.0, c.index-params-i.is) (c.requires.in_range i c.index-params-i.result c.loop-i-test.true)

pub returns-then-has_pat-clause-fault : goal.returns-then-has_pat-clause-fault
returns-then-has_pat-clause-fault c =
    let xs = formals_of c.args.params.now in
    let i = c.loop-i.i in
    let p = c.index-params-i.result in
    let read = read_at (λ p. p.formal) c.args.params.now i p c.loop-i-test.true c.index-params-i.is in
    let in_range = rw (← c.index-params-i.is) at (c.requires.in_range i p c.loop-i-test.true) in
    let earlier = ⊎_elim (λ m. absurd (c.requires.none (node.Pat p.formal) m)) (λ m. pat_of_node (take i xs) p.formal m) ((c.loop-i.invariant.added.1 (node.Pat p.formal) in_range).0 (c.has_pat.ensures.0 c.if-has_pat.true)) in
    (i, c.loop-i-test.true, (refl, λ no. no (rw read earlier)), c.loop-i.invariant.new)

pub loop-i-preserved : goal.loop-i-preserved
loop-i-preserved c =
    let xs = formals_of c.args.params.now in
    let read = read_at (λ p. p.formal) c.args.params.now c.loop-i.i c.index-params-i.result c.loop-i-test.true c.index-params-i.is in
    let len = length-map c.args.params.now (λ p. p.formal) in
    let p = c.index-params-i.result in
    let in_range = rw (← c.index-params-i.is) at (c.requires.in_range c.loop-i.i p c.loop-i-test.true) in
    let fresh : Contains (take c.loop-i.i xs) p.formal → ⊥ = (λ m. false≢true (sym c.if-has_pat.false ∙ c.has_pat.ensures.1 ((c.loop-i.invariant.added.1 (node.Pat p.formal) in_range).1 (inr (node_of_pat (take c.loop-i.i xs) p.formal m))))) in
    record {
      added = gains_more c.args.set.now c.loop-i.set c.add_pat.new.self xs c.loop-i.i c.index-params-i.result.formal (omega (arith, c.loop-i-test.true)) read c.loop-i.invariant.added c.add_pat.ensures;
      new = below_more _ _ c.loop-i.invariant.new (rw read fresh);
    }

pub returns-clause-fault : goal.returns-clause-fault
returns-clause-fault c = λ i h. c.loop-i.invariant.new i (omega (arith, c.loop-i-test.false))

pub returns-clause-added : goal.returns-clause-added
returns-clause-added c =
    let len = length-map c.args.params.now (λ p. p.formal) in
    rw (take_all c.loop-i.i (formals_of c.args.params.now) (omega (arith, c.loop-i-test.false))) at c.loop-i.invariant.added
