use Rattle.hir_pretty_docs.proofs.Common.{ap, codes, sym, text, following, adds_then, left_begins, left_goes_on}
use Rattle.std.proofs.lemmas.Map.Iter.{rest_more}
use Rattle.hir_pretty.specs.Signatures.{each_type_or_const}
use Rattle.hir_pretty.proofs.generics.add_types_and_consts.Goals as goal
use Rattle.std.proofs.Common.{rules}

pub loop-at-init : goal.loop-at-init
loop-at-init c = search (rules, left_begins, following, text, codes)

pub loop-at-preserved : goal.loop-at-preserved
loop-at-preserved c =
    let first = rest_more (λ e. (e.0, e.1.now)) c.loop-at.at-iterator c.next.new.self c.next.result (c.in-Some.at, c.in-Some.param) c.in-Some.is c.next.ensures.steps in
    left_goes_on c.loop-at.invariant (adds_then c.add_if.ensures (rw c.into_raw.ensures at c.add_type_or_const.ensures))
    (λ s. sym (ap (λ entries. following (text (codes ", ")) c.loop-at.after (each_type_or_const s entries)) first))
