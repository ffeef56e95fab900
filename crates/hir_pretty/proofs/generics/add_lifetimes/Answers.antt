use Rattle.hir_pretty_docs.proofs.Common.{ℕ, ap, codes, false, map, sym, text, name_docs, following, adds_more, left_begins, left_goes_on}
use Rattle.std.proofs.lemmas.Map.Iter.{rest_more}
use Rattle.hir_signature.specs.declared.param_data.LifetimeParamData.{LifetimeParamData}
use Rattle.hir_pretty.proofs.ListLemmas.{map_second}
use Rattle.hir_pretty.proofs.generics.add_lifetimes.Goals as goal
use Rattle.std.proofs.Common.{rules}

pub loop-lifetime-init : goal.loop-lifetime-init
loop-lifetime-init c = search (rules, left_begins, following, text, codes, false, map_second, name_docs)

pub loop-lifetime-preserved : goal.loop-lifetime-preserved
loop-lifetime-preserved c =
    let first = rest_more (λ e. (e.0, e.1.now)) c.loop-lifetime.lifetime-iterator c.next.new.self c.next.result _ c.in-Some.is c.next.ensures.steps in
    left_goes_on c.loop-lifetime.invariant (adds_more c.add_if.ensures (rw c.as_str.ensures at c.add.ensures))
    (λ s. sym (ap (λ entries. following (text (codes ", ")) c.loop-lifetime.after (map (λ (entry : ℕ × LifetimeParamData). name_docs s entry.1.name) entries)) first))
