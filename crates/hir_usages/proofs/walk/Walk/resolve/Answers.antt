use Rattle.std.proofs.Common.{◌≡◌, sym, ◌∙◌, subst, Option, ℕ, rules, arith}
use Rattle.std.proofs.lemmas.Grind.{common_steps}
use Rattle.std.specs.FinMap as map
use Rattle.hir_usages.proofs.RenameLemmas.{found_in, found_first, found_outside}
use Rattle.hir_usages.proofs.walk.Walk.resolve.Goals as goal

pub returns-in-Some-find_entry : goal.returns-in-Some-find_entry
returns-in-Some-find_entry c =
    let scopes = c.args.self.now.scopes.now in
    let found = found_in scopes.scopes c.args.name.now c.args.hygiene in
    let at = map.get scopes.scope_by_expr c.args.at in
    let inv = subst (λ (o : Option ℕ). found o ≡ found at) c.in-Some.is c.loop-current.invariant.1 in
    let is = sym inv ∙ found_first scopes.scopes c.args.name.now c.args.hygiene c.in-Some.inner c.parent-outer.result
    c.entries.result.now (c.a_chain_goes_outward.ensures.step scopes.scopes c.parent-outer.ensures.parents)
    c.parent-outer.ensures.is c.entries.ensures c.in-Some-find_entry.found (sym c.in-Some-find_entry.ensures) in
    grind (arith, common_steps, is)

pub loop-current-preserved : goal.loop-current-preserved
loop-current-preserved c = search (rules, found_in, found_outside)
