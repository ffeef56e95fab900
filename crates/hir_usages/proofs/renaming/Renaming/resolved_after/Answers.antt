use Rattle.std.proofs.Common.{◌≡◌, sym, ◌∙◌, subst, Option, ℕ, rules, arith}
use Rattle.std.proofs.lemmas.Grind.{common_steps}
use Rattle.std.specs.FinMap as map
use Rattle.hir_usages.proofs.RenameLemmas.{found_from, found_here, passed_by}
use Rattle.hir_usages.proofs.renaming.Renaming.resolved_after.Goals as goal

pub returns-in-Some-find_entry : goal.returns-in-Some-find_entry
returns-in-Some-find_entry c =
    let scopes = c.args.self.now.scopes.now in
    let b = c.args.self.now.binding in
    let new = c.args.self.now.name.now in
    let from = found_from scopes.scopes b new c.in_ok-name.name.now c.expr_or_pat_path_hygiene-hygiene.result in
    let at = map.get scopes.scope_by_expr c.args.usage.now.expr in
    let inv = subst (λ (o : Option ℕ). from o ≡ from at) c.in-Some.is c.loop-current.invariant.1 in
    let is = sym inv ∙ found_here scopes.scopes b new c.in_ok-name.name.now c.expr_or_pat_path_hygiene-hygiene.result
    c.in-Some.inner c.parent-outer.result c.entries.result.now
    (c.a_chain_goes_outward.ensures.step scopes.scopes c.parent-outer.ensures.parents)
    c.parent-outer.ensures.is c.entries.ensures c.in-Some-find_entry.found (sym c.in-Some-find_entry.ensures) in
    grind (arith, common_steps, is)

pub loop-current-preserved : goal.loop-current-preserved
loop-current-preserved c = search (rules, found_from, passed_by)
