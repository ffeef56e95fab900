use Rattle.std.proofs.Common.{◌≡◌, ◌∙◌, ap, sym, None, rules}
use Rattle.hir_base.specs.declared.hygiene.SyntaxContext.{SyntaxContext}
use Rattle.hir_scope.specs.{Macros.expansion_of, Macros.resolve_through, Paths.chain, Resolution.find_entry}
use Rattle.hir_scope.proofs.ResolveLemmas.{through_found, through_outward}
use Rattle.hir_scope.proofs.expr_scopes.ExprScopes.resolve_name_through_macros.Goals as goal

pub returns-in-Some-find_entry : goal.returns-in-Some-find_entry
returns-in-Some-find_entry c = search (rules, through_found)

pub loop-current-preserved : goal.loop-current-preserved
loop-current-preserved c =
    let from = expansion_of c.args.expansions.now in
    let scopes = c.args.self.now.scopes in
    let name = c.args.name.now in
    let hygiene = c.loop-current.hygiene in
    let none : None ≡ find_entry name hygiene c.entries.result.now = c.in_default-find_entry.ensures in
    record {
      within = c.parent-outer.ensures.in_range;
      same =
          ap (λ (h : SyntaxContext). resolve_through from (chain scopes c.parent-outer.result) name h) c.outward-hygiene.ensures
          ∙ through_outward from scopes c.in-Some.inner c.parent-outer.result c.entries.result.now c.macro_def.result
          name hygiene c.parent-outer.ensures.parents c.parent-outer.ensures.is c.entries.ensures c.macro_def.ensures
          none
          ∙ ap (λ o. resolve_through from (chain scopes o) name hygiene) (sym c.in-Some.is)
          ∙ c.loop-current.invariant.same;
    }
