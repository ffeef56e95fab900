use Rattle.std.proofs.Common.{rules, ◌≡◌, ◌∙◌, ap, sym, subst, map, List, ℕ, ◌++◌, ◌∷◌, [], Bor, ◌&&◌}
use Rattle.std.proofs.lemmas.List.{map-append}
use Rattle.std.specs.{HashSet.PutsKey, List.list_any}
use Rattle.hir_base.specs.declared.hygiene.SyntaxContext.{SyntaxContext}
use Rattle.hir_base.specs.contracts.hygiene.HygieneIdPartialEq.TheImpl as hygienes
use Rattle.hir_base.specs.contracts.name.NamePartialEq.TheImpl as names
use Rattle.hir_scope.specs.declared.scope.ScopeEntry.{ScopeEntry}
use Rattle.hir_usages.specs.Visible.{with_new_name}
use Rattle.hir_usages.specs.internal.Seen.{AreSeen}
use Rattle.hir_usages.proofs.VisibleLemmas.{entry_is_new, key_was_seen, seen_more, was_seen}
use Rattle.hir_usages.proofs.visible.VisibleEntries.add.Goals as goal

abbrev Key : Type 0
Key = SyntaxContext × Bor (List ℕ)

abbrev hygiene : Key → SyntaxContext
hygiene k = k.0

abbrev name : Key → List ℕ
name k = k.1.now

-- one more is listed, and was seen
pub invariant_of-self-2 : goal.invariant_of-self-2
invariant_of-self-2 c =
    let e = c.args.entry.now in
    let before = c.self.inside.entries.items in
    let items : c.push_reserved.new.self.items ≡ before ++ c.args.entry ∷ [] = search rules in
    let now = ap (map (λ (x : Bor ScopeEntry). x.now)) items ∙ map-append (λ (x : Bor ScopeEntry). x.now) before (c.args.entry ∷ []) in
    let key : Key = (c.syntax_context.result, c.as_str.result) in
    let same_hygiene : c.syntax_context.result ≡ e.hygiene = search rules in
    let same_name : c.as_str.result.now ≡ e.name = search rules in
    subst (λ (es : List ScopeEntry). AreSeen es (was_seen hygiene name c.insert.new.self.keys)) (sym now)
    (seen_more hygiene name
    (map (λ (x : Bor ScopeEntry). x.now) before) c.self.inside.seen.keys c.insert.new.self.keys key e same_hygiene
    same_name
    (subst (PutsKey c.self.inside.seen c.insert.new.self key) c.if-not-branch.false c.in_ok-insert.ensures.keys) c.self.invariant)

pub returns : goal.returns
returns c =
    let e = c.args.entry.now in
    let before = c.self.inside.entries.items in
    let items : c.push_reserved.new.self.items ≡ before ++ c.args.entry ∷ [] = search rules in
    let now = ap (map (λ (x : Bor ScopeEntry). x.now)) items ∙ map-append (λ (x : Bor ScopeEntry). x.now) before (c.args.entry ∷ []) in
    let same_hygiene : c.syntax_context.result ≡ e.hygiene = search rules in
    let same_name : c.as_str.result.now ≡ e.name = search rules in
    let keys = c.self.inside.seen.keys in
    let there =
    (λ i. list_any (λ (k : Key). hygienes.ghosts.eq (same_hygiene i) (hygiene k) && names.ghosts.eq (same_name i)
    (name k)) keys) ∙ key_was_seen hygiene name e.name e.hygiene keys in
    let found = map (λ (x : Bor ScopeEntry). x.now) before in
    let new = entry_is_new found e (was_seen hygiene name keys e.name e.hygiene) _ c.in_ok-insert.field-0
    (c.self.invariant e.name e.hygiene) there c.in_ok-insert.ensures.added c.if-not-branch.false in
    now ∙ (sym new ∙ ap (λ (es : List ScopeEntry). with_new_name es e) c.self.view_is)
