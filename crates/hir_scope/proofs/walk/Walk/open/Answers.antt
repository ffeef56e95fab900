use Rattle.std.proofs.Common.{rules, arith, ◌≡◌, List, [], ◌∷◌, ◌++◌, map, ◌<◌, ◌+◌, ◌⊎◌, length, subst}
use Rattle.std.proofs.lemmas.Grind.{common_steps}
use Rattle.std.specs.List.{flat_map}
use Rattle.hir_scope.specs.{Frames.binds, Scopes.entry_count, Scopes.frame_of}
use Rattle.hir_scope.specs.declared.scope.ScopeEntry.{ScopeEntry}
use Rattle.hir_scope.specs.internal.WalkState.{Over}
use Rattle.hir_scope.proofs.DoneLemmas.{all_in_range}
use Rattle.hir_scope.proofs.MovingLemmas.{child, opened_frames_are, over_new}
use Rattle.hir_scope.proofs.walk.Walk.open.Goals as goal

pub add_pat-requires : goal.add_pat-requires
add_pat-requires c = search (rules, all_in_range)

pub returns-in_err-self-clause-full : goal.returns-in_err-self-clause-full
returns-in_err-self-clause-full c =
    let S = c.args.self.now.scopes.scopes in
    let es = c.loop-pat.entries.items in
    let bound : es ≡ flat_map (binds c.args.store.now.nodes) c.args.pats.now = grind (arith, common_steps) in
    λ h.
    let o : (4294967295 < length S + 1) ⊎ (4294967295 < entry_count S + length es) = search rules in
    subst (λ (xs : List ScopeEntry). Over (map frame_of S ++ record { kind = c.args.kind; entries = xs } ∷ [])) bound
    (over_new S (record { kind = c.args.kind; entries = es }) o)

pub returns-clause-opened : goal.returns-clause-opened
returns-clause-opened c =
    let bound : c.loop-pat.entries.items ≡ flat_map (binds c.args.store.now.nodes) c.args.pats.now = grind (arith, common_steps) in
    search (rules, opened_frames_are, child, bound)
