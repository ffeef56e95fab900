use Rattle.std.proofs.Common.{rules, List, [], ◌∷◌, ◌++◌, map, ◌<◌, ◌+◌, ◌⊎◌, length, subst}
use Rattle.hir_scope.specs.{Frames.of_kind, Scopes.entry_count, Scopes.frame_of}
use Rattle.hir_scope.specs.declared.scope.ScopeEntry.{ScopeEntry}
use Rattle.hir_scope.specs.internal.WalkState.{state, Over}
use Rattle.hir_scope.proofs.MovingLemmas.{child, opened_const_frames_are, opened_then, over_after, over_new}
use Rattle.hir_scope.proofs.walk.Walk.open_both.Goals as goal

pub returns-clause-opened : goal.returns-clause-opened
returns-clause-opened c = search (rules, opened_then, opened_const_frames_are, child)

pub returns-in_err-self-clause-full : goal.returns-in_err-self-clause-full
returns-in_err-self-clause-full c = λ h.
    let mid = c.open.new.self in
    let S = mid.scopes.scopes in
    let es = mid.entries.items in
    let o : (4294967295 < length S + 1) ⊎ (4294967295 < entry_count S + length es) = search rules in
    over_after (state c.args.self.now) (state mid) (of_kind c.args.scope) (of_kind c.args.const_scope ∷ []) c.in_ok-open.ensures.opened
    (subst (λ (xs : List ScopeEntry). Over
    (map frame_of S ++ record { kind = c.args.const_scope; entries = xs } ∷ [])) c.in_ok-open.ensures.taken
    (over_new S (record { kind = c.args.const_scope; entries = es }) o))
