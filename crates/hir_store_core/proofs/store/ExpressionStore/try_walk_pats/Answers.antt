use Rattle.std.proofs.Common.{rules, sym}
use Rattle.hir_node.proofs.RunLemmas.{may_always}
use Rattle.hir_validate.proofs.SoundLemmas.{sound_falls}
use Rattle.hir_store_core.specs.Contents.{rooted_of}
use Rattle.hir_store_core.specs.internal.PatTurns.{turns, entered_pat}
use Rattle.hir_store_core.proofs.TurnLemmas.{pats_of_turns}
use Rattle.hir_store_core.proofs.TryLemmas.{turns_through, turns_keep, tries_to}
use Rattle.hir_store_core.proofs.store.ExpressionStore.try_walk_pats.Goals as goal

pub walk_turns-requires-clause-may : goal.walk_turns-requires-clause-may
walk_turns-requires-clause-may g c = may_always _ (λ v. goal.F-IsAlwaysCallable g v.f.now) (λ v t h. h) (λ v w t s. s.1) _ c.requires.callable

pub returns-clause-runs : goal.returns-clause-runs
returns-clause-runs g c =
    let fall = sound_falls (rooted_of c.args.self.now) c.has_no_fault.ensures in
    let top = turns c.args.self.now.nodes c.args.id in
    let all = turns_through (λ p x r q. goal.F-step g p x r q) (λ v. v.f.now) entered_pat (λ v. Unit {0}) (λ v w t r h s. (s.0, tt)) top c.walk_turns.result tt c.walk_turns.ensures in
    let same = sym (turns_keep (λ v. v.f.ghost_name) (λ v w t r s. s.2) top c.walk_turns.result c.walk_turns.ensures) in
    tries_to (search (rules, same)) (rw (pats_of_turns c.args.self.now.nodes fall c.args.id c.requires.in_range) at all.0)

pub returns-clause-callable : goal.returns-clause-callable
returns-clause-callable g c =
    let top = turns c.args.self.now.nodes c.args.id in
    let all = turns_through (λ p x r q. goal.F-step g p x r q) (λ v. v.f.now) entered_pat (λ v. goal.F-IsAlwaysCallable g v.f.now) (λ v w t r h s. (s.0, s.1)) top c.walk_turns.result c.requires.callable c.walk_turns.ensures in
    let same = sym (turns_keep (λ v. v.f.ghost_name) (λ v w t r s. s.2) top c.walk_turns.result c.walk_turns.ensures) in
    let left = all.1 in
    search (rules, same, left)
