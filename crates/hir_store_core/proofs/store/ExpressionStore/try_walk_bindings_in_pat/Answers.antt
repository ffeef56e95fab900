use Rattle.std.proofs.Common.{◌≡◌, ◌∙◌, ◌<◌, length, refl, rules, sym}
use Rattle.std.specs.List.{flat_map}
use Rattle.hir_validate.proofs.SoundLemmas.{sound_falls}
use Rattle.hir_store_core.specs.Contents.{rooted_of}
use Rattle.hir_store_core.specs.PatLists.{bindings_at}
use Rattle.hir_store_core.specs.internal.PatTurns.{pat_of, turns, entered_pat}
use Rattle.hir_store_core.proofs.TurnLemmas.{turns_in_range, bindings_of_turns}
use Rattle.hir_store_core.proofs.WalkLemmas.{may_those}
use Rattle.hir_store_core.proofs.TryLemmas.{turns_through, turns_keep, tries_to}
use Rattle.hir_store_core.proofs.store.ExpressionStore.try_walk_bindings_in_pat.Goals as goal

pub walk_turns-requires-clause-may : goal.walk_turns-requires-clause-may
walk_turns-requires-clause-may g c =
    let fall = sound_falls (rooted_of c.args.self.now) c.has_no_fault.ensures in
    may_those _ (λ v. goal.F-IsAlwaysCallable g v.f.now × (v.store ≡ c.args.self)) (λ t. pat_of t < length c.args.self.now.nodes.pats)
    (λ v t h q. (h.0, rw h.1 q)) (λ v w t h s. (s.1, s.2 ∙ h.1)) _ (c.requires.callable, refl) (turns_in_range c.args.self.now.nodes fall c.args.id c.requires.in_range)

pub returns-clause-runs : goal.returns-clause-runs
returns-clause-runs g c =
    let fall = sound_falls (rooted_of c.args.self.now) c.has_no_fault.ensures in
    let top = turns c.args.self.now.nodes c.args.id in
    let all = turns_through (λ p x r q. goal.F-step g p x r q) (λ v. v.f.now) (λ t. flat_map (bindings_at c.args.self.now.nodes) (entered_pat t)) (λ v. v.store ≡ c.args.self)
    (λ v w t r h s. (rw h at s.0, s.2 ∙ h)) top c.walk_turns.result refl c.walk_turns.ensures in
    let same = sym (turns_keep (λ v. v.f.ghost_name) (λ v w t r s. s.3) top c.walk_turns.result c.walk_turns.ensures) in
    tries_to (search (rules, same)) (rw (bindings_of_turns c.args.self.now.nodes fall c.args.id c.requires.in_range) at all.0)

pub returns-clause-callable : goal.returns-clause-callable
returns-clause-callable g c =
    let top = turns c.args.self.now.nodes c.args.id in
    let all = turns_through (λ p x r q. goal.F-step g p x r q) (λ v. v.f.now) (λ t. flat_map (bindings_at c.args.self.now.nodes) (entered_pat t)) (λ v. goal.F-IsAlwaysCallable g v.f.now × (v.store ≡ c.args.self))
    (λ v w t r h s. (rw h.1 at s.0, (s.1, s.2 ∙ h.1))) top c.walk_turns.result (c.requires.callable, refl) c.walk_turns.ensures in
    let same = sym (turns_keep (λ v. v.f.ghost_name) (λ v w t r s. s.3) top c.walk_turns.result c.walk_turns.ensures) in
    let left = all.1.0 in
    search (rules, same, left)
