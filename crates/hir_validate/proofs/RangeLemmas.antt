-- What a run of calls leaves of the visitor that tests ids.
use Rattle.std.proofs.Common.{◌≡◌, Bool, true, false, ◌&&◌, List, refl, ◌∙◌}
use Rattle.std.specs.List.{list_all}
use Rattle.hir_node.specs.ChildCalls.{Call}
use Rattle.hir_node.specs.Runs.{Runs, no_call, a_call, MayRun}
use Rattle.hir_node.proofs.RunLemmas.{may_always}
use Rattle.hir_validate.specs.declared.range.InRange.{InRange}
use Rattle.hir_validate.specs.Sizes.{is_in_range}
use Rattle.hir_validate.specs.internal.Ranges.{Tests}

pub and_true : (b : Bool) → b ≡ (b && true)
and_true true = refl
and_true false = refl

pub and_assoc : (a b c : Bool) → ((a && b) && c) ≡ (a && (b && c))
and_assoc true b c = refl
and_assoc false b c = refl

pub calls_are_tested : {v w : InRange} {calls : List Call} → Runs Tests v calls w → (w.sizes ≡ v.sizes) × (w.all_in_range ≡ (v.all_in_range && list_all (is_in_range v.sizes) calls))
calls_are_tested {v} no_call = (refl, and_true v.all_in_range)
calls_are_tested {v} {w} (a_call {v = x} {c} {cs} s rest) =
    let more = calls_are_tested rest in (
      more.0 ∙ s.0,
      more.1 ∙ (rw (s.0, s.1) (and_assoc v.all_in_range (is_in_range v.sizes c) (list_all (is_in_range v.sizes) cs))),
    )

pub may_test : (may : InRange → Call → Type 0) → ((v : InRange) (c : Call) → may v c) → (calls : List Call) {v : InRange} → MayRun may Tests v calls
may_test may can calls = may_always may (λ v. Unit {0}) (λ v c h. can v c) (λ v w c s. tt) calls tt
