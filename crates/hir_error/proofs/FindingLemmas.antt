-- What child calls and other ids leave of the visitor that finds the first id that doesn't exist.
use Rattle.std.proofs.Common.{◌≡◌, List, [], ◌∷◌, ◌++◌, Option, Some, None, map, not, refl, ap, sym, subst, ◌∙◌}
use Rattle.std.specs.Option.{option_or}
use Rattle.std.proofs.lemmas.List.Folds.{find-append}
use Rattle.hir_node.specs.ChildCalls.{Call}
use Rattle.hir_node.specs.Runs.{Runs, no_call, a_call, MayRun}
use Rattle.hir_node.proofs.RunLemmas.{may_always}
use Rattle.hir_error.specs.declared.named_id.NamedId.{NamedId}
use Rattle.hir_error.specs.declared.missing_ids.FirstMissing.{FirstMissing}
use Rattle.hir_error.specs.NamedIds.{id_of_call, exists, first_out_of_range}
use Rattle.hir_error.specs.internal.Finding.{FindsAmong, Finds}

or_none : (o : Option NamedId) → o ≡ option_or o None
or_none None = refl
or_none (Some x) = refl

or_assoc : (a b c : Option NamedId) → option_or (option_or a b) c ≡ option_or a (option_or b c)
or_assoc None b c = refl
or_assoc (Some x) b c = refl

-- no id
pub found_none : (v : FirstMissing) → FindsAmong v [] v
found_none v = (refl, or_none v.found)

-- some ids, and then others
pub found_both : (v x w : FirstMissing) (xs ys : List NamedId) → FindsAmong v xs x → FindsAmong x ys w → FindsAmong v (xs ++ ys) w
found_both v x w xs ys p q = (
  q.0 ∙ p.0,
  q.1 ∙ (rw (p.0, p.1) (or_assoc v.found (first_out_of_range v.sizes xs) (first_out_of_range v.sizes ys)
      ∙ ap (option_or v.found) (sym (find-append (λ id. not (exists v.sizes id)) xs ys)))),
)

-- the ids of child calls
pub calls_found : {v w : FirstMissing} {calls : List Call} → Runs Finds v calls w → FindsAmong v (map id_of_call calls) w
calls_found {v} no_call = found_none v
calls_found {v} {w} (a_call {v = x} {c} {cs} s rest) = found_both v x w (id_of_call c ∷ []) (map id_of_call cs) s (calls_found rest)

-- the ids of child calls, and then others, which are known by an equal list
pub found_then : {A : Type 0} {v x : FirstMissing} {calls : List Call} {given ids : List A} (f : A → NamedId) (w : FirstMissing) → Runs Finds v calls x → FindsAmong x (map f given) w → given ≡ ids → FindsAmong v (map id_of_call calls ++ map f ids) w
found_then {A} {v} {x} {calls} {given} f w r q e =
    subst (λ (xs : List A). FindsAmong v (map id_of_call calls ++ map f xs) w) e (found_both v x w (map id_of_call calls) (map f given) (calls_found r) q)

pub may_find : (may : FirstMissing → Call → Type 0) → ((v : FirstMissing) (c : Call) → may v c) → (calls : List Call) {v : FirstMissing} → MayRun may Finds v calls
may_find may can calls = may_always may (λ v. Unit {0}) (λ v c h. can v c) (λ v w c s. tt) calls tt
