-- A walk by turns, as far as it has come: what was done and what is still to come are all the turns of the top.
use Rattle.std.proofs.Common.{◌≡◌, ℕ, suc, ◌<◌, ◌≤◌, List, [], ◌∷◌, ◌++◌, Option, Some, None, length, refl, ap, subst, arith}
use Rattle.std.specs.List.{flat_map}
use Rattle.std.specs.Prelude.{Result, Ok, Err}
use Rattle.hir_node.specs.Runs.{MayRun}
use Rattle.hir_node.proofs.RunLemmas.{may_here}
use Rattle.hir_validate.specs.declared.node_arenas.Nodes.{Nodes}
use Rattle.hir_validate.specs.Recursion.{RankDecreases}
use Rattle.hir_store_core.specs.declared.pat_links.PatLink.{PatLink}
use Rattle.hir_store_core.specs.declared.pat_turns.Turn.{Turn}
use Rattle.hir_store_core.specs.declared.pat_turns.Turn.TheVariants.{Enter, Leave}
use Rattle.hir_store_core.specs.PatLists.{child_pats_of}
use Rattle.hir_store_core.specs.PatLinks.{HasPatLinks}
use Rattle.hir_store_core.specs.Tries.{Tries}
use Rattle.hir_store_core.specs.internal.PatTurns.{pat_of, turns, turn_after}
use Rattle.hir_store_core.proofs.TryLemmas.{goes, Trying, trying_from, trying_on, trying_refused, trying_ended}
use Rattle.hir_store_core.proofs.TurnLemmas.{Follows, at_top, turns_is, behind_in_range, follows, steps_step, steps, steps_is}

module _ {V E : Type 0} (may : V → Turn → Type 0) (step : V → Turn → Result (Unit {0}) E → V → Type 0) (s : Nodes) (top : ℕ) where
  -- the turns so far were taken, and this one and those that come after it are still to come; none where
  -- there is no turn
  abbrev pub WalksOn : V → V → Option Turn → Type 0
  WalksOn start now o = (rest : List Turn) × Follows s top rest o × (length rest ≤ length (turns s top)) × Trying may step start (turns s top) now rest

  pub walk_begins : RankDecreases s → {start : V} → MayRun may (goes step) start (turns s top) → WalksOn start start (Some (Enter top))
  walk_begins fall {start} can = (
    turns s top,
    (flat_map (turns s) (child_pats_of s top) ++ Leave top ∷ [], turns_is s fall top, ([], at_top, refl)),
    omega arith,
    trying_from may step start (turns s top) can,
  )

  pub walk_ended : {start now : V} → WalksOn start now None → Tries step start (turns s top) (Ok tt) now
  walk_ended {start} {now} w = trying_ended may step start (turns s top) now (subst (λ (r : List Turn). Trying may step start (turns s top) now r) w.1 w.3)

  module _ {start now : V} (t : Turn) (w : WalksOn start now (Some t)) where
    to_come : Trying may step start (turns s top) now (t ∷ w.1.0)
    to_come = subst (λ (r : List Turn). Trying may step start (turns s top) now r) w.1.1 w.3

    pub walk_may : may now t
    walk_may = may_here to_come.can

    pub walk_refused : {last : V} {e : E} → step now t (Err e) last → Tries step start (turns s top) (Err e) last
    walk_refused {last} {e} st = trying_refused may step start (turns s top) now t w.1.0 to_come last e st

    module _ (fall : RankDecreases s) (here : top < length s.pats) where
      pub walk_in_range : pat_of t < length s.pats
      walk_in_range = behind_in_range s fall top here t w.1.0 w.1.2

      module _ (links : List PatLink) (known : HasPatLinks s.pats links) where
        pub walk_next : {then : V} → step now t (Ok tt) then → WalksOn start then (turn_after s links top t)
        walk_next {then} st =
            let len : length w.0 ≡ suc (length w.1.0) = ap length w.1.1 in
            let le = w.2 in
            (w.1.0, follows s fall top here links known t w.1.0 w.1.2, omega arith, trying_on may step start (turns s top) now t w.1.0 to_come then st)

        pub walk_fewer : steps_step (steps s links top (length (turns s top))) (turn_after s links top t) < suc (steps s links top (length (turns s top)) t)
        walk_fewer =
            let len : length w.0 ≡ suc (length w.1.0) = ap length w.1.1 in
            let le = w.2 in
            let left : steps s links top (length (turns s top)) t ≡ length w.1.0 = steps_is s fall top here links known (length (turns s top)) t w.1.0 (omega arith) w.1.2 in
            let then_left : steps_step (steps s links top (length (turns s top))) (turn_after s links top t) ≡ length w.1.0 = steps_is s fall top here links known (suc (length (turns s top))) t w.1.0 (omega arith) w.1.2 in
            omega arith
