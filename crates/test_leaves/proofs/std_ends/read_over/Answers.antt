use Rattle.std.proofs.Common.{◌≡◌, ◌≤◌, ℕ, Bool, true, false, List, length, Some, Result, Ok, Err, arith}
use Rattle.std.specs.Prelude.{OnErr}
use Rattle.hir_show_io.specs.StdEnd.{IsKeptWithin, unless_overrun}
use Rattle.test_leaves.proofs.std_ends.read_over.Goals as goal

kept : {E : Type 0} (was now : Bool) (allowance : ℕ) (old new : List ℕ) (result : Result ℕ E) → OnErr result (IsKeptWithin allowance (unless_overrun was (Some old)) (unless_overrun now (Some new))) → was ≡ false → length old ≤ allowance → OnErr result (new ≡ old)
kept was now allowance old new (Ok n) k w fits = tt
kept true now allowance old new (Err e) k w fits = absurd (cc w)
kept false true allowance old new (Err e) k w fits = absurd (omega (arith, k, fits))
kept false false allowance old new (Err e) k w fits = k

pub returns : goal.returns
returns c = kept _ _ _ _ _ _ c.read.ensures.err
