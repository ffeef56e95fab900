-- How what several calls in a row do to the bytes that an end tells is joined.
use Rattle.std.proofs.Common.{◌≡◌, ℕ, List, [], ◌++◌, Option, None, Some, take, drop, refl, sym, ap, ◌∙◌, append_assoc, append-nil, take-append-drop, take_all, arith, length, ◌-◌}
use Rattle.std.proofs.lemmas.Grind.{common_steps}
use Rattle.std.specs.Io.KnownBytes.{Appends}
use Rattle.hir_show_io.specs.Effects.{IsKeptOrUntold, AppendsPrefix, IsWrittenUpTo}

pub IsWrittenUpTo-start : (known : Option (List ℕ)) (bytes : List ℕ) → IsWrittenUpTo known known bytes bytes
IsWrittenUpTo-start None bytes = ([], refl, tt)
IsWrittenUpTo-start (Some xs) bytes = ([], refl, sym (append-nil xs))

pub Appends-twice : (old mid new : Option (List ℕ)) (first second : List ℕ) → Appends old mid first → Appends mid new second → Appends old new (first ++ second)
Appends-twice None mid new first second p q = tt
Appends-twice (Some xs) None new first second p q = absurd p
Appends-twice (Some xs) (Some ys) None first second p q = absurd q
Appends-twice (Some xs) (Some ys) (Some zs) first second p q = q ∙ ap (λ v. v ++ second) p ∙ append_assoc xs first second

pub IsWrittenUpTo-more : (old mid new : Option (List ℕ)) (bytes rest : List ℕ) (n : ℕ) → IsWrittenUpTo old mid bytes rest → Appends mid new (take n rest) → IsWrittenUpTo old new bytes (take (length rest - n) (drop n rest))
IsWrittenUpTo-more old mid new bytes rest n w a =
    let all : take (length rest - n) (drop n rest) ≡ drop n rest = grind (arith, common_steps, take_all {A = ℕ}) in
    rw all
    (w.0 ++ take n rest, w.1 ∙ ap (λ v. w.0 ++ v) (sym (take-append-drop n rest)) ∙ sym (append_assoc w.0 (take n rest) (drop n rest)), Appends-twice old mid new w.0 (take n rest) w.2 a)

pub IsWrittenUpTo-all : (old new : Option (List ℕ)) (bytes : List ℕ) → IsWrittenUpTo old new bytes [] → Appends old new bytes
IsWrittenUpTo-all old new bytes w = let e : w.0 ≡ bytes = sym (append-nil w.0) ∙ sym w.1 in rw e at w.2

pub AppendsPrefix-failed : (old mid new : Option (List ℕ)) (bytes rest : List ℕ) → IsWrittenUpTo old mid bytes rest → IsKeptOrUntold mid new → AppendsPrefix old new bytes
AppendsPrefix-failed None mid new bytes rest w k = tt
AppendsPrefix-failed (Some xs) mid None bytes rest w k = tt
AppendsPrefix-failed (Some xs) None (Some ys) bytes rest w k = absurd w.2
AppendsPrefix-failed (Some xs) (Some ms) (Some ys) bytes rest w k = (w.0, rest, w.1, cc)

-- a failed write of all but what was written before
pub AppendsPrefix-after : (old mid new : Option (List ℕ)) (first second : List ℕ) → Appends old mid first → AppendsPrefix mid new second → AppendsPrefix old new (first ++ second)
AppendsPrefix-after None mid new first second a g = tt
AppendsPrefix-after (Some xs) None new first second a g = absurd a
AppendsPrefix-after (Some xs) (Some ys) None first second a g = tt
AppendsPrefix-after (Some xs) (Some ys) (Some zs) first second a g =
    (first ++ g.0, g.1, ap (λ v. first ++ v) g.2 ∙ sym (append_assoc first g.0 g.1), g.3 ∙ ap (λ v. v ++ g.0) a ∙ append_assoc xs first g.0)

-- a front of some bytes is one of these and more
pub AppendsPrefix-more : (old new : Option (List ℕ)) (bytes more : List ℕ) → AppendsPrefix old new bytes → AppendsPrefix old new (bytes ++ more)
AppendsPrefix-more None new bytes more g = tt
AppendsPrefix-more (Some xs) None bytes more g = tt
AppendsPrefix-more (Some xs) (Some ys) bytes more g =
    (g.0, g.1 ++ more, ap (λ v. v ++ more) g.2 ∙ append_assoc g.0 g.1 more, g.3)

-- what was written in two parts, with nothing left
pub IsWrittenUpTo-twice : (old mid new : Option (List ℕ)) (first second rest : List ℕ) → rest ≡ [] → Appends old mid first → Appends mid new second → IsWrittenUpTo old new (first ++ second) rest
IsWrittenUpTo-twice old mid new first second rest none p q =
    (first ++ second, rw none (sym (append-nil (first ++ second))), Appends-twice old mid new first second p q)
