-- Runs of calls, joined and split.
use Rattle.std.proofs.Common.{◌≡◌, ℕ, ◌+◌, ◌<◌, ◌≤◌, List, [], ◌∷◌, ◌++◌, length, drop, get_or, refl, subst, ◌∙◌}
use Rattle.std.specs.List.{flat_map}
use Rattle.std.proofs.lemmas.List.{at_drop_more, at_drop_all}
use Rattle.hir_node.specs.Runs.{Runs, no_call, a_call, MayRun, at_end, at_call}

module _ {V C : Type 0} {step : V → C → V → Type 0} where
  pub runs_one : {v w : V} {c : C} → step v c w → Runs step v (c ∷ []) w
  runs_one s = a_call s no_call

  pub runs_append : {u v w : V} {xs ys : List C} → Runs step u xs v → Runs step v ys w → Runs step u (xs ++ ys) w
  runs_append no_call q = q
  runs_append (a_call s p) q = a_call s (runs_append p q)

module _ {V C : Type 0} {may : V → C → Type 0} {step : V → C → V → Type 0} where
  pub may_here : {v : V} {c : C} {cs : List C} → MayRun may step v (c ∷ cs) → may v c
  may_here (at_call m _) = m

  pub may_then : {v w : V} {c : C} {cs : List C} → MayRun may step v (c ∷ cs) → step v c w → MayRun may step w cs
  may_then (at_call _ r) s = r _ s

  pub may_first : (xs ys : List C) {v : V} → MayRun may step v (xs ++ ys) → MayRun may step v xs
  may_first [] ys m = at_end
  may_first (x ∷ xs) ys (at_call m r) = at_call m (λ w s. may_first xs ys (r w s))

  pub may_after : {v w : V} {xs ys : List C} → MayRun may step v (xs ++ ys) → Runs step v xs w → MayRun may step w ys
  may_after m no_call = m
  may_after m (a_call s p) = may_after (may_then m s) p

-- the calls `rest` are still to come, after which all calls were made
pub record Going {V C : Type 0} (may : V → C → Type 0) (step : V → C → V → Type 0) (start : V) (all : List C) (now : V) (rest : List C) : Type 0 where
  pub can : MayRun may step now rest
  pub ends : (last : V) → Runs step now rest last → Runs step start all last

module _ {V C : Type 0} {may : V → C → Type 0} {step : V → C → V → Type 0} where
  pub going_from : {start : V} {all : List C} → MayRun may step start all → Going may step start all start all
  going_from m = record { can = m; ends = λ last r. r }

  pub going_on : {start now then : V} {all xs ys : List C} → Going may step start all now (xs ++ ys) → Runs step now xs then → Going may step start all then ys
  going_on g r = record { can = may_after g.can r; ends = λ last k. g.ends last (runs_append r k) }

  pub going_ended : {start now : V} {all : List C} → Going may step start all now [] → Runs step start all now
  going_ended g = g.ends _ no_call

  module _ {X : Type 0} (calls : X → List C) (xs : List X) (i : ℕ) {start now : V} {all : List C} where
    -- the next item's calls may be made
    pub may_turn : (d : X) → i < length xs → Going may step start all now (flat_map calls (drop i xs)) → MayRun may step now (calls (get_or xs i d))
    may_turn d lt g = may_first _ (flat_map calls (drop (i + 1) xs)) (rw (at_drop_more (flat_map calls) xs i d lt) at g.can)

    -- they were made
    pub going_turn : {then : V} (d : X) → i < length xs → Going may step start all now (flat_map calls (drop i xs)) → Runs step now (calls (get_or xs i d)) then
        → Going may step start all then (flat_map calls (drop (i + 1) xs))
    going_turn d lt g r = going_on (rw (at_drop_more (flat_map calls) xs i d lt) at g) r

    -- none is left
    pub going_over : length xs ≤ i → Going may step start all now (flat_map calls (drop i xs)) → Runs step start all now
    going_over le g = going_ended (rw (at_drop_all (flat_map calls) xs i le) at g)

    -- the same for an item that was read
    pub may_item : (x : X) → i < length xs → x ≡ get_or xs i x → Going may step start all now (flat_map calls (drop i xs)) → MayRun may step now (calls x)
    may_item x lt is g = rw (← is) at (may_turn x lt g)

    pub going_item : {then : V} (x : X) → i < length xs → x ≡ get_or xs i x → Going may step start all now (flat_map calls (drop i xs)) → Runs step now (calls x) then
        → Going may step start all then (flat_map calls (drop (i + 1) xs))
    going_item {then} x lt is g r = going_turn x lt g (subst (λ y. Runs step now (calls y) then) is r)

-- what runs over a visitor say of what it holds
module _ {V C : Type 0} {step : V → C → V → Type 0} where
  -- each call runs calls of what is held
  pub runs_through : {W D : Type 0} (under : W → D → W → Type 0) (held : V → W) (gives : C → List D) → ((v w : V) (c : C) → step v c w → Runs under (held v) (gives c) (held w))
      → {v w : V} {cs : List C} → Runs step v cs w → Runs under (held v) (flat_map gives cs) (held w)
  runs_through under held gives f no_call = no_call
  runs_through under held gives f (a_call s p) = runs_append (f _ _ _ s) (runs_through under held gives f p)

  -- the same value at the end
  pub runs_to : {v w x : V} {cs : List C} → x ≡ w → Runs step v cs w → Runs step v cs x
  runs_to e p = rw e p

  -- each call keeps a part
  pub runs_keep : {X : Type 0} (part : V → X) → ((v w : V) (c : C) → step v c w → part w ≡ part v) → {v w : V} {cs : List C} → Runs step v cs w → part w ≡ part v
  runs_keep part f no_call = refl
  runs_keep part f (a_call s p) = runs_keep part f p ∙ f _ _ _ s

  -- each call leaves a fact
  pub runs_leave : (P : V → Type 0) → ((v w : V) (c : C) → step v c w → P w) → {v w : V} {cs : List C} → Runs step v cs w → P v → P w
  runs_leave P f no_call h = h
  runs_leave P f (a_call s p) h = runs_leave P f p (f _ _ _ s)

  -- each call may be made where a fact holds that the calls leave
  pub may_always : (may : V → C → Type 0) (P : V → Type 0) → ((v : V) (c : C) → P v → may v c) → ((v w : V) (c : C) → step v c w → P w) → (cs : List C) {v : V} → P v → MayRun may step v cs
  may_always may P can leaves [] h = at_end
  may_always may P can leaves (c ∷ cs) h = at_call (can _ c h) (λ w s. may_always may P can leaves cs (leaves _ w c s))

-- calls that may always be made may run
pub may_freely : {V C : Type 0} {step : V → C → V → Type 0} (cs : List C) {v : V} → MayRun (λ _ _. Unit {0}) step v cs
may_freely [] = at_end
may_freely (c ∷ cs) = at_call tt (λ w s. may_freely cs)

-- for a visitor that doesn't say when it may be called
pub ruleset freely = (may_freely)

-- for what calls visitors
pub ruleset runs = (no_call, runs_one, a_call, runs_append, may_here, may_then, may_first, may_after)
