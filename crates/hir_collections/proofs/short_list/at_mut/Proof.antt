-- `at_mut` lends one element of an array. The borrow checker does not cover an element of a
-- `[T; N]` that goes to the caller, so this proof walks the code by hand.
use mathlib.Core.Path.{◌≡◌, refl, sym, ap, subst, ◌∙◌}
use Prim.Native.Nat.{ℕ, suc, ◌+◌, ◌*◌, ◌^◌, ◌<◌, ◌≤◌}
use native.Mathlib.Nat.{mul-le-mul_right}
use native.Mathlib.Omega.{arith}
use mathlib.Core.List.{List, [], ◌∷◌, ◌++◌}
use seplogic.Ra.Ura.{Ura}
use mir.Syntax.{Fn, named, w64}
use mir.MapTy.{inst_fn}
use mir.Val.{Val, vptr, vint}
use base.Logic.{SProp, ent, sep, ex, guard}
use base.Fml.{Fml, Lft, GName, Share, ftrue, flft, fobs, fbor}
use prog.Memory.{Memory, size}
use prog.Routine.{Routine}
use prog.Wp.{Calls, Loops, WpFn, Tables}
use types.Logic.{Logic, sem}
use types.Mut.{open_ref}
use contract.BorrowLft.{◌⊑◌}
use contract.Lifetimes.{AllOutlive}
use contract.Monad.{Fun}
use contract.Running.{tables, tables_of}
use sound.WpLaws.{WpFn-mono}
use types.Kit.{Item, ‵, ◌⊛◌, raw, given, some, later, ◌$◌, ◌∵◌, !, qed, by, move, keep, drop, split, split3, join, learn, fsplit, fsplit3, fjoin, fjoin3, use1, use2, await, pick, suffices, frame, done, updating, group, now, show, rewrite, feq_i, check}
use denote.Builtin.{RefMutOf, usize}
use denote.Exit.{yes, no}
use denote.Follow.{follows}
use denote.Memory.{mem}
use denote.Param.{number, layout}
use denote.Param.Laws.{Laws}
use denote.Plain.{uint_vals, uint_Tells}
use denote.RattleType.{RattleType, owns}
use denote.Ref.{MutBor, MutRef, mut_vals, mut_Tells}
use denote.Signature.{plain}
use denote.Steps.{nothing}
use denote.Triple.Clauses.{Clauses, Ended, closing}
use denote.Triple.Entry.{on_entry}
use denote.Triple.Spec.{Meets, triple_of}
use denote.Triple.Table.{entered}
use denote.Triple.Walked.{says, Stays, stay_dropped, walk_of, ends_at, walked, Goes-dropped, Goes-spent_ref, walk_Meets}
use native.Mathlib.Nat.{zero-mul, suc-mul}
use Prim.Native.Nat.{zero}
use lib.ListN.{length, get_or, set, take, drop as drop_list, length-set}
use lib.Seq.{set_split, set-get_or}
use prog.Memory.{capped}
use prog.Capped.{capped_is}
use types.SemTy.{cells, Body}
use types.Follow.{takes_part}
use types.Run.{stop, addr, bin, size_word, returns, enter}
use types.ByLocal.{alloc_all, pass_all, free_all, look_at, get, through, sets, is}
use borrow.Table.Elements.{at, at_mul, cut_app, join_app, length-take-le}
use Rattle.std.proofs.lemmas.List.{get_or_default}
use Rattle.hir_collections.proofs.ArrayMemory.{args, R, S, elements_out, elements_in}
use Rattle.hir_collections.specs.contracts.short_list.at_mut as F
use Rattle.hir_collections.specs.contracts.short_list.at_mut.Key.{name as #self}
use Rattle.hir_collections.proofs.short_list.at_mut.Statement as stated
use Rattle.hir_collections.proofs.short_list.at_mut.Code as code

-- where the product fits a word, the count is zero or the size fits too
capped_times : (i k : ℕ) → i * k < 2 ^ 64 → i * capped k ≡ i * k
capped_times zero k h = zero-mul (capped k) ∙ sym (zero-mul k)
capped_times (suc i) k h =
    let step = suc-mul i k in ap (λ (j : ℕ). suc i * j) (capped_is k (omega arith))

head : {X : Type 0} (xs : List X) → 0 < length xs → X
head [] h = absurd (omega arith)
head (x ∷ xs) h = x

module _ (X : RattleType) (n : ℕ) where
  abbrev function : Fn
  function = inst_fn (args X n) code.function

  abbrev ended : Ended
  ended = F.ended X (number n)

  abbrev stayed : Stays ended.signature.params ended.kept
  stayed = (
    stay_dropped (RefMutOf (0 ∷ []) tt (plain (λ _. S X n)) (λ _. tt)) no,
    (stay_dropped (plain (λ _. usize)) yes, tt),
  )

module _ (X : RattleType) (n : ℕ) (L : Laws X) {M : Type 1} {𝓤 : Ura M} (𝓛 : Logic 𝓤) where
  open 𝓛 use {H, A}

  module _ (κ : Lft) (q : Share) (b o : ℕ) (γ : GName) (d : (S X n).Denot) (m : ℕ) where
    abbrev p : ℕ
    p = o

    abbrev s : ℕ
    s = size (layout X)

    -- where the element lies
    abbrev spot : ℕ
    spot = m * s + p

    abbrev front : List X.Denot
    front = take m d

    abbrev back : List X.Denot
    back = drop_list (suc m) d

    abbrev after : X.Denot → (S X n).Denot
    after x = set d m x

    abbrev elements : List X.Denot → ℕ → Fml
    elements ws = cells (mem (R X n)) ws b

    abbrev Rest : SProp 𝓤
    Rest = sep 𝓤 (sem 𝓛 (elements front p)) (sem 𝓛 (elements back (spot + s)))

    on : m < length d → at p s (length front) ≡ spot
    on lt = at_mul p s (length front) ∙ ap (λ (k : ℕ). k * s + p) (length-take-le m d (omega arith))

    put : m < n → length d ≡ n → (x : X.Denot)
        → ent 𝓤 (sep 𝓤 (sem 𝓛 ((mem (R X n)).own_at x b spot)) Rest) (sem 𝓛 ((mem (S X n)).own_at (after x) b o))
    put within long x =
        let lt : m < length d = omega arith in
        qed 𝓛 (‵ ((mem (R X n)).own_at x b spot) ∷ ‵ (elements front p) ∷ ‵ (elements back (spot + s)) ∷ []) ∵
        move ! (0 ∷ 2 ∷ []) $ fjoin ! $
        rewrite ! 0 (λ (k : ℕ). ‵ (elements (x ∷ back) k)) (sym (on lt)) refl $ move ! (1 ∷ 0 ∷ []) $
        use2 𝓛 (‵ (elements (front ++ x ∷ back) p)) (join_app 𝓛 (mem (R X n)) front (x ∷ back) b p) $
        rewrite ! 0 (λ (l : List X.Denot). ‵ (elements l p)) (sym (set_split d m x lt)) refl $
        by ! (elements_in X n 𝓛 b o (after x) (length-set d m x ∙ long))

    abbrev Lent : GName × X.Denot → SProp 𝓤
    Lent y = guard 𝓤 (y.1 ≡ get_or d m y.1) (sep 𝓤 (sem 𝓛 ((MutRef (named 0) κ (R X n)).own_val (record { ref_ptr = (b, spot); ghost_name = y.0; now = y.1 }) (vptr b spot ∷ []))) (sep 𝓤 (A.lft κ q) (sem 𝓛 (follows (S X n) (R X n) γ y.0 after))))

    abbrev lent : GName × X.Denot → Item 𝓤
    lent y = given (y.1 ≡ get_or d m y.1) (‵ ((MutRef (named 0) κ (R X n)).own_val (record { ref_ptr = (b, spot); ghost_name = y.0; now = y.1 }) (vptr b spot ∷ [])) ⊛ ‵ (flft κ q) ⊛ ‵ (follows (S X n) (R X n) γ y.0 after))

    lends : m < n → (vs : List Val)
        → ent 𝓤 (sep 𝓤 (sem 𝓛 ((MutRef (named 0) κ (S X n)).own_val (record { ref_ptr = (b, o); ghost_name = γ; now = d }) vs)) (A.lft κ q)) (H.⇛ (ex 𝓤 Lent))
    lends within vs =
        qed 𝓛 (‵ ((MutRef (named 0) κ (S X n)).own_val (record { ref_ptr = (b, o); ghost_name = γ; now = d }) vs) ∷ ‵ (flft κ q) ∷ []) ∵
        updating ! $ fsplit3 ! $ drop ! $ open_ref ! tt (mem (S X n)) {b = b} {o = o} $
        use1 𝓛 (given (length d ≡ n) (‵ (elements d p))) (elements_out X n 𝓛 b o d) $
        learn ! (λ long.
        let lt : m < length d = omega arith in
        let any : X.Denot = head d (omega arith) in
        let x : X.Denot = get_or d m any in
        rewrite ! 0 (λ (l : List X.Denot). ‵ (elements l p)) (sym (set-get_or d m any) ∙ set_split d m x lt) refl $
        use1 𝓛 (‵ (elements front p) ⊛ ‵ (elements (x ∷ back) (at p s (length front)))) (cut_app 𝓛 (mem (R X n)) front (x ∷ back) b p) $
        split ! $ rewrite ! 1 (λ (k : ℕ). ‵ (elements (x ∷ back) k)) (on lt) refl $ move ! (1 ∷ []) $ fsplit ! $
        move ! (2 ∷ 1 ∷ []) $ join ! $ move ! (2 ∷ 3 ∷ 4 ∷ 1 ∷ 0 ∷ []) $ group ! 5 $
        use1 𝓛 (later (some (λ (δ : GName). ‵ (fobs δ ((R X n).coded.code x)) ⊛ ‵ (fbor κ (Body (mem (R X n)) b spot δ)) ⊛ ‵ (flft κ q) ⊛ ‵ (follows (S X n) (R X n) γ δ after))))
        (takes_part 𝓛 (mem (S X n)) (mem (R X n)) after κ q b o b spot γ Rest (put within long) ((S X n).coded.code d) ((S X n).coded.code d) x) $
        await ! tt $ pick ! (λ δ. split3 ! $
        feq_i ! (List Val) (vptr b spot ∷ []) (vptr b spot ∷ []) refl $ fjoin3 ! $ now ! $ show ! Lent (δ, x) $
        check ! (get_or_default d m any x lt) $ done !))

  module _ (at_mem : Memory → SProp 𝓤) (run : Routine → Fun 𝓤) where
    abbrev clauses : Clauses 𝓤 (ended X n)
    clauses = F.clauses X (number n) 𝓛 at_mem run

    module _ (C : Calls 𝓤 H) (Λ : Loops 𝓤 H) (κ κT κN : Lft) (q qT qN : Share)
        (bd : AllOutlive 3 (ended X n).signature.outlives (κ, (κT, (κN, tt)))) (b o : ℕ) (γ : GName)
        (d : (S X n).Denot) (m : ℕ) where
      abbrev self : MutBor (S X n).Denot
      self = record { ref_ptr = (b, o); ghost_name = γ; now = d }

      abbrev bound : (walk_of 𝓛 (ended X n) (stayed X n) clauses).Ghost
      bound = (((κ, (κT, (κN, tt))), (q, (qT, (qN, tt))), bd, (self, (m, tt)), (mut_vals self, (vint w64 m ∷ [], tt))), tt)

      walk : m < n → m < 2 ^ 64 → n * size (layout X) < 2 ^ 63
          → ent 𝓤 (on_entry 𝓛 (ended X n).signature (κ, (κT, (κN, tt))) (q, (qT, (qN, tt))) (self, (m, tt)) (mut_vals self, (vint w64 m ∷ [], tt))) (WpFn 𝓤 H C Λ (function X n) (vptr b o ∷ vint w64 m ∷ []) ((walk_of 𝓛 (ended X n) (stayed X n) clauses).post bound))
      walk within fm small =
          let s : ℕ = size (layout X) in
          let bytes : m * s ≤ n * s = mul-le-mul_right s (omega arith) in
          let fs : m * s < 2 ^ 64 = omega arith in
          let place : ℕ = m * s + o in
          qed 𝓛 ((‵ (flft κ q) ⊛ ‵ (flft κT qT) ⊛ ‵ (flft κN qN) ⊛ ‵ ftrue) ∷ ‵ (owns (MutRef (named 0) κ (S X n) ∷ usize ∷ []) (self, (m, tt)) (mut_vals self, (vint w64 m ∷ [], tt))) ∷ []) ∵
          enter ! C Λ (function X n) (vptr b o ∷ vint w64 m ∷ []) _ $
          alloc_all ! (λ l. pass_all ! refl ((tt, tt), ((tt, record { fits = fm }), tt)) $
          sets ! (is ! (bin ! (get ! refl) (size_word !) (record { fits = subst (λ (k : ℕ). k < 2 ^ 64) (sym (capped_times m s fs)) fs })) (ap (vint w64) (capped_times m s fs))) refl (tt, record { fits = fs }) $
          sets ! (addr ! (through ! refl (stop !))) refl (tt, tt) $
          sets ! (bin ! (get ! refl) (get ! refl) tt) refl (tt, tt) $
          sets ! (addr ! (through ! refl (stop !))) refl (tt, tt) $
          split ! $ move ! (2 ∷ []) $ fsplit ! $ move ! (0 ∷ 2 ∷ []) $
          use2 𝓛 (later (some (lent κ q b o γ d m))) (lends κ q b o γ d m within (mut_vals self)) $
          await ! tt $ pick ! (λ y. learn ! (λ read.
          returns ! (look_at ! 0 refl) $ free_all ! refl $ keep ! (0 ∷ 2 ∷ []) $ split3 ! $
          suffices ! _ (ends_at 𝓛 (ended X n) (stayed X n) clauses bound (vptr b place) (record { ref_ptr = (b, place); ghost_name = y.0; now = y.1 }) (tt, (tt, tt)) (tt, (tt, tt))) $
          nothing ! $ nothing ! $ fjoin ! $ nothing ! $ fjoin ! $ join ! $ move ! (1 ∷ 3 ∷ []) $ join ! $ join ! $ frame ! $ says ! read $ done !)))

    meets : (𝓣 : Tables 𝓤 H) → Meets 𝓛 (ended X n).signature (WpFn 𝓤 H 𝓣.C 𝓣.Λ (function X n)) (closing 𝓛 (ended X n) clauses)
    meets 𝓣 =
        walk_Meets 𝓛 (ended X n) (stayed X n) (Goes-spent_ref 𝓛 3 (0 ∷ []) tt (plain (λ _. S X n)), (Goes-dropped 𝓛 3 (plain (λ _. usize)) yes (λ κs x f. refl), tt)) clauses (WpFn 𝓤 H 𝓣.C 𝓣.Λ (function X n)) (WpFn-mono 𝓤 H 𝓛.laws 𝓣 (function X n))
        (walked 𝓛 (ended X n) (stayed X n) clauses (WpFn 𝓤 H 𝓣.C 𝓣.Λ (function X n)) (λ κs. (mut_vals, (uint_vals w64, tt))) (λ κs. (mut_Tells (named 0) κs.0 (S X n), (uint_Tells w64, tt)))
        (λ κs qs bounds a g are.
        qed 𝓛 (raw (on_entry 𝓛 (ended X n).signature κs qs a (mut_vals a.0, (vint w64 a.1.0 ∷ [], tt))) ∷ (given (κs.1.0 ⊑ X.lives) (‵ ftrue) ⊛ given (κs.1.1.0 ⊑ []) (‵ ftrue) ⊛ given (size (layout (S X n)) < 2 ^ 63) (‵ ftrue) ⊛ given (a.1.0 < n) (‵ ftrue)) ∷ []) ∵
        move ! (1 ∷ []) $ split3 ! $ drop ! $ drop ! $ split ! $ learn ! (λ fits. drop ! $ learn ! (λ within. drop ! $
        by ! (walk 𝓣.C 𝓣.Λ κs.0 κs.1.0 κs.1.1.0 qs.0 qs.1.0 qs.1.1.0 bounds a.0.ref_ptr.0 a.0.ref_ptr.1 a.0.ghost_name a.0.now a.1.0 within are.1.0.1 (omega arith))))))

pub at_mut_spec : {M : Type 1} → stated.statement M
unfolding tables_of
at_mut_spec 𝓤 𝓛 𝓜 𝓡 wired X n L fits =
    let 𝓣 : Tables 𝓤 𝓛.H = tables_of 𝓤 𝓛.H 𝓜 (tables 𝓤 𝓛.H 𝓜 𝓡 𝓡.env) in
    entered 𝓤 𝓛.H (triple_of 𝓛 (ended X n).signature (F.spec X (number n) 𝓛 𝓜.mem 𝓡.returns)) 𝓣.C 𝓣.Λ (#self (args X n)) (function X n) (code.unfolded 𝓤 𝓛.H 𝓜 𝓡 wired (X, (number n, tt)))
    (meets X n L 𝓛 𝓜.mem 𝓡.returns 𝓣)
