-- `vacant` puts a pointer beside the handle, and the slot owns nothing more.
use mathlib.Core.Path.{refl, sym, subst}
use lib.Dec.{T, lit<}
use mathlib.Core.List.{List, [], ◌∷◌, ◌++◌}
use seplogic.Ra.Ura.{Ura}
use mir.Syntax.{ty_ptr}
use mir.Val.{Val, vstruct, vcons, vnil, has_ty, WT}
use base.Logic.{SProp, ent, emp, id⊢}
use base.Fml.{ftrue}
use prog.Memory.{Memory}
use prog.Routine.{Routine}
use prog.Wp.{WpFn, Tables}
use types.Logic.{Logic}
use contract.Monad.{Fun}
use contract.Running.{tables, tables_of}
use sound.WpLaws.{WpFn-mono}
use types.Kit.{‵, raw, ◌⊛◌, ◌$◌, ◌∵◌, !, qed, by, move, drop, keep, use1, join, split, fsplit, fjoin, fpack, feq_l, feq_i, suffices, done}
use types.Part.{agg}
use types.Run.{no_more, and_then, returns, enter}
use types.ByLocal.{alloc_all, pass_all, free_all, look_at, get, sets}
use denote.Exit.{yes}
use denote.RattleType.{owns, Valss}
use denote.RawPtr.{Ptr, RawPtr, block_ptr, null_ptr, ptr_val}
use denote.Signature.{plain}
use denote.Steps.{nothing}
use denote.Struct.Struct.{within}
use denote.Struct.Owning.{shape}
use denote.Triple.Spec.{triple_of}
use denote.Triple.Statement.{Contract}
use denote.Triple.Table.{entered}
use denote.Triple.Walked.{says, Stays, stay_dropped, walk_of, ends_at, Goes-dropped, walk_Meets}
use Rattle.std.specs.Prelude.{None}
use Rattle.std.specs.Global.{Global}
use Rattle.std.proofs.alloc.Calls.{α, Fits, handle_tells}
use Rattle.std_alloc.proofs.ResultValues.{and_tt}
use Rattle.std_alloc.proofs.BoxSteps.Form.{P, owning, box_ty, box_typed}
use Rattle.std_heap.specs.contracts.Global as Heap
use Rattle.hir_c.specs.declared.slot.Slot.{Slot}
use Rattle.hir_c.specs.contracts.slot.Slot as Kept
use Rattle.hir_c.proofs.AsBox.{E}
use Rattle.hir_c.specs.contracts.slot.Slot.vacant as F
use Rattle.hir_c.specs.contracts.slot.Slot.vacant.Key.{name as #self}
use Rattle.hir_c.proofs.slot.Slot.vacant.Statement as stated
use Rattle.hir_c.proofs.slot.Slot.vacant.Code as code

abbrev stayed : Stays (F.ended).signature.params (F.ended).kept
stayed = (stay_dropped (plain (λ _. Heap.the_row)) yes, (stay_dropped (plain (λ _. RawPtr)) yes, tt))

abbrev word : Ptr → Val → Val
word p hv = vstruct (vcons (ptr_val p) (vcons hv vnil))

ptr_ok : (p : Ptr) → T (has_ty ty_ptr (ptr_val p)) × WT (ptr_val p)
ptr_ok (block_ptr b o) = (tt, tt)
ptr_ok null_ptr = (tt, record { fits = lit< tt })

slot_ok : (p : Ptr) (hv : Val) → Fits E.al hv → T (has_ty (box_ty E) (word p hv)) × WT (word p hv)
slot_ok (block_ptr b o) hv fa = box_typed E hv b o fa
slot_ok null_ptr hv fa = (and_tt (has_ty (α E.al) hv) fa.0, (record { fits = lit< tt }, (fa.1, tt)))

module _ {M : Type 1} {𝓤 : Ura M} (𝓛 : Logic 𝓤) (at_mem : Memory → SProp 𝓤) (run : Routine → Fun 𝓤) (𝓣 : Tables 𝓤 𝓛.H) where
  open 𝓛 use {H}

  abbrev W : Contract 𝓤
  W = walk_of 𝓛 F.ended stayed (F.clauses 𝓛 at_mem run)

  abbrev z_at : Ptr → Global → List Val → List Val → W.Ghost
  z_at p a us vs = ((tt, tt, tt, (a, (p, tt)), (us, (vs, tt))), tt)

  walk : (p : Ptr) (a : Global) (us vs : List Val) → ent 𝓤 (W.pre (z_at p a us vs)) (WpFn 𝓤 H 𝓣.C 𝓣.Λ code.function (us ++ (vs ++ [])) (W.post (z_at p a us vs)))
  walk p a us vs =
      let z : W.Ghost = z_at p a us vs in
      let Post = W.post z in
      let made : Slot = record { at = p; alloc = a; kept = None } in
      qed 𝓛 ((‵ ftrue ⊛ ‵ (owns (Heap.the_row ∷ RawPtr ∷ []) (a, (p, tt)) (us, (vs, tt)))) ∷ raw (emp 𝓤) ∷ []) ∵ split ! $ drop ! $ fsplit ! $
      handle_tells E.al ! a us (λ hv ea fa. move ! (1 ∷ []) $ fsplit ! $ feq_l ! (λ ev. drop ! $ move ! (0 ∷ []) $
      let w = word p hv in
      let Own = ‵ (Heap.the_row.own_val a (hv ∷ [])) in
      by ! (subst (λ (ws : List Val). ent 𝓤 (types.Kit.⋆ 𝓛 (Own ∷ raw (emp 𝓤) ∷ [])) (WpFn 𝓤 H 𝓣.C 𝓣.Λ code.function (ws ++ (vs ++ [])) Post)) (sym ea)
      (subst (λ (ws : List Val). ent 𝓤 (types.Kit.⋆ 𝓛 (Own ∷ raw (emp 𝓤) ∷ [])) (WpFn 𝓤 H 𝓣.C 𝓣.Λ code.function (hv ∷ (ws ++ [])) Post)) (sym ev)
      (qed 𝓛 (Own ∷ raw (emp 𝓤) ∷ []) ∵ enter ! 𝓣.C 𝓣.Λ code.function (hv ∷ ptr_val p ∷ []) _ $ alloc_all ! (λ ls. pass_all ! refl (fa, (ptr_ok p, tt)) $
      sets ! (agg ! (and_then ! (get ! refl) (and_then ! (get ! refl) (no_more !)))) refl (slot_ok p hv fa) $ returns ! (look_at ! 0 refl) $ free_all ! refl $
      keep ! (0 ∷ []) $ nothing ! $ nothing ! $ move ! (2 ∷ 0 ∷ []) $ fjoin ! $ feq_i ! (List Val) (ptr_val p ∷ []) (ptr_val p ∷ []) refl $ fjoin ! $ feq_i ! (List Val) (w ∷ []) (w ∷ []) refl $ fjoin ! $
      fpack ! (Valss (RawPtr ∷ P E ∷ [])) (within (shape (owning E)) (p, (a, tt)) (w ∷ [])) (ptr_val p ∷ [], (hv ∷ [], tt)) $ fjoin ! $
      use1 𝓛 (‵ (Kept.the_row.own_val made (w ∷ []))) (id⊢ 𝓤 _) $
      suffices ! _ (ends_at 𝓛 F.ended stayed (F.clauses 𝓛 at_mem run) z w made (tt, (tt, tt)) (tt, (tt, tt))) $ says ! refl $
      nothing ! $ nothing ! $ fjoin ! $ nothing ! $ fjoin ! $ join ! $ nothing ! $ join ! $ done !))))))

pub vacant_spec : {M : Type 1} → stated.statement M
unfolding tables_of
vacant_spec 𝓤 𝓛 𝓜 𝓡 wired =
    let 𝓣 : Tables 𝓤 𝓛.H = tables_of 𝓤 𝓛.H 𝓜 (tables 𝓤 𝓛.H 𝓜 𝓡 𝓡.env) in
    entered 𝓤 𝓛.H (triple_of 𝓛 F.signature (F.spec 𝓛 𝓜.mem 𝓡.returns)) 𝓣.C 𝓣.Λ #self code.function (code.unfolded 𝓤 𝓛.H 𝓜 𝓡 wired)
    (walk_Meets 𝓛 F.ended stayed (Goes-dropped 𝓛 0 (plain (λ _. Heap.the_row)) yes (λ κs x f. refl), (Goes-dropped 𝓛 0 (plain (λ _. RawPtr)) yes (λ κs x f. refl), tt)) (F.clauses 𝓛 𝓜.mem 𝓡.returns) (WpFn 𝓤 𝓛.H 𝓣.C 𝓣.Λ code.function) (WpFn-mono 𝓤 𝓛.H 𝓛.laws 𝓣 code.function)
    (λ z. walk 𝓛 𝓜.mem 𝓡.returns 𝓣 z.0.3.1.0 z.0.3.0 z.0.4.0 z.0.4.1.0))
