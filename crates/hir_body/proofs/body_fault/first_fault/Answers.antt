use Rattle.std.proofs.Common.{Some, inl, inr, refl, sym, ◌∙◌, length}
use Rattle.std.proofs.lemmas.Bool.{false≢true}
use Rattle.hir_body.specs.declared.body_fault.BodyFault.TheVariants.{SelfOutOfRange}
use Rattle.hir_body.specs.Bodies.{BodyContents, body_fault, apart_fault}
use Rattle.hir_body.proofs.BodySound.{no_root, at_root, all_in_range, root_in_range, last_part, IfOk-more}
use Rattle.hir_body.proofs.body_fault.first_fault.Goals as goal

pub returns-in-None : goal.returns-in-None
returns-in-None c = no_root record { store = c.args.store.now; params = c.args.params.now; self_param = c.args.self_param } c.in-None.ensures

pub returns-then-not-self_is_in_range : goal.returns-then-not-self_is_in_range
returns-then-not-self_is_in_range c =
    at_root record { store = c.args.store.now; params = c.args.params.now; self_param = c.args.self_param } c.in-Some.root c.in-Some.ensures (Some SelfOutOfRange) (inl (refl, λ h. false≢true (sym c.if-not-self_is_in_range.true ∙ c.self_is_in_range.ensures.1 h)))

pub returns-in-Some-first_out_of_range : goal.returns-in-Some-first_out_of_range
returns-in-Some-first_out_of_range c =
    at_root record { store = c.args.store.now; params = c.args.params.now; self_param = c.args.self_param } c.in-Some.root c.in-Some.ensures (Some c.in-Some-first_out_of_range.fault) (inr (c.self_is_in_range.ensures.0 c.if-not-self_is_in_range.false, inl c.in-Some-first_out_of_range.ensures))

pub first_meeting-requires-clause-formals : goal.first_meeting-requires-clause-formals
first_meeting-requires-clause-formals c = all_in_range (length c.args.store.now.nodes.pats) c.args.params.now c.in_default.ensures

pub first_meeting-requires-clause-root : goal.first_meeting-requires-clause-root
first_meeting-requires-clause-root c = root_in_range c.args.store.now (c.roots_stand_apart.ensures c.args.store.now c.has_no_fault.ensures) c.in-Some.root (sym c.in-Some.ensures)

pub returns : goal.returns
returns c =
    let b : BodyContents = record { store = c.args.store.now; params = c.args.params.now; self_param = c.args.self_param } in
    IfOk-more (apart_fault c.args.store.now.nodes c.args.params.now c.in-Some.root) (body_fault b) (λ o h.
    at_root b c.in-Some.root c.in-Some.ensures o (last_part b c.in-Some.root (c.self_is_in_range.ensures.0 c.if-not-self_is_in_range.false) c.in_default.ensures o h)) c.first_meeting.result c.first_meeting.ensures
