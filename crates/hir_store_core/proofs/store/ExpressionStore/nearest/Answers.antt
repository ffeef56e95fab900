use Rattle.std.proofs.Common.{◌∙◌, ap, sym}
use Rattle.std.specs.Prelude.{Some}
use Rattle.hir_store_core.specs.Contents.{rooted_of}
use Rattle.hir_store_core.specs.internal.Sought.{passes}
use Rattle.hir_store_core.proofs.NearestLemmas.{found_from, found_ended, found_here, found_on, found_on_other, fewer}
use Rattle.hir_store_core.proofs.store.ExpressionStore.nearest.Goals as goal

pub returns-then-ends_at : goal.returns-then-ends_at
returns-then-ends_at c =
    let up = sym c.parent_in_code.ensures ∙ c.in-Some.is ∙ ap Some c.in-Expr.is in
    let ends = ap (passes c.args.sought.now) (sym c.role_at.ensures) ∙ sym c.ends_at.ensures ∙ c.if-ends_at.true in
    sym (found_here (rooted_of c.args.self.now) c.has_no_fault.ensures (passes c.args.sought.now) c.loop-parent.node c.in-Expr.id up ends) ∙ c.loop-parent.invariant

pub loop-parent-smaller-else-ends_at : goal.loop-parent-smaller-else-ends_at
loop-parent-smaller-else-ends_at c =
    fewer (rooted_of c.args.self.now) c.has_no_fault.ensures c.loop-parent.node c.in-Some.parent (sym c.parent_in_code.ensures ∙ c.in-Some.is)

pub loop-parent-preserved-else-ends_at : goal.loop-parent-preserved-else-ends_at
loop-parent-preserved-else-ends_at c =
    let test = passes c.args.sought.now in
    let up = sym c.parent_in_code.ensures ∙ c.in-Some.is ∙ ap Some c.in-Expr.is in
    let on = ap test (sym c.role_at.ensures) ∙ sym c.ends_at.ensures ∙ c.if-ends_at.false in
    ap (found_from c.args.self.now.nodes test) c.in-Expr.is
    ∙ sym (found_on (rooted_of c.args.self.now) c.has_no_fault.ensures test c.loop-parent.node c.in-Expr.id up on) ∙ c.loop-parent.invariant

pub loop-parent-smaller : goal.loop-parent-smaller
loop-parent-smaller c =
    fewer (rooted_of c.args.self.now) c.has_no_fault.ensures c.loop-parent.node c.in-Some.parent (sym c.parent_in_code.ensures ∙ c.in-Some.is)

pub loop-parent-preserved : goal.loop-parent-preserved
loop-parent-preserved c =
    let up = sym c.parent_in_code.ensures ∙ c.in-Some.is in
    sym (found_on_other (rooted_of c.args.self.now) c.has_no_fault.ensures (passes c.args.sought.now) c.loop-parent.node c.in-Some.parent up c.in_default-parent.not-Expr) ∙ c.loop-parent.invariant

pub returns : goal.returns
returns c =
    let none = sym c.parent_in_code.ensures ∙ c.in_default.is in
    sym (found_ended (rooted_of c.args.self.now) c.has_no_fault.ensures (passes c.args.sought.now) c.loop-parent.node none) ∙ c.loop-parent.invariant
