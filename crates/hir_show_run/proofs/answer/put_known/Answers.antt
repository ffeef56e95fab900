use Rattle.std.proofs.Common.{◌<◌, ◌≤◌, length, sym, ◌∙◌, inl, inr, codes, true≢false}
use Rattle.std.proofs.lemmas.Bool.{cases_lt}
use Rattle.hir_store_core.specs.PatLists.{child_exprs}
use Rattle.hir_show_run.specs.Answer.{after_spaces}
use Rattle.hir_show_run.proofs.WritingLemmas.{put_then}
use Rattle.hir_show_run.proofs.Children.{children_found, children_unknown}
use Rattle.hir_show_run.proofs.answer.put_known.Goals as goal

pub returns-then-not-has_expr : goal.returns-then-not-has_expr
returns-then-not-has_expr g c =
    let past : length c.args.store.now.nodes.exprs ≤ c.args.id = elim (cases_lt c.args.id (length c.args.store.now.nodes.exprs)) [ inl there ↦ absurd (true≢false (sym (c.has_expr.ensures.1 there) ∙ c.if-not-has_expr.true)) | inr past ↦ past ] in
    rw (children_unknown c.args.store.now.nodes c.args.id past) c.put.ensures

pub returns : goal.returns
returns g c =
    let there : c.args.id < length c.args.store.now.nodes.exprs = c.has_expr.ensures.0 c.if-not-has_expr.false in
    rw (children_found c.args.store.now.nodes c.args.id there)
    (put_then g.W.Sink c.args.output.now c.put-2.new.self c.put_children.new.output (codes " =") (after_spaces (child_exprs c.args.store.now.nodes c.args.id)) c.put-2.ensures c.put_children.ensures)
