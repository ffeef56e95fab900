use Rattle.std.proofs.Common.{sym, ◌∙◌, codes, true≢false, decimal}
use Rattle.hir_store_core.specs.RootSearch.{root_for_expr}
use Rattle.hir_show_run.proofs.WritingLemmas.{put_then}
use Rattle.hir_show_run.proofs.Children.{root_found, root_none}
use Rattle.hir_show_run.proofs.answer.put_root.Goals as goal

pub returns-then-not-covers_expr : goal.returns-then-not-covers_expr
returns-then-not-covers_expr g c =
    let none = root_none (root_for_expr c.args.store.now.roots c.args.id) (λ some. true≢false (sym (c.covers_expr.ensures.1 some) ∙ c.if-not-covers_expr.true)) in
    rw none c.put.ensures

pub returns : goal.returns
returns g c =
    let root = c.find_root_for_expr-root.result in
    rw (root_found c.args.store.now.roots c.args.id root c.find_root_for_expr-root.ensures)
    (put_then g.W.Sink c.args.output.now c.put-2.new.self c.put_number.new.self (codes " = ") (decimal root) c.put-2.ensures (rw c.into_raw.ensures at c.put_number.ensures))
