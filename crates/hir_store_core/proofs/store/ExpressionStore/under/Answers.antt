use Rattle.std.proofs.Common.{◌+◌, ◌≡◌, ◌∙◌, sym, ap, length}
use Rattle.hir_validate.specs.declared.sizes.Sizes.{Sizes}
use Rattle.hir_validate.specs.Nodes.{graph}
use Rattle.hir_validate.proofs.FaultLemmas.{accepted_forest, graph-length}
use Rattle.hir_store_core.specs.NodeSets.{MarkedNodes}
use Rattle.std.proofs.lemmas.Result.{IfOk-weaker}
use Rattle.hir_store_core.proofs.KeptLemmas.{no_node}
use Rattle.hir_store_core.proofs.UnderLemmas.{found_right}
use Rattle.hir_store_core.specs.Contents.{rooted_of}
use Rattle.hir_store_core.proofs.store.ExpressionStore.under.Goals as goal

pub under_marked-requires : goal.under_marked-requires
under_marked-requires c =
    let s = c.args.self.now.nodes in
    let sizes = ap (λ (t : MarkedNodes). t.sizes) c.entry_nodes.view_is ∙ c.requires in
    ap length c.as_slice.ensures.value ∙ c.entry_nodes.invariant ∙ ap (λ (z : Sizes). z.exprs + z.pats + z.types) sizes ∙ sym (graph-length s) ∙ sym c.in-Some.ensures.parents.nodes

pub returns-clause-under : goal.returns-clause-under
returns-clause-under c =
    let s = c.args.self.now.nodes in
    let forest = accepted_forest (rooted_of c.args.self.now) c.has_no_fault.ensures in
    let marks = ap (λ (t : MarkedNodes). t.marks) c.entry_nodes.view_is in
    let sizes = ap (λ (t : MarkedNodes). t.sizes) c.entry_nodes.view_is in
    let len : length c.args.entry_nodes.now.marks ≡ length (graph s) = ap length (sym marks) ∙ c.entry_nodes.invariant ∙ (rw (sizes, c.requires) (sym (graph-length s))) in
    let under = rw (c.as_slice.ensures.value, marks) at (c.in_ok-marks.ensures.under (graph s) c.in-Some.ensures.parents forest.chains_end) in
    rw (c.sizes.ensures.sizes, c.requires) (found_right (rooted_of c.args.self.now) c.has_no_fault.ensures c.args.entry_nodes.now.marks c.in_ok-marks.marks.items len under)

pub returns-in_default-clause-under : goal.returns-in_default-clause-under
returns-in_default-clause-under c = IfOk-weaker c.no_nodes.result _ _ (λ found h n has. absurd (no_node c.args.self.now.nodes (c.kept_parts.ensures.none c.in_default.is) n has)) c.no_nodes.ensures.sizes
