use Rattle.hir_show_run.specs.Texts.{node_text}
use Rattle.hir_show_run.proofs.Texts.{text_then}
use Rattle.hir_show_run.proofs.reporting.write_at.Goals as goal

pub returns-clause-text : goal.returns-clause-text
returns-clause-text g c =
    text_then _ _ _ c.args.name.now (node_text c.args.node) c.write_node.result c.in_ok-write_all.ensures.bytes c.write_node.ensures.text
