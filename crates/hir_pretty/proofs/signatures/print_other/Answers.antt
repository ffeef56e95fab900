use Rattle.hir_pretty_nodes.proofs.Common.{refl, prints}
use Rattle.hir_pretty.proofs.OtherLemmas.{in_another}
use Rattle.hir_pretty.proofs.signatures.print_other.Goals as goal

pub returns : goal.returns
returns c = λ s o. in_another (prints c.new-printer.result c.new-printer.ensures refl c.add_other.ensures c.print.ensures.pieces c.print.ensures.memory) o
