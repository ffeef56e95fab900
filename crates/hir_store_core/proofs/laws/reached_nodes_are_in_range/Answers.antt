use Rattle.hir_store_core.specs.Contents.{rooted_of}
use Rattle.hir_store_core.proofs.UnderLemmas.{under_in_range}
use Rattle.hir_store_core.proofs.laws.reached_nodes_are_in_range.Goals as goal

pub returns : goal.returns
returns c = λ s sound entry_nodes in_range n r. under_in_range (rooted_of s) sound n r.2 (in_range r.0 r.1)
