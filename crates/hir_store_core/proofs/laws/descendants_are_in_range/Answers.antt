use Rattle.hir_store_core.proofs.UnderLemmas.{under_in_range}
use Rattle.hir_store_core.specs.Contents.{rooted_of}
use Rattle.hir_store_core.proofs.laws.descendants_are_in_range.Goals as goal

pub returns : goal.returns
returns c = λ contents sound n r h u. under_in_range (rooted_of contents) sound n u h
