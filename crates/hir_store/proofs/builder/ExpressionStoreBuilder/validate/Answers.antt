use Rattle.hir_store_core.specs.Contents.{rooted_of}
use Rattle.hir_store_core.proofs.LinkLemmas.{patterns_have_one_place}
use Rattle.hir_store.specs.Building.{building_of, contents_of, finish_fault}
use Rattle.hir_store.proofs.builder.ExpressionStoreBuilder.validate.Goals as goal

pub of-requires-clause-one_place : goal.of-requires-clause-one_place
unfolding finish_fault
of-requires-clause-one_place c = rw c.as_slice.ensures.items (patterns_have_one_place (rooted_of (contents_of (building_of c.args.self.now))) c.in_ok-parents.ensures.ok.0.1)
