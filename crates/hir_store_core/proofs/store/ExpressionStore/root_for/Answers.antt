use Rattle.hir_validate.proofs.SoundLemmas.{roots_apart}
use Rattle.hir_store_core.specs.Contents.{rooted_of}
use Rattle.hir_store_core.proofs.RootLemmas.{ends_rise}
use Rattle.hir_store_core.proofs.store.ExpressionStore.root_for.Goals as goal

pub first_root-requires : goal.first_root-requires
first_root-requires c = rw c.roots.ensures (ends_rise c.args.kind (rooted_of c.args.self.now) (roots_apart (rooted_of c.args.self.now) c.has_no_fault.ensures))
