use Rattle.hir_store.specs.Building.{finish_fault}
use Rattle.hir_store.proofs.builder.ExpressionStoreBuilder.into_store.Goals as goal

pub new-store-requires : goal.new-store-requires
unfolding finish_fault
new-store-requires c = record { sound = rw c.roots_or_none.ensures (c.requires.sound.1); parents = c.requires.parents; links = c.requires.links }
