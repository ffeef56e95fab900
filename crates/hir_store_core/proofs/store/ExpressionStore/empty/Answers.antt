use Rattle.hir_validate.proofs.SoundLemmas.{empty_sound}
use Rattle.hir_store_core.proofs.KeptLemmas.{no_parents, no_links}
use Rattle.hir_store_core.proofs.store.ExpressionStore.empty.Goals as goal

pub invariant_of-result : goal.invariant_of-result
invariant_of-result c = record {
  sound = rw (c.new.ensures, c.new-2.ensures) empty_sound;
  parents = rw (c.new.ensures, c.new-4.ensures) no_parents;
  links = rw (c.new.ensures, c.new-4.ensures) no_links;
}
