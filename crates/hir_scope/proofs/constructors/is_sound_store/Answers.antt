use Rattle.hir_scope.proofs.BeginLemmas.{roots_in_range}
use Rattle.hir_scope.proofs.constructors.is_sound_store.Goals as goal

pub returns : goal.returns
returns c =
    let store = c.args.store.now in
    let sound = c.has_no_fault.ensures in
    record {
      nodes = record {
        fall = c.rank_decreases.ensures store sound;
        under = c.nodes_under_unfold.ensures store sound;
        bindings = c.bindings_in_unfold.ensures store sound;
        pats = c.nodes_are_sound.ensures.pats store sound;
      };
      in_range = roots_in_range store (c.roots_stand_apart.ensures store sound);
    }
