use Rattle.std.proofs.Common.{◌≡◌, take}
use Rattle.std.specs.List.{flat_map}
use Rattle.hir_scope.specs.Frames.{binds}
use Rattle.hir_scope.proofs.walk.Walk.open.Given as goal

abbrev pub invariant-loop-pat : goal.invariant-loop-pat
invariant-loop-pat l = l.entries.items ≡ flat_map (binds l.store.nodes) (take l.pat-index l.pats)
