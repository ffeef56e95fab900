use Rattle.std.proofs.Common.{◌≡◌, take}
use Rattle.hir_make.specs.Parts.{params_of}
use Rattle.hir_make.proofs.bodies.params.Given as goal

abbrev pub invariant-loop-pat : goal.invariant-loop-pat
invariant-loop-pat l = l.params ≡ params_of (take l.pat-index l.pats)
