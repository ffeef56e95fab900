use Rattle.std.proofs.Common.{◌≡◌, take}
use Rattle.hir_path.proofs.path.+clone_args.Given as goal

-- the bindings so far are copied
abbrev pub invariant-clone_bindings-loop-binding : goal.invariant-clone_bindings-loop-binding
invariant-clone_bindings-loop-binding l = l.copy ≡ take l.binding-index l.bindings
