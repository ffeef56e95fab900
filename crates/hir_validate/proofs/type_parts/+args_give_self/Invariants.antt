use Rattle.std.proofs.Common.{◌≡◌, true, take}
use Rattle.std.specs.List.{list_all}
use Rattle.hir_validate.specs.internal.TestedParts.{binding_gives_self}
use Rattle.hir_validate.proofs.type_parts.+args_give_self.Given as goal

-- the bindings so far give a self type
abbrev pub invariant-args_give_self-loop-binding : goal.invariant-args_give_self-loop-binding
invariant-args_give_self-loop-binding l = list_all binding_gives_self (take l.binding-index l.binding-items) ≡ true
