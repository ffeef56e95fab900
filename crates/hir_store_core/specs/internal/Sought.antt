-- A search around an expression: how it goes up, and at which expressions it ends, which are what it looks
-- for and closures.
use Rattle.hir_store_core.specs.Prelude.{Bool, Option, Some, None, NodeId, Nodes}
use Rattle.std.specs.Prelude.{◌||◌, if◌then◌else◌}
use Rattle.hir_store_core.specs.Ancestors.{parent}
use Rattle.hir_store_core.specs.declared.jump_roles.JumpRole.{JumpRole}
use Rattle.hir_store_core.specs.declared.jump_targets.Sought.{Sought}
use Rattle.hir_store_core.specs.declared.jump_targets.Sought.TheVariants as sought
use Rattle.hir_store_core.specs.JumpTargets.{is_const_of, is_closure, is_loop, has_label}

-- this is what is looked for
abbrev pub passes_alone : Sought → JumpRole → Bool
passes_alone sought.Closure = is_closure
passes_alone sought.Loop = is_loop
passes_alone (sought.Label label) = has_label label

-- the search ends here
abbrev pub passes : Sought → JumpRole → Bool
passes looked_for role = passes_alone looked_for role || is_closure role

abbrev pub unless_const : Nodes → NodeId → Option NodeId → Option NodeId
unless_const s n None = None
unless_const s n (Some p) = if is_const_of s p n then None else Some p

-- the parent of a node, where the node is no anonymous constant of it, and no type
abbrev pub parent_in_code : Nodes → NodeId → Option NodeId
parent_in_code s n = unless_const s n (parent s n)
