-- The turns of a walk over the patterns of a pattern, and which turn comes after each.
use Rattle.std.specs.Prelude.{◌∷◌, ◌++◌}
use Rattle.hir_store_core.specs.Prelude.{cond, eqb, List, [], Option, Some, None, flat_map, ExprId, PatId, NodeId, Nodes, calls_of, fold_down}
use Rattle.hir_node.specs.declared.node_id.NodeId.TheVariants as node
use Rattle.hir_store_core.specs.declared.pat_links.PatLink.{PatLink}
use Rattle.hir_store_core.specs.declared.pat_links.PatLink.TheVariants.{Next, Last, Alone}
use Rattle.hir_store_core.specs.declared.pat_turns.Turn.{Turn}
use Rattle.hir_store_core.specs.declared.pat_turns.Turn.TheVariants.{Enter, Leave}
use Rattle.hir_store_core.specs.PatLists.{child_pats_of, own_exprs}
use Rattle.hir_store_core.specs.PatLinks.{link_at}

-- the pattern of a turn
abbrev pub pat_of : Turn → PatId
pat_of (Enter p) = p
pat_of (Leave p) = p

-- a pattern is entered, then come the turns of each of its child patterns, then it is left
abbrev pub turns_step : Nodes → (NodeId → List Turn) → NodeId → List Turn
turns_step s self (node.Pat p) = Enter p ∷ flat_map (λ q. self (node.Pat q)) (child_pats_of s p)
    ++ Leave p ∷ []
turns_step s self (node.Expr e) = []
turns_step s self (node.TypeRef t) = []

-- the turns of a pattern
-- turns s p = Enter p ∷ flat_map (turns s) (child_pats_of s p) ++ Leave p ∷ []: lemma turns_is of TurnLemmas
unfoldable pub turns : Nodes → PatId → List Turn
turns s p = fold_down s (turns_step s) [] (node.Pat p)

-- the pattern, where it is entered
abbrev pub entered_pat : Turn → List PatId
entered_pat (Enter p) = p ∷ []
entered_pat (Leave p) = []

-- the expressions that a pattern itself has, where it is left
abbrev pub exprs_left : Nodes → Turn → List ExprId
exprs_left s (Enter p) = []
exprs_left s (Leave p) = flat_map own_exprs (calls_of s (node.Pat p))

-- the turn after a pattern is entered: its first child is entered, or it is left
abbrev pub turn_within : PatId → List PatId → Turn
turn_within p [] = Leave p
turn_within p (k ∷ more) = Enter k

-- the turn after a pattern that isn't the top is left
abbrev pub turn_by : PatLink → Option Turn
turn_by (Next q) = Some (Enter q)
turn_by (Last m) = Some (Leave m)
turn_by Alone = None

-- the turn after a pattern is left, in the walk over the top
abbrev pub turn_behind : List PatLink → PatId → PatId → Option Turn
turn_behind links top p = cond (eqb p top) None (turn_by (link_at links p))

-- the turn after this one in the walk over the top, by the links
abbrev pub turn_after : Nodes → List PatLink → PatId → Turn → Option Turn
turn_after s links top (Enter p) = Some (turn_within p (child_pats_of s p))
turn_after s links top (Leave p) = turn_behind links top p
