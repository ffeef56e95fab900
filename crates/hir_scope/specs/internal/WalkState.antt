-- The state of a walk, and its steps. Only contracts within this crate cite it.
use Rattle.std.specs.FinMap as finmap
use Rattle.std.specs.{List.All, List.flat_map, List.sum_by, Ordering.nat_cmp}
use Rattle.std.specs.Prelude.{◌≡◌, ℕ, ◌+◌, ◌<◌, List, [], ◌∷◌, ◌++◌, map, length, ◌⊎◌, Some, ⊤}
use Rattle.hir_path.specs.NodeIds.{ExprId}
use Rattle.hir_node.specs.declared.node_id.NodeId.{NodeId}
use Rattle.hir_validate.specs.{Recursion.fold_down, declared.node_arenas.Nodes.Nodes, Nodes.Has, Nodes.children_of}
use Rattle.hir_scope.specs.Chains.{InContext, within_own}
use Rattle.hir_scope.specs.{ScopingForms.ScopingForm, ScopingForms.form_of, Frames.Frame, Frames.Chain, Paths.chain}
use Rattle.hir_scope.specs.ScopingForms as form
use Rattle.hir_scope.specs.Scopes.{Scope, ScopeId, Scopes, frame_of}
use Rattle.hir_scope.specs.declared.{tasks.CurrentScopes.CurrentScopes, tasks.Task.Task, walk.Walk.Walk}
use Rattle.hir_scope.specs.internal.Pending.{form_tasks, opened_frames, opened_const_frames, future, task_children, task_frames}
use Rattle.hir_scope.specs.internal.ContextsUnder.{in_context}

-- 1. The state

-- the scopes so far, those around what is visited next, and the tasks
pub record WalkState : Type 0 where
  pub scopes : Scopes
  pub current : CurrentScopes
  pub tasks : List Task

abbrev pub walk_state : Walk → List Task → WalkState
walk_state w tasks = record { scopes = w.scopes; current = w.current; tasks = tasks }

-- the state with all tasks of the walk
abbrev pub state : Walk → WalkState
state w = walk_state w w.tasks.stack.items

-- the state of which this task is the next, before those of the walk
abbrev pub with_next : Walk → Task → WalkState
with_next w task = walk_state w (task ∷ w.tasks.stack.items)

-- the chain of each scope
abbrev pub chain_of : List Scope → ScopeId → Chain
chain_of scopes scope = chain scopes (Some scope)

-- the frames around what is visited next, and those around the constants in it
abbrev pub frames_of_scope : WalkState → Chain
frames_of_scope m = chain_of m.scopes.scopes m.current.scope

abbrev pub frames_of_const_scope : WalkState → Chain
frames_of_const_scope m = chain_of m.scopes.scopes m.current.const_scope

-- the expressions that still have to get a scope, each in its context
abbrev pub future_of : Nodes → WalkState → List InContext
future_of s m = future s (chain_of m.scopes.scopes) (frames_of_scope m) (frames_of_const_scope m) m.tasks

-- the nodes of tasks
abbrev pub about : List Task → List NodeId
about tasks = flat_map task_children tasks

-- the scopes that tasks restore exist: a root begins in the first
abbrev pub LeavesWithin : ℕ → List Task → Type 0
LeavesWithin n [] = ⊤
LeavesWithin n (Task.Root root ∷ rest) = (0 < n) × LeavesWithin n rest
LeavesWithin n (Task.Leave outer outer_const ∷ rest) =
    (outer < n) × (outer_const < n) × LeavesWithin n rest
LeavesWithin n (t ∷ rest) = LeavesWithin n rest

abbrev pub AreInRange : Nodes → List NodeId → Type 0
AreInRange s [] = ⊤
AreInRange s (n ∷ ns) = Has s n × AreInRange s ns

-- all scopes and nodes of the state exist
pub record IsReady (s : Nodes) (m : WalkState) : Type 0 where
  pub scope : m.current.scope < length m.scopes.scopes
  pub const_scope : m.current.const_scope < length m.scopes.scopes
  pub leaves : LeavesWithin (length m.scopes.scopes) m.tasks
  pub known : AreInRange s (about m.tasks)

-- 2. What is still to come, as sums

-- the sum of `u` over a node and its descendants
abbrev pub total_step : Nodes → (NodeId → ℕ) → (NodeId → ℕ) → NodeId → ℕ
total_step s u self n = u n + sum_by self (children_of s n)

-- total s u n = u n + sum_by (total s u) (children_of s n): lemma total_at of CountLemmas
unfoldable pub total : Nodes → (NodeId → ℕ) → NodeId → ℕ
total s u n = fold_down s (total_step s u) 0 n

-- the sum of `v` over tasks, and of `u` over their nodes and the descendants of these
abbrev pub tasks_weight : Nodes → (NodeId → ℕ) → (Task → ℕ) → List Task → ℕ
tasks_weight s u v tasks = sum_by v tasks + sum_by (total s u) (about tasks)

-- the tasks of a node, with any scopes to restore
abbrev pub node_tasks : Nodes → NodeId → List Task
node_tasks s n = form_tasks (record { scope = 0; const_scope = 0 }) (form_of s n)

-- the frames that a node opens: as it is entered, and by its tasks
abbrev pub node_frames : Nodes → NodeId → List Frame
node_frames s n =
    (opened_frames s (form_of s n) ++ opened_const_frames (form_of s n))
    ++ flat_map (task_frames s) (node_tasks s n)

-- the sum of `w` over the frames that are still to be opened
abbrev pub weight_left : Nodes → (Frame → ℕ) → List Task → ℕ
weight_left s w tasks = tasks_weight s (λ n. sum_by w (node_frames s n))
    (λ t. sum_by w (task_frames s t)) tasks

-- the sum of `w` over the frames of the scopes, and over those that are still to be opened
abbrev pub weight : Nodes → (Frame → ℕ) → WalkState → ℕ
weight s w m = sum_by w (map frame_of m.scopes.scopes) + weight_left s w m.tasks

-- the count of a frame: as one scope, and by its entries
abbrev pub one : Frame → ℕ
one f = 1

abbrev pub count_entries : Frame → ℕ
count_entries f = length f.entries

-- more frames than there can be scopes, or more entries than there can be
abbrev pub Over : List Frame → Type 0
Over frames = (4294967295 < sum_by one frames) ⊎ (4294967295 < sum_by count_entries frames)

-- the scopes so far and those that are still to come are more than can exist, or have more entries
abbrev pub Exceeds : Nodes → WalkState → Type 0
Exceeds s m = (4294967295 < weight s one m) ⊎ (4294967295 < weight s count_entries m)

-- the turns of the loop that a task takes, beside those of its nodes
abbrev pub task_turns : Task → ℕ
task_turns (Task.Expr id) = 0
task_turns (Task.Constant id) = 2
task_turns (Task.Pat id) = 0
task_turns (Task.TypeRef id) = 0
task_turns (Task.Bound id) = 1
task_turns (Task.Arm pat expr) = 2
task_turns (Task.GuardedArm pat guard expr) = 2
task_turns (Task.MacroDef id) = 1
task_turns (Task.Root root) = 1
task_turns (Task.Leave outer outer_const) = 1

abbrev pub node_turns : Nodes → NodeId → ℕ
node_turns s n = 2 + sum_by task_turns (node_tasks s n)

abbrev pub turns_left : Nodes → List Task → ℕ
turns_left s tasks = tasks_weight s (node_turns s) task_turns tasks

-- 3. The steps

-- a scope that exists, and whose chain is these frames
pub record HasFrames (scopes : List Scope) (scope : ScopeId) (frames : Chain) : Type 0 where
  pub within : scope < length scopes
  pub is : chain_of scopes scope ≡ frames

-- a scope for each of these frames was made, and the current scope, and that around constants, are within
-- those of before by these frames
pub record Opens (old new : WalkState) (made : List Frame) (opened const_frames : Chain) : Type 0 where
  pub more : List Scope
  pub grows : new.scopes.scopes ≡ old.scopes.scopes ++ more
  pub same : new.scopes.scope_by_expr ≡ old.scopes.scope_by_expr
  pub tasks : new.tasks ≡ old.tasks
  pub frames : (w : Frame → ℕ) → sum_by w (map frame_of more) ≡ sum_by w made
  pub scope : HasFrames new.scopes.scopes new.current.scope (opened ++ frames_of_scope old)
  pub const_scope : HasFrames new.scopes.scopes new.current.const_scope
      (const_frames ++ frames_of_const_scope old)

-- scopes were opened over the current scope, and over that of constants
abbrev pub OpensScopes : WalkState → WalkState → Chain → Chain → Type 0
OpensScopes old new opened const_frames = Opens old new (opened ++ const_frames) opened const_frames

-- a step from one state to another, which visits the expressions in these contexts
pub record Step (s : Nodes) (old new : WalkState) (met : List InContext) : Type 0 where
  pub ready : IsReady s new
  pub more : List Scope
  pub grows : new.scopes.scopes ≡ old.scopes.scopes ++ more
  pub same : new.scopes.scope_by_expr ≡ old.scopes.scope_by_expr
  pub in_order : future_of s old ≡ met ++ future_of s new
  pub weights : (w : Frame → ℕ) → weight s w old ≡ weight s w new
  pub shorter : turns_left s new.tasks < turns_left s old.tasks

-- a step that enters an expression, whose scope is this one
pub record EntersExpr (s : Nodes) (old : Walk) (expr : ExprId) (new : Walk) (scope : ScopeId) : Type 0 where
  pub moves : Step s (with_next old (Task.Expr expr)) (state new)
      (in_context (NodeId.Expr expr) (frames_of_scope (state old)) (frames_of_const_scope (state old)) ∷ [])
  pub frames : HasFrames new.scopes.scopes scope
      (within_own (form_of s (NodeId.Expr expr)) (frames_of_scope (state old)))

-- an expression that got its scope, with the frames around it
pub record ScopeAssigned : Type 0 where
  pub expr : ExprId
  pub scope : Chain
  pub const_scope : Chain
  pub assigned : ScopeId

abbrev pub context_assigned : ScopeAssigned → InContext
context_assigned g = in_context (NodeId.Expr g.expr) g.scope g.const_scope

abbrev pub write_all : finmap.FinMap nat_cmp ScopeId → List ScopeAssigned → finmap.FinMap nat_cmp ScopeId
write_all by_expr [] = by_expr
write_all by_expr (g ∷ gs) = write_all (finmap.insert by_expr g.expr g.assigned) gs

-- the scope is that of the expression's chain
abbrev pub IsRight : Nodes → List Scope → ScopeAssigned → Type 0
IsRight s scopes g = HasFrames scopes g.assigned (within_own (form_of s (NodeId.Expr g.expr)) g.scope)

-- the scope of an expression: of a block the one inside it, of any other the one around it
abbrev pub scope_within : ScopingForm → ScopeId → ScopeId → ScopeId
scope_within (form.Block id label statements tail) inside outside = inside
scope_within x inside outside = outside

-- what holds between two states, with all that was done between them
pub record WalkSteps (s : Nodes) (old new : WalkState) (before after : ℕ) : Type 0 where
  pub ready : IsReady s new
  pub given : List ScopeAssigned
  pub written : new.scopes.scope_by_expr ≡ write_all old.scopes.scope_by_expr given
  pub in_order : future_of s old ≡ map context_assigned given ++ future_of s new
  pub right : All (IsRight s new.scopes.scopes) given
  -- each expression that got its scope took one step
  pub ticks : after ≡ before + length given
  pub weights : (w : Frame → ℕ) → weight s w old ≡ weight s w new
  -- the scopes of before are kept
  pub more : List Scope
  pub grows : new.scopes.scopes ≡ old.scopes.scopes ++ more

-- what holds between the states before and after one task
pub record CountedStep (s : Nodes) (old new : WalkState) (before after : ℕ) : Type 0 where
  pub gone : WalkSteps s old new before after
  pub shorter : turns_left s new.tasks < turns_left s old.tasks
