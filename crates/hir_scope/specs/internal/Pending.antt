-- The work that a walk has still to do: the tasks of each scoping form, and the expressions that tasks will
-- visit, each in its context.
use Rattle.std.specs.Prelude.{◌∷◌, ◌++◌}
use Rattle.hir_scope.specs.Prelude.{flat_map, List, [], map, Option, Some, None, ExprId, PatId, Call, OnExpr, OnAnonConst, OnPat, OnType, OnLifetime, e, t, opt, children, Item, MatchArm, Statement, NodeId, Nodes, StackItems, Defers}
use Rattle.hir_scope.specs.Scopes.{ScopeId}
use Rattle.hir_scope.specs.Chains.{InContext, child_in_context}
use Rattle.hir_scope.specs.ScopingForms.{ScopingForm}
use Rattle.hir_scope.specs.ScopingForms as form
use Rattle.hir_scope.specs.Frames.{Frame, Chain, frame, of_kind, empty}
use Rattle.hir_scope.specs.OpenFrames.{open_frames}
use Rattle.hir_scope.specs.Order.{met_in_arm, met_in_closure}
use Rattle.hir_scope.specs.ChildContexts.{own_frame, block_const_frames, arm_child_contexts, loop_kind}
use Rattle.hir_scope.specs.declared.scope.ScopeKind.{ScopeKind}
use Rattle.hir_scope.specs.declared.tasks.CurrentScopes.{CurrentScopes}
use Rattle.hir_scope.specs.declared.tasks.Task.{Task}
use Rattle.hir_scope.specs.internal.ContextsUnder.{exprs_at, exprs_under}

-- a task is put onto others
abbrev pub DefersTask : StackItems Task → Task → StackItems Task → Type 0
DefersTask v task w = Defers v (task ∷ []) w

-- the task of a call: a lifetime has none
abbrev pub task_of : Call → List Task
task_of (OnExpr id) = Task.Expr id ∷ []
task_of (OnAnonConst id) = Task.Constant id ∷ []
task_of (OnPat id) = Task.Pat id ∷ []
task_of (OnType id) = Task.TypeRef id ∷ []
task_of (OnLifetime id) = []

abbrev pub tasks_of : List Call → List Task
tasks_of calls = flat_map task_of calls

abbrev pub item_tasks : Item → List Task
item_tasks (Item.MacroDef id) = Task.MacroDef id ∷ []
item_tasks Item.Other = []

abbrev pub statement_tasks : Statement → List Task
statement_tasks (Statement.Let pat type_ref initializer else_branch) =
    tasks_of (opt t type_ref ++ opt e initializer ++ opt e else_branch) ++ Task.Bound pat ∷ []
statement_tasks (Statement.Expr expr has_semi) = tasks_of (e expr)
statement_tasks (Statement.Item item) = item_tasks item

-- the task of an arm
abbrev pub guarded_task : PatId → ExprId → Option ExprId → Task
guarded_task pat expr None = Task.Arm pat expr
guarded_task pat expr (Some guard) = Task.GuardedArm pat guard expr

abbrev pub arm_task : MatchArm → Task
arm_task arm = guarded_task arm.pat arm.expr arm.guard

abbrev pub one_arm : MatchArm → List Task
one_arm arm = arm_task arm ∷ []

abbrev pub arm_with : PatId → ExprId → Option ExprId → MatchArm
arm_with pat expr guard = record { pat = pat; guard = guard; expr = expr }

-- one scope around what is visited next, and around the constants in it
abbrev pub both : ScopeId → CurrentScopes
both scope = record { scope = scope; const_scope = scope }

abbrev pub leave : CurrentScopes → Task
leave current = Task.Leave current.scope current.const_scope

-- the tasks of what is inside a node; leaving it restores `current`
abbrev pub form_tasks : CurrentScopes → ScopingForm → List Task
form_tasks current (form.If condition then_branch else_branch) =
    tasks_of (e condition ++ e then_branch) ++ (leave current ∷ tasks_of (opt e else_branch))
form_tasks current (form.Let pat expr) = Task.Expr expr ∷ Task.Bound pat ∷ []
form_tasks current (form.Block id label statements tail) =
    flat_map statement_tasks statements ++ (tasks_of (opt e tail) ++ leave current ∷ [])
form_tasks current (form.Loop label body) = Task.Expr body ∷ leave current ∷ []
form_tasks current (form.Closure arg_types ret_type args body) =
    tasks_of (met_in_closure arg_types ret_type args body) ++ leave current ∷ []
form_tasks current (form.Match scrutinee arms) = Task.Expr scrutinee ∷ flat_map one_arm arms
form_tasks current (form.Assignment target value) = Task.Pat target ∷ leave current ∷ Task.Expr value ∷ []
form_tasks current (form.PatternType type pat) = Task.TypeRef type ∷ Task.Bound pat ∷ leave current ∷ []
form_tasks current (form.InTurn calls) = tasks_of calls

-- the frames that are opened as a node is entered, around what is inside it
abbrev pub opened_frames : Nodes → ScopingForm → Chain
opened_frames s (form.If condition then_branch else_branch) = empty ∷ []
opened_frames s (form.Block id label statements tail) = own_frame id label ∷ []
opened_frames s (form.Loop label body) = of_kind (loop_kind label) ∷ []
opened_frames s (form.Closure arg_types ret_type args body) = frame s args ∷ []
opened_frames s (form.Assignment target value) = frame s (target ∷ []) ∷ []
opened_frames s x = []

-- the frames that are opened as a node is entered, around the constants in it
abbrev pub opened_const_frames : ScopingForm → Chain
opened_const_frames (form.Block id label statements tail) = block_const_frames id
opened_const_frames x = []

-- the contexts of what is in an arm
abbrev pub contexts_of_arm : Nodes → Chain → Chain → MatchArm → List InContext
contexts_of_arm s scope const_scope arm = map (child_in_context scope const_scope)
    (arm_child_contexts s [] arm)

-- the expressions that tasks will visit, each in its context: `scope` and `const_scope` are the chains now,
-- and `chain` is that of each scope
unfoldable pub future : Nodes → (ScopeId → Chain) → Chain → Chain → List Task → List InContext
future s chain scope const_scope [] = []
future s chain scope const_scope (Task.Expr id ∷ rest) =
    exprs_at s (NodeId.Expr id) scope const_scope
    ++ future s chain (open_frames s (NodeId.Expr id) ++ scope) const_scope rest
future s chain scope const_scope (Task.Constant id ∷ rest) =
    exprs_at s (NodeId.Expr id) const_scope const_scope ++ future s chain scope const_scope rest
future s chain scope const_scope (Task.Pat id ∷ rest) =
    exprs_at s (NodeId.Pat id) scope const_scope
    ++ future s chain (open_frames s (NodeId.Pat id) ++ scope) const_scope rest
future s chain scope const_scope (Task.TypeRef id ∷ rest) =
    exprs_at s (NodeId.TypeRef id) const_scope const_scope ++ future s chain scope const_scope rest
future s chain scope const_scope (Task.Bound id ∷ rest) =
    exprs_at s (NodeId.Pat id) (frame s (id ∷ []) ∷ scope) const_scope
    ++ future s chain (open_frames s (NodeId.Pat id) ++ (frame s (id ∷ []) ∷ scope)) const_scope rest
future s chain scope const_scope (Task.Arm pat expr ∷ rest) =
    exprs_under s (contexts_of_arm s scope const_scope (arm_with pat expr None))
    ++ future s chain scope const_scope rest
future s chain scope const_scope (Task.GuardedArm pat guard expr ∷ rest) =
    exprs_under s (contexts_of_arm s scope const_scope (arm_with pat expr (Some guard)))
    ++ future s chain scope const_scope rest
future s chain scope const_scope (Task.MacroDef id ∷ rest) =
    future s chain (of_kind (ScopeKind.MacroDef id) ∷ scope)
    (of_kind (ScopeKind.MacroDef id) ∷ const_scope) rest
future s chain scope const_scope (Task.Root id ∷ rest) =
    let outer = empty ∷ chain 0 in
    exprs_at s (NodeId.Expr id) outer outer
    ++ future s chain (open_frames s (NodeId.Expr id) ++ outer) outer rest
future s chain scope const_scope (Task.Leave outer outer_const ∷ rest) =
    future s chain (chain outer) (chain outer_const) rest

-- the nodes of a task
abbrev pub task_children : Task → List NodeId
task_children (Task.Expr id) = NodeId.Expr id ∷ []
task_children (Task.Constant id) = NodeId.Expr id ∷ []
task_children (Task.Pat id) = NodeId.Pat id ∷ []
task_children (Task.TypeRef id) = NodeId.TypeRef id ∷ []
task_children (Task.Bound id) = NodeId.Pat id ∷ []
task_children (Task.Arm pat expr) = children (met_in_arm (arm_with pat expr None))
task_children (Task.GuardedArm pat guard expr) = children (met_in_arm (arm_with pat expr (Some guard)))
task_children (Task.MacroDef id) = []
task_children (Task.Root id) = NodeId.Expr id ∷ []
task_children (Task.Leave outer outer_const) = []

-- the frames that a task opens itself
abbrev pub task_frames : Nodes → Task → List Frame
task_frames s (Task.Bound id) = frame s (id ∷ []) ∷ []
task_frames s (Task.Arm pat expr) = frame s (pat ∷ []) ∷ []
task_frames s (Task.GuardedArm pat guard expr) = frame s (pat ∷ []) ∷ []
task_frames s (Task.MacroDef id) = of_kind (ScopeKind.MacroDef id) ∷ of_kind (ScopeKind.MacroDef id) ∷ []
task_frames s (Task.Root id) = empty ∷ []
task_frames s t = []
