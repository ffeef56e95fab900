-- What is still to be visited: the tasks of child calls.
use Rattle.std.specs.Prelude.{◌∷◌}
use Rattle.hir_usages.specs.Prelude.{flat_map, AllByRecursion, List, [], Option, Some, None, ExprId, PatId, Call, OnExpr, OnAnonConst, OnPat, OnType, OnLifetime, NodeId, Nodes, Has, Spot}
use Rattle.hir_usages.specs.Visits.{visits_under}
use Rattle.hir_usages.specs.declared.to_visit.Task.{Task}

-- the task of a pattern, in the target of an assignment or in none
abbrev pub pat_task : Option ExprId → PatId → Task
pat_task None id = Task.Pat id
pat_task (Some assignment) id = Task.Target id assignment

-- the task of a call, where it has one
abbrev pub task_of : Option ExprId → Call → List Task
task_of assignment (OnExpr id) = Task.Expr id ∷ []
task_of assignment (OnAnonConst id) = Task.Expr id ∷ []
task_of assignment (OnPat id) = pat_task assignment id ∷ []
task_of assignment (OnType id) = Task.Type id ∷ []
task_of assignment (OnLifetime id) = []

abbrev pub tasks_of : Option ExprId → List Call → List Task
tasks_of assignment calls = flat_map (task_of assignment) calls

-- the node and the assignment of a task
abbrev pub task_node : Task → NodeId
task_node (Task.Expr id) = NodeId.Expr id
task_node (Task.Pat id) = NodeId.Pat id
task_node (Task.Target id assignment) = NodeId.Pat id
task_node (Task.Type id) = NodeId.TypeRef id

abbrev pub task_target : Task → Option ExprId
task_target (Task.Expr id) = None
task_target (Task.Pat id) = None
task_target (Task.Target id assignment) = Some assignment
task_target (Task.Type id) = None

-- the visits that are still to come
abbrev pub visits_of : Nodes → List Task → List Spot
visits_of s tasks = flat_map (λ t. visits_under s (task_node t) (task_target t)) tasks

-- all that tasks name is in range
abbrev pub AreInRange : Nodes → List Task → Type 0
AreInRange s tasks = AllByRecursion (λ t. Has s (task_node t)) tasks
