-- Tasks that are put one after the other, by a node's calls and beside them; and what they leave on the stack.
use Rattle.std.proofs.Common.{ℕ, List, [], ◌∷◌, ◌++◌, Option}
use Rattle.hir_node.specs.ChildCalls.{Call, e, t, opt}
use Rattle.hir_node.specs.Runs.{Runs, no_call, a_call}
use Rattle.hir_node.proofs.RunLemmas.{may_freely, runs_one, runs_append, runs_through}
use Rattle.hir_collections.specs.Stacks.{StackItems, Defers}
use Rattle.hir_collections.proofs.DeferredLemmas.{defers_none, defers_two}
use Rattle.hir_scope.specs.declared.tasks.{Task.Task, Tasks.Tasks}
use Rattle.hir_scope.specs.internal.Pending.{DefersTask, task_of, tasks_of}

-- By calls

abbrev pub Calls : Tasks → Call → Tasks → Type 0
Calls v c w = Runs DefersTask v.stack (task_of c) w.stack

-- calls put their tasks
pub through : {v w : Tasks} {cs : List Call} → Runs Calls v cs w → Runs DefersTask v.stack (tasks_of cs) w.stack
through r = runs_through DefersTask (λ (v : Tasks). v.stack) task_of (λ v w c s. s) r

-- the tasks of a `let`
pub defer_let : {u v w x : Tasks} {y : StackItems Task} (ty first other : Option ℕ) (bound : Task) →
    Runs Calls u (opt t ty) v → Runs Calls v (opt e first) w → Runs Calls w (opt e other) x →
    DefersTask x.stack bound y →
    Runs DefersTask u.stack (tasks_of (opt t ty ++ opt e first ++ opt e other) ++ bound ∷ []) y
defer_let ty first other bound a b c d = runs_append (through (runs_append (runs_append a b) c)) (runs_one d)

-- On the stack

pub defers_all : {v w : StackItems Task} {ts : List Task} → Runs DefersTask v ts w → Defers v ts w
defers_all {v} no_call = defers_none v
defers_all {v} {w} (a_call {v = u} {c = task} {cs = ts} step rest) = defers_two v u w (task ∷ []) ts step (defers_all rest)

pub ruleset defers = (may_freely, runs_one, runs_append, no_call, through, defer_let, defers_all)
