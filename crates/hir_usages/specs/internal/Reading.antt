-- How the walk over a body goes on. Only contracts within this crate cite it.
use Rattle.std.specs.Prelude.{◌≡◌, ◌<◌, List, ◌++◌, fold, length}
use Rattle.hir_path.specs.NodeIds.{BindingId}
use Rattle.hir_captures.specs.Uses.{Spot}
use Rattle.hir_usages.specs.Usages.{bound_at}
use Rattle.hir_usages.specs.declared.{walk.Found.Found, walk.Walk.Walk, to_visit.Task.Task, usage.Usage.Usage}
use Rattle.hir_usages.specs.internal.{Pending.AreInRange, Pending.visits_of, Wanted.wanted_at}

-- what was found, as lists
pub record FoundLists : Type 0 where
  pub usages : List Usage
  pub bound : List BindingId

abbrev pub lists_of : Found → FoundLists
lists_of found = record { usages = found.usages.items; bound = found.bound.items }

-- a visit adds the use that the node is, where it is searched for, and what it binds
abbrev pub with_visit : Walk → FoundLists → Spot → FoundLists
with_visit w found at = record {
  usages = found.usages ++ wanted_at w at.node at.assignment;
  bound = found.bound ++ bound_at w.store.now.nodes at.node;
}

abbrev pub with_visits : Walk → FoundLists → List Spot → FoundLists
with_visits w found spots = fold (with_visit w) found spots

-- and what is still to be visited adds this
abbrev pub with_tasks : Walk → FoundLists → List Task → FoundLists
with_tasks w found tasks = with_visits w found (visits_of w.store.now.nodes tasks)

-- one task was done: all that is to be found stays the same
pub record Reads (w : Walk) (before : FoundLists) (old : List Task) (after : FoundLists) (new : List Task)
    : Type 0 where
  pub in_range : AreInRange w.store.now.nodes new
  pub finds : with_tasks w before old ≡ with_tasks w after new
  pub shorter : length (visits_of w.store.now.nodes new) < length (visits_of w.store.now.nodes old)
