-- What a run of child calls leaves to be visited, and what visiting a node finds.
use Rattle.std.proofs.Common.{◌≡◌, ℕ, List, ◌∷◌, refl, ap, ◌∙◌, Option, [], ◌++◌, Some, None, sym, arith, rules}
use Rattle.std.proofs.Common.{append_assoc}
use Rattle.std.proofs.lemmas.List.{append-nil}
use Rattle.std.proofs.lemmas.List.{Concat.flat_map-append, Elements.filter-append}
use Rattle.std.specs.List.{slice_get}
use Rattle.hir_node.specs.{ChildCalls.Call, ChildCalls.pat_calls, Runs.Runs, Runs.no_call, Runs.a_call}
use Rattle.hir_node.specs.declared.{expr.Expr.Expr, node_id.NodeId.NodeId, pat.Pat.Pat, type_ref.TypeRef.TypeRef}
use Rattle.hir_validate.specs.{Recursion.RankDecreases, declared.node_arenas.Nodes.Nodes}
use Rattle.hir_store_core.specs.Contents.{Contents}
use Rattle.hir_collections.specs.Stacks.{Defers}
use Rattle.hir_collections.proofs.DeferredLemmas.{defers_none, defers_two}
use Rattle.hir_scope.specs.ScopingForms.{form_of, form_at, expr_form, pat_form, type_form}
use Rattle.hir_scope.specs.{Order.met_in_form, Scopes.Scopes}
use Rattle.hir_scope.specs.PathResolution.{local_name, resolve_path, binding_at, target_binding_at}
use Rattle.hir_store_core.specs.SideTables.{hygiene_of}
use Rattle.hir_captures.specs.Uses.{Spot, spot, if_assignment, assignment_at}
use Rattle.hir_path.specs.declared.path.Path.{Path}
use Rattle.hir_path.specs.declared.ids.ExprOrPatId.{ExprOrPatId}
use Rattle.hir_path.specs.declared.ids.ExprOrPatId.TheVariants.{ExprId, PatId}
use Rattle.hir_node.specs.OtherIds.{pat_bindings}
use Rattle.hir_usages.specs.Usages.{usage_with, usages_of_expr, usages_of_pat, usages_in, bound_at, bound_in}
use Rattle.hir_usages.specs.declared.{to_visit.Task.Task, to_visit.ToVisit.ToVisit, usage.Usage.Usage, walk.Walk.Walk}
use Rattle.hir_usages.specs.internal.Pending.{task_of, tasks_of, pat_task, task_node, task_target, visits_of, AreInRange}
use Rattle.hir_usages.specs.Renames.{name_of_expr}
use Rattle.hir_usages.specs.internal.Wanted.{wanted_among, wanted_at, if_wanted}
use Rattle.hir_usages.specs.internal.Reading.{FoundLists, with_visit, with_visits, Reads}
use Rattle.hir_usages.proofs.VisitLemmas.{visits_left, children_in_range}
use Rattle.std.proofs.lemmas.Grind.{common_steps}

-- 1. What a run of child calls leaves to be visited.

abbrev pub DefersCalls : ToVisit → List Call → ToVisit → Type 0
DefersCalls v cs w = (w.assignment ≡ v.assignment) × Defers v.stack (tasks_of v.assignment cs) w.stack

abbrev pub DefersCall : ToVisit → Call → ToVisit → Type 0
DefersCall v c w = (w.assignment ≡ v.assignment) × Defers v.stack (task_of v.assignment c) w.stack

pub defers_all : {v w : ToVisit} {cs : List Call} → Runs DefersCall v cs w → DefersCalls v cs w
defers_all {v} no_call = (refl, defers_none v.stack)
defers_all {v} {w} (a_call {v = u} {c = c} {cs = cs} step rest) = grind (arith, common_steps, defers_two, defers_all rest)

-- 2. Visiting a node leaves what is to be found as it was.

-- the use that a path is, which asks for this name at an expression
abbrev usage_of : Walk → ExprOrPatId → ℕ → List ℕ → Usage
usage_of w path at name =
    let c = w.store.now in
    let hygiene = hygiene_of c.side_tables path in
    record { path = path; expr = at; binding = resolve_path c w.scopes.now at hygiene (Some name) }

abbrev listed : List Usage → List ℕ → FoundLists
listed usages bound = record { usages = usages; bound = bound }

module _ (w : Walk) where
  abbrev c : Contents
  c = w.store.now

  -- those that are searched for of some uses
  abbrev wanted : List Usage → List Usage
  wanted us = wanted_among w.wanted c.nodes us

  -- what visits add is what their uses and bindings are
  pub added : (found : FoundLists) (spots : List Spot) → (with_visits w found spots).usages
      ≡ found.usages ++ wanted_among w.wanted c.nodes (usages_in c w.scopes.now spots)
  added found [] = sym (append-nil found.usages)
  added found (x ∷ xs) = search (rules, append_assoc, filter-append, added (with_visit w found x) xs)

  pub added_bound : (found : FoundLists) (spots : List Spot) → (with_visits w found spots).bound ≡ found.bound ++ bound_in c.nodes spots
  added_bound found [] = sym (append-nil found.bound)
  added_bound found (x ∷ xs) = search (rules, append_assoc, added_bound (with_visit w found x) xs)

  module _ (fall : RankDecreases c.nodes) (t : Task) (rest new : List Task) (before after : FoundLists) where
    abbrev deferred : List Task
    deferred = tasks_of (assignment_at c.nodes (task_node t) (task_target t)) (met_in_form (form_of c.nodes (task_node t))) ++ rest

    visits_now : visits_of c.nodes (t ∷ rest) ≡ spot (task_node t) (task_target t) ∷ visits_of c.nodes deferred
    visits_now = search (rules, visits_left, flat_map-append)

    -- one node is visited
    visit_one : AreInRange c.nodes (t ∷ rest) → after.usages
        ≡ before.usages ++ wanted_at w (task_node t) (task_target t) → after.bound
        ≡ before.bound ++ bound_at c.nodes (task_node t) →
        new ≡ deferred → Reads w before (t ∷ rest) after new
    visit_one in_range usages bound is =
        grind (
          arith,
          common_steps,
          children_in_range c.nodes fall (task_node t) (assignment_at c.nodes (task_node t) (task_target t)) rest in_range.0 in_range.1,
          visits_now,
        )

  -- an expression that asks for a name: nothing is inside it
  named_alone : (id : ℕ) (path : Path) (name : List ℕ) (rest : List Task) → local_name path ≡ Some name → rest
      ≡ tasks_of (if_assignment id (Some (Expr.Path path))) (met_in_form (expr_form (Expr.Path path))) ++ rest
  named_alone id (Path.BarePath path) name rest e = refl
  named_alone id (Path.Normal path) name rest e = absurd cc
  named_alone id (Path.LangItem target segment) name rest e = absurd cc

  wanted_here : (id : ℕ) (path : Path) (name : List ℕ) → slice_get c.nodes.exprs id ≡ Some (Expr.Path path) →
      local_name path ≡ Some name → if_wanted w.wanted (usage_of w (ExprId id) id name) name
      ≡ wanted_at w (NodeId.Expr id) None
  wanted_here id path name is asks = search rules

  pub visit_named : RankDecreases c.nodes →
      (id : ℕ) (x : Expr) (name : List ℕ) (rest : List Task) (before after : FoundLists) → slice_get c.nodes.exprs id
      ≡ Some x → name_of_expr (Some x) ≡ Some name →
      AreInRange c.nodes (Task.Expr id ∷ rest) → after.usages ≡ before.usages ++ if_wanted w.wanted
      (usage_of w (ExprId id) id name) name → after.bound ≡ before.bound → Reads w before (Task.Expr id ∷ rest) after rest
  visit_named fall id (Expr.Path path) name rest before after is asks in_range usages bound =
      visit_one fall (Task.Expr id) rest rest before after in_range
      (usages ∙ ap (λ (us : List Usage). before.usages ++ us) (wanted_here id path name is asks))
      (bound ∙ sym (append-nil before.bound))
      (named_alone id path name rest asks
      ∙ ap (λ (o : Option Expr). tasks_of (if_assignment id o) (met_in_form (form_at expr_form o)) ++ rest) (sym is))
  visit_named fall id _ name rest before after is asks in_range usages bound = absurd cc

  -- any other expression is no use
  no_use : (id : ℕ) (x : Expr) → name_of_expr (Some x) ≡ None → usages_of_expr c w.scopes.now id (Some x) ≡ []
  no_use id (Expr.Path path) none = ap (usage_with (ExprId id) id (binding_at c w.scopes.now id)) none
  no_use id _ none = refl

  pub visit_unnamed : RankDecreases c.nodes → (id : ℕ) (x : Expr) (rest new : List Task) (before : FoundLists) →
      slice_get c.nodes.exprs id ≡ Some x → name_of_expr (Some x) ≡ None →
      AreInRange c.nodes (Task.Expr id ∷ rest) → new ≡ tasks_of (if_assignment id (Some x))
      (met_in_form (expr_form x)) ++ rest → Reads w before (Task.Expr id ∷ rest) before new
  visit_unnamed fall id x rest new before is none in_range deferred =
      let nothing : usages_of_expr c w.scopes.now id (slice_get c.nodes.exprs id) ≡ [] =
      ap (usages_of_expr c w.scopes.now id) is ∙ no_use id x none in
      visit_one fall (Task.Expr id) rest new before before in_range
      (sym (append-nil before.usages) ∙ ap (λ (us : List Usage). before.usages ++ wanted us) (sym nothing))
      (sym (append-nil before.bound))
      (deferred ∙ ap (λ (o : Option Expr). tasks_of (if_assignment id o) (met_in_form (form_at expr_form o)) ++ rest) (sym is))

  pub visit_pat : RankDecreases c.nodes →
      (id : ℕ) (x : Pat) (a : Option ℕ) (rest new : List Task) (before after : FoundLists) → slice_get c.nodes.pats id
      ≡ Some x → AreInRange c.nodes (pat_task a id ∷ rest) →
      after.usages ≡ before.usages ++ wanted_at w (NodeId.Pat id) a → after.bound ≡ before.bound ++ bound_at c.nodes (NodeId.Pat id) →
      new ≡ tasks_of a (pat_calls x) ++ rest → Reads w before (pat_task a id ∷ rest) after new
  visit_pat fall id x None rest new before after is in_range usages bound deferred =
      visit_one fall (Task.Pat id) rest new before after in_range usages bound
      (deferred ∙ ap (λ (o : Option Pat). tasks_of None (met_in_form (form_at pat_form o)) ++ rest) (sym is))
  visit_pat fall id x (Some a) rest new before after is in_range usages bound deferred =
      visit_one fall (Task.Target id a) rest new before after in_range usages bound
      (deferred ∙ ap (λ (o : Option Pat). tasks_of (Some a) (met_in_form (form_at pat_form o)) ++ rest) (sym is))

  pub visit_type : RankDecreases c.nodes → (id : ℕ) (x : TypeRef) (rest new : List Task) (before : FoundLists) →
      slice_get c.nodes.types id ≡ Some x → AreInRange c.nodes (Task.Type id ∷ rest) →
      new ≡ tasks_of None (met_in_form (type_form x)) ++ rest → Reads w before (Task.Type id ∷ rest) before new
  visit_type fall id x rest new before is in_range deferred =
      visit_one fall (Task.Type id) rest new before before in_range (sym (append-nil before.usages)) (sym (append-nil before.bound))
      (deferred ∙ ap (λ (o : Option TypeRef). tasks_of None (met_in_form (form_at type_form o)) ++ rest) (sym is))

-- 3. What one node adds.

pattern_uses : (c : Contents) (scopes : Scopes) (id a : ℕ) (path : Path) (o : Option (List ℕ)) →
    slice_get c.nodes.pats id ≡ Some (Pat.Path path) → local_name path ≡ o →
    usages_of_pat c scopes id (Some a) (slice_get c.nodes.pats id) ≡ usage_with (PatId id) a (target_binding_at c scopes a id) o
pattern_uses c scopes id a path o is asks = search rules

no_path_pat : (c : Contents) (scopes : Scopes) (id : ℕ) (a : Option ℕ) (x : Pat) →
    ((path : Path) → x ≡ Pat.Path path → ⊥) → usages_of_pat c scopes id a (Some x) ≡ []
no_path_pat c scopes id None x h = refl
no_path_pat c scopes id (Some a) (Pat.Path path) h = absurd (h path refl)
no_path_pat c scopes id (Some a) _ h = refl

module _ (w : Walk) (id : ℕ) (us : List Usage) where
  abbrev d : Contents
  d = w.store.now

  -- a path in a target that asks for a name, or for none
  pub adds_target : (a : ℕ) (path : Path) (name : List ℕ) → slice_get d.nodes.pats id ≡ Some (Pat.Path path) → local_name path ≡ Some name →
      us ++ if_wanted w.wanted (usage_of w (PatId id) a name) name ≡ us ++ wanted_at w (NodeId.Pat id) (Some a)
  adds_target a path name is asks = search (rules, pattern_uses)

  pub adds_no_name : (a : ℕ) (path : Path) → slice_get d.nodes.pats id ≡ Some (Pat.Path path) → local_name path
      ≡ None → us ++ wanted_at w (NodeId.Pat id) (Some a) ≡ us
  adds_no_name a path is asks = search (rules, pattern_uses, append-nil)

  pub adds_no_pat : (a : Option ℕ) (x : Pat) → slice_get d.nodes.pats id ≡ Some x →
      ((path : Path) → x ≡ Pat.Path path → ⊥) → us ++ wanted_at w (NodeId.Pat id) a ≡ us
  adds_no_pat a x is h = search (rules, no_path_pat, append-nil)

  pub adds_in_no_target : us ++ wanted_at w (NodeId.Pat id) None ≡ us
  adds_in_no_target = append-nil us

no_bind : (x : Pat) → ((id : ℕ) (subpat : Option ℕ) → x ≡ Pat.Bind id subpat → ⊥) → pat_bindings x ≡ []
no_bind (Pat.Bind id subpat) h = absurd (h id subpat refl)
no_bind _ h = refl

pub binds_nothing : (s : Nodes) (id : ℕ) (x : Pat) (bs : List ℕ) → slice_get s.pats id ≡ Some x →
    ((b : ℕ) (subpat : Option ℕ) → x ≡ Pat.Bind b subpat → ⊥) → bs ++ bound_at s (NodeId.Pat id) ≡ bs
binds_nothing s id x bs is h = search (rules, no_bind, append-nil)

pub ruleset reads = (adds_target, adds_no_name, adds_no_pat, adds_in_no_target, binds_nothing)
