-- What a run of child calls leaves to be read, and what reading a node finds.
use Rattle.std.proofs.Common.{◌≡◌, ℕ, List, ◌∷◌, refl, ap, ◌∙◌, Option, [], ◌++◌, Some, None, fold, length, sym, arith, rules}
use Rattle.std.proofs.lemmas.List.{append-nil}
use Rattle.std.proofs.lemmas.List.{Concat.flat_map-append, Elements.filter_map-append, Sums.fold-append}
use Rattle.std.specs.FinMap as map
use Rattle.std.specs.List.{filter_map, slice_get}
use Rattle.std.specs.Prelude.{IsSome, ◌↔◌}
use Rattle.hir_node.specs.{ChildCalls.Call, ChildCalls.pat_calls, Runs.Runs, Runs.no_call, Runs.a_call}
use Rattle.hir_node.specs.declared.{expr.Expr.Expr, node_id.NodeId.NodeId, pat.Pat.Pat}
use Rattle.hir_validate.specs.{Recursion.RankDecreases}
use Rattle.hir_store_core.specs.Contents.{Contents}
use Rattle.hir_body.specs.Bodies.{BodyContents, BodyReaches}
use Rattle.hir_collections.specs.Stacks.{Defers}
use Rattle.hir_collections.proofs.DeferredLemmas.{defers_none, defers_two}
use Rattle.hir_scope.specs.{BodyScopes.ChainsAreFrames, BodyScopes.entry_nodes_of_body}
use Rattle.hir_scope.specs.ScopingForms.{form_of, form_at, expr_form, pat_form}
use Rattle.hir_scope.specs.{Order.met_in_form, Paths.chain, Scopes.Scopes}
use Rattle.hir_captures.specs.Captures.{with_new, captures_by, AreChains}
use Rattle.hir_captures.specs.Uses.{Use, uses_in, spot, if_assignment, assignment_at, uses_at}
use Rattle.hir_captures.specs.declared.{code.Code.Code, tasks.Task.Task, tasks.Tasks.Tasks}
use Rattle.hir_captures.specs.internal.Pending.{task_of, tasks_of, pat_task, task_node, task_target, code_of, AreInRange}
use Rattle.hir_captures.specs.internal.Reading.{chain_in, captured_binding_in, with_uses, with_code, ReadsTask}
use Rattle.hir_captures.proofs.CodeLemmas.{code_read, children_in_range}
use Rattle.std.proofs.lemmas.Grind.{common_steps}

-- 1. What a run of child calls leaves to be read.

abbrev pub DefersCalls : Tasks → List Call → Tasks → Type 0
DefersCalls v cs w = (w.assignment ≡ v.assignment) × Defers v.stack (tasks_of v.assignment cs) w.stack

abbrev pub DefersCall : Tasks → Call → Tasks → Type 0
DefersCall v c w = (w.assignment ≡ v.assignment) × Defers v.stack (task_of v.assignment c) w.stack

pub defers_all : {v w : Tasks} {cs : List Call} → Runs DefersCall v cs w → DefersCalls v cs w
defers_all {v} no_call = (refl, defers_none v.stack)
defers_all {v} {w} (a_call {v = u} {c = c} {cs = cs} step rest) = grind (arith, common_steps, defers_two, defers_all rest)

-- 2. Reading a node leaves what is to be found as it was.

module _ (code : Code) where
  abbrev c : Contents
  c = code.store.now

  uses_two : (found : List ℕ) (us vs : List Use) → with_uses code found (us ++ vs) ≡ with_uses code (with_uses code found us) vs
  uses_two found us vs =
      ap (fold with_new found) (filter_map-append (captured_binding_in code) us vs)
      ∙ fold-append with_new found (filter_map (captured_binding_in code) us) (filter_map (captured_binding_in code) vs)

  module _ (fall : RankDecreases c.nodes) (t : Task) (rest new : List Task) (before after : List ℕ) where
    abbrev defer : List Task
    defer = tasks_of (assignment_at c.nodes (task_node t) (task_target t)) (met_in_form (form_of c.nodes (task_node t))) ++ rest

    code_now : code_of c.nodes (t ∷ rest) ≡ spot (task_node t) (task_target t) ∷ code_of c.nodes defer
    code_now = search (rules, code_read, flat_map-append)

    -- one node is read
    read_one : AreInRange c.nodes (t ∷ rest) → after
        ≡ with_uses code before (uses_at c (task_node t) (task_target t)) → new ≡ defer →
        ReadsTask code before (t ∷ rest) after new
    read_one in_range found is =
        grind (
          arith,
          common_steps,
          children_in_range c.nodes fall (task_node t) (assignment_at c.nodes (task_node t) (task_target t)) rest in_range.0 in_range.1,
          code_now,
        )

  pub read_expr : RankDecreases c.nodes → (id : ℕ) (x : Expr) (rest new : List Task) (before after : List ℕ) →
      slice_get c.nodes.exprs id ≡ Some x → AreInRange c.nodes (Task.Expr id ∷ rest) →
      after ≡ with_uses code before (uses_at c (NodeId.Expr id) None) →
      new ≡ tasks_of (if_assignment id (Some x)) (met_in_form (expr_form x)) ++ rest → ReadsTask code before (Task.Expr id ∷ rest) after new
  read_expr fall id x rest new before after is in_range found defer =
      read_one fall (Task.Expr id) rest new before after in_range found
      (defer ∙ ap (λ (o : Option Expr). tasks_of (if_assignment id o) (met_in_form (form_at expr_form o)) ++ rest) (sym is))

  pub read_pat : RankDecreases c.nodes →
      (id : ℕ) (x : Pat) (a : Option ℕ) (rest new : List Task) (before after : List ℕ) → slice_get c.nodes.pats id
      ≡ Some x → AreInRange c.nodes (pat_task a id ∷ rest) →
      after ≡ with_uses code before (uses_at c (NodeId.Pat id) a) →
      new ≡ tasks_of a (pat_calls x) ++ rest → ReadsTask code before (pat_task a id ∷ rest) after new
  read_pat fall id x None rest new before after is in_range found defer =
      read_one fall (Task.Pat id) rest new before after in_range found
      (defer ∙ ap (λ (o : Option Pat). tasks_of None (met_in_form (form_at pat_form o)) ++ rest) (sym is))
  read_pat fall id x (Some a) rest new before after is in_range found defer =
      read_one fall (Task.Target id a) rest new before after in_range found
      (defer ∙ ap (λ (o : Option Pat). tasks_of (Some a) (met_in_form (form_at pat_form o)) ++ rest) (sym is))

-- The whole

-- each reached expression has a scope, along which its frames are
pub chains_are : (b : BodyContents) (scopes : Scopes) →
    ((x : ℕ) → IsSome (map.get scopes.scope_by_expr x) ↔ BodyReaches b (NodeId.Expr x)) →
    ChainsAreFrames b.store.nodes (entry_nodes_of_body b) scopes → AreChains b (chain_in scopes)
chains_are b scopes reached chains x r = search rules

pub are_by_length : (b : BodyContents) (code : Code) (closure scope : ℕ) (found : List ℕ) → code.store.now ≡ b.store →
    code.outermost ≡ length (chain code.scopes.now.scopes (Some scope)) →
    map.get code.scopes.now.scope_by_expr closure ≡ Some scope → found ≡ with_code code [] (Task.Expr closure ∷ []) →
    found ≡ captures_by (chain_in code.scopes.now) b.store closure
unfolding uses_in
are_by_length b code closure scope found same out is e = search (rules, append-nil)

pub ruleset reads = (read_expr, read_pat)
