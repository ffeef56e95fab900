-- What a whole walk made.
use Rattle.std.proofs.Common.{◌≡◌, ℕ, List, [], ◌∷◌, refl, sym, ap, ◌∙◌, subst, Option, Some, None, inl, inr, ◌⊎◌, ⊎_elim, Bool, true, rules}
use Rattle.std.proofs.Common.{false, cond, ◌↔◌, ◌+◌, map, length, arith, append-nil, ◌<◌}
use Rattle.std.proofs.lemmas.{List.length-map, List.Elements.All-contains}
use Rattle.std.specs.Cmp.{nat_cmp_total, tied_itself}
use Rattle.std.specs.FinMap.{get-insert, get-empty}
use Rattle.std.specs.FinMap as finmap
use Rattle.std.specs.List.{sum_by, Sorted.IsPermutation}
use Rattle.std.specs.Ordering.{nat_cmp, is_eq, eq_by_cmp}
use Rattle.std.specs.{Prelude.IsSome}
use Rattle.hir_node.specs.declared.node_id.NodeId.{NodeId}
use Rattle.hir_validate.specs.Nodes.{Has}
use Rattle.hir_validate.specs.declared.node_arenas.Nodes.{Nodes}
use Rattle.hir_store_core.specs.{Contents.Contents, Under.IsReached, Under.reached_nodes}
use Rattle.hir_body.specs.{Bodies.BodyContents, Bodies.body_nodes, Bodies.entry_nodes}
use Rattle.hir_signature.specs.{Signatures.root_entry_nodes}
use Rattle.hir_scope.specs.BodyScopes.{ChainsAreFrames, expr_count, entry_nodes_of_body, entry_nodes_of_signature, AreBodyScopes}
use Rattle.hir_scope.specs.BodyScopes.{AreSignatureScopes, body_frames, signature_frames, BodyIsTooLarge, SignatureIsTooLarge, limit}
use Rattle.hir_scope.specs.{Counts.frames_of_scopes, Frames.Frame}
use Rattle.hir_scope.specs.{Chains.InContext, Chains.Occurs, Scopes.entry_count}
use Rattle.hir_scope.specs.internal.Begins.{IsSound, IsSoundBody, IsSoundStore, root_entries, body_begins, signature_begins}
use Rattle.hir_scope.specs.internal.WalkState.{ScopeAssigned, write_all, WalkState, WalkSteps, context_assigned, future_of}
use Rattle.hir_scope.specs.internal.WalkState.{IsReady, Exceeds, one, count_entries, weight}
use Rattle.hir_scope.specs.internal.Pending.{future}
use Rattle.hir_scope.specs.internal.ContextsUnder.{exprs_under}
use Rattle.hir_scope.proofs.BeginLemmas.{body_ready, body_exceeds, root_exceeds, signature_ready, signature_exceeds, body_same}
use Rattle.hir_scope.proofs.BeginLemmas.{body_whole, body_frames_weigh, body_scopes_weigh, body_entries_weigh, signature_same, signature_whole}
use Rattle.hir_scope.proofs.BeginLemmas.{signature_frames_weigh, signature_scopes_weigh, signature_entries_weigh, roots_in, entry_nodes_in_range}
use Rattle.hir_scope.proofs.CountLemmas.{exprs_counted}
use Rattle.hir_scope.proofs.MemberLemmas.{In, contains_in, in_map, map_in}
use Rattle.hir_scope.proofs.SameFramesLemmas.{same_frames}
use Rattle.hir_scope.proofs.{MovingLemmas.scopes_weigh, MovingLemmas.entries_weigh, SameLemmas.at_or_before}
use Rattle.hir_scope.proofs.UnderLemmas.{reached_occurs, occurs_reached, exprs_stand, standing_exprs}

-- 1. What a list of writes leaves in a finite map: at each id that was written one of the values written there, and nothing else.

abbrev ScopesById : Type 0
ScopesById = finmap.FinMap nat_cmp ℕ

tied_same : (q k : ℕ) → eq_by_cmp nat_cmp q k ≡ true → q ≡ k
tied_same q k e = search rules

-- a value that exists was there before, or was written
pub written_or : (m : ScopesById) (gs : List ScopeAssigned) (expr scope : ℕ) → finmap.get (write_all m gs) expr
    ≡ Some scope → (finmap.get m expr
    ≡ Some scope) ⊎ ((g : ScopeAssigned) × In g gs × (g.expr ≡ expr) × (g.assigned ≡ scope))
written_or m [] expr scope e = inl e
written_or m (g ∷ gs) expr scope e =
    ⊎_elim
    (λ q. ⊎_elim
    (λ t. inr (g, inl refl, sym (tied_same expr g.expr t.0), t.1))
    (λ o. inl o)
    (at_or_before (eq_by_cmp nat_cmp expr g.expr) g.assigned (finmap.get m expr) scope
    (sym (get-insert nat_cmp_total m g.expr g.assigned expr) ∙ q)))
    (λ r. inr (r.0, inr r.1, r.2, r.3))
    (written_or (finmap.insert m g.expr g.assigned) gs expr scope e)

-- into nothing, it was written
pub written_once : (gs : List ScopeAssigned) (expr scope : ℕ) → finmap.get (write_all finmap.empty gs) expr
    ≡ Some scope → (g : ScopeAssigned) × In g gs × (g.expr ≡ expr) × (g.assigned ≡ scope)
written_once gs expr scope e =
    ⊎_elim (λ q. absurd (let none : finmap.get {K = ℕ} {X = ℕ} {R = nat_cmp} finmap.empty expr
    ≡ None = get-empty nat_cmp expr in cc)) (λ r. r)
    (written_or finmap.empty gs expr scope e)

some_if : (b : Bool) (v : ℕ) (o : Option ℕ) → (b ≡ true) ⊎ IsSome o → IsSome (cond b (Some v) o)
some_if true v o h = refl
some_if false v o (inl e) = absurd cc
some_if false v o (inr h) = h

-- what exists stays
stays : (m : ScopesById) (gs : List ScopeAssigned) (expr : ℕ) → IsSome (finmap.get m expr) → IsSome (finmap.get (write_all m gs) expr)
stays m [] expr h = h
stays m (g ∷ gs) expr h =
    stays (finmap.insert m g.expr g.assigned) gs expr
    (subst IsSome (sym (get-insert nat_cmp_total m g.expr g.assigned expr))
    (some_if (eq_by_cmp nat_cmp expr g.expr) g.assigned (finmap.get m expr) (inr h)))

-- what was written exists
pub written_in_range : (m : ScopesById) (gs : List ScopeAssigned) (g : ScopeAssigned) → In g gs →
    IsSome (finmap.get (write_all m gs) g.expr)
written_in_range m [] g h = absurd h
written_in_range m (f ∷ gs) g h =
    ⊎_elim
    (λ e. stays (finmap.insert m f.expr f.assigned) gs g.expr
    (subst IsSome (sym (get-insert nat_cmp_total m f.expr f.assigned g.expr))
    (some_if (eq_by_cmp nat_cmp g.expr f.expr) f.assigned (finmap.get m g.expr)
    (inl (ap (λ (x : ScopeAssigned). eq_by_cmp nat_cmp g.expr x.expr) e
    ∙ ap is_eq (tied_itself nat_cmp_total g.expr))))))
    (λ i. written_in_range (finmap.insert m f.expr f.assigned) gs g i)
    h

-- 2. What a walk that met all under some entry nodes has made: each reached expression has a scope, with its frames as the scope's chain.

some_is : (o : Option ℕ) → IsSome o → (v : ℕ) × (o ≡ Some v)
some_is None h = absurd cc
some_is (Some v) h = (v, refl)

module _ (s : Nodes) (sound : IsSound s) (entry_nodes : List InContext) (nodes : List NodeId)
    (same : map (λ (p : InContext). p.node) entry_nodes ≡ nodes) (in_range : (n : NodeId) → In n nodes →
    Has s n) where
  contexts_in_range : (p : InContext) → In p entry_nodes → Has s p.node
  contexts_in_range p i = in_range p.node (subst (In p.node) same (map_in (λ (q : InContext). q.node) p entry_nodes i))

  pub counted : length (exprs_under s entry_nodes) ≡ expr_count (reached_nodes s nodes)
  counted = exprs_counted s sound.fall sound.under entry_nodes nodes (sym same) contexts_in_range in_range

  module _ (old new : WalkState) (before after : ℕ) (gone : WalkSteps s old new before after) (whole : future_of s old
      ≡ exprs_under s entry_nodes) (none : old.scopes.scope_by_expr ≡ finmap.empty) (done : new.tasks ≡ []) where
    contexts : map context_assigned gone.given ≡ exprs_under s entry_nodes
    unfolding future
    contexts = search (rules, append-nil, gone, whole)

    written : new.scopes.scope_by_expr ≡ write_all finmap.empty gone.given
    written = gone.written ∙ ap (λ m. write_all m gone.given) none

    given_occurs : (g : ScopeAssigned) → In g gone.given → Occurs s entry_nodes (context_assigned g)
    given_occurs g i = search (rules, exprs_stand, contexts_in_range, In, contexts, map_in, gone)

    was_given : (expr scope : ℕ) → finmap.get new.scopes.scope_by_expr expr ≡ Some scope →
        (g : ScopeAssigned) × In g gone.given × (g.expr ≡ expr) × (g.assigned ≡ scope)
    was_given expr scope e = written_once gone.given expr scope (sym (ap (λ m. finmap.get m expr) written) ∙ e)

    to_reached : (expr : ℕ) → IsSome (finmap.get new.scopes.scope_by_expr expr) → IsReached s nodes (NodeId.Expr expr)
    to_reached expr h = search (rules, some_is, was_given, occurs_reached, given_occurs)

    from_reached : (expr : ℕ) → IsReached s nodes (NodeId.Expr expr) → IsSome (finmap.get new.scopes.scope_by_expr expr)
    from_reached expr h =
        let at = reached_occurs s entry_nodes (NodeId.Expr expr) (subst (λ ns. IsReached s ns (NodeId.Expr expr)) (sym same) h) in
        let i = standing_exprs s sound.fall entry_nodes contexts_in_range at.0 expr at.2 at.1 in
        let g = in_map context_assigned at.0 gone.given (subst (In at.0) (sym contexts) i) in
        let one : NodeId.Expr g.0.expr ≡ NodeId.Expr expr = ap (λ (p : InContext). p.node) g.2 ∙ at.2 in
        let id : g.0.expr ≡ expr = cc in
        subst (λ m. IsSome (finmap.get m expr)) (sym written)
        (subst (λ (x : ℕ). IsSome (finmap.get (write_all finmap.empty gone.given) x)) id (written_in_range finmap.empty gone.given g.0 g.1))

    pub reached : (expr : ℕ) → IsSome (finmap.get new.scopes.scope_by_expr expr) ↔ IsReached s nodes (NodeId.Expr expr)
    reached expr = (to_reached expr, from_reached expr)

    pub chains : ChainsAreFrames s entry_nodes new.scopes
    chains expr scope e = search (rules, was_given, All-contains, gone, contains_in, given_occurs)

    pub ticked : after ≡ before + expr_count (reached_nodes s nodes)
    ticked = omega (arith, length-map gone.given context_assigned, ap (λ (ps : List InContext). length ps) contexts, counted, gone.ticks)

-- 3. What the whole walk over a body or a signature has made: its scopes, with the counts of scopes and entries, in a
-- step for each expression.

-- at the end all that was weighed is in scopes
module _ (s : Nodes) (old new : WalkState) (done : new.tasks ≡ []) where
  all_frames : (frames : List Frame) → ((w : Frame → ℕ) → weight s w old ≡ weight s w new) →
      ((w : Frame → ℕ) → weight s w old ≡ sum_by w frames) → IsPermutation frames (frames_of_scopes new.scopes.scopes)
  all_frames frames e is = search (rules, same_frames)

  all_scopes : weight s one old ≡ weight s one new → length new.scopes.scopes ≡ weight s one old
  all_scopes e = search (rules, scopes_weigh)

  all_entries : weight s count_entries old ≡ weight s count_entries new → entry_count new.scopes.scopes ≡ weight s count_entries old
  all_entries e = search (rules, entries_weigh)

module _ (b : BodyContents) (sound : IsSoundBody b) where
  abbrev nodes : Nodes
  nodes = b.store.nodes

  pub root_fails : limit < length (root_entries b) → BodyIsTooLarge b
  root_fails h = root_exceeds b sound h

  -- in the store of the body, from the state in which its walk begins
  module _ (c : Contents) (same : c ≡ b.store) (start : WalkState) (is : start ≡ body_begins b) where
    whole : future_of nodes start ≡ exprs_under nodes (entry_nodes_of_body b)
    whole = ap (future_of nodes) is ∙ body_whole b

    pub body_starts : IsReady c.nodes start
    body_starts = subst (λ (x : Contents). IsReady x.nodes start) (sym same) (subst (IsReady nodes) (sym is) (body_ready b sound))

    pub body_at_most : length (future_of c.nodes start) ≡ expr_count (body_nodes b)
    body_at_most = search (rules, whole, counted, body_same, entry_nodes_in_range)

    pub body_fails : Exceeds c.nodes start → BodyIsTooLarge b
    body_fails h = body_exceeds b sound (subst (Exceeds nodes) is (subst (λ (x : Contents). Exceeds x.nodes start) same h))

    module _ (new : WalkState) (before after : ℕ) (went : WalkSteps c.nodes start new before after) (done : new.tasks ≡ []) where
      gone : WalkSteps nodes start new before after
      gone = subst (λ (x : Contents). WalkSteps x.nodes start new before after) same went

      none : start.scopes.scope_by_expr ≡ finmap.empty
      none = ap (λ m. m.scopes.scope_by_expr) is

      pub body_ticks : after ≡ before + expr_count (body_nodes b)
      body_ticks = search (rules, ticked, body_same, entry_nodes_in_range, gone, whole, none)

      pub body_made : AreBodyScopes b new.scopes
      body_made = record {
        reached = reached nodes sound.nodes (entry_nodes_of_body b) (entry_nodes b) (body_same b)
            (entry_nodes_in_range b sound) start new before after gone whole none done;
        chains = chains nodes sound.nodes (entry_nodes_of_body b) (entry_nodes b) (body_same b)
            (entry_nodes_in_range b sound) start new before after gone whole none done;
        frames = all_frames nodes start new done (body_frames b) gone.weights
            (λ w. ap (weight nodes w) is ∙ body_frames_weigh b sound w);
        scopes = all_scopes nodes start new done (gone.weights one) ∙ (ap (weight nodes one) is ∙ body_scopes_weigh b sound);
        entries = all_entries nodes start new done (gone.weights count_entries)
            ∙ (ap (weight nodes count_entries) is ∙ body_entries_weigh b sound);
      }

module _ (c : Contents) (sound : IsSoundStore c) (start : WalkState) (is : start ≡ signature_begins c) where
  pub signature_starts : IsReady c.nodes start
  signature_starts = subst (IsReady c.nodes) (sym is) (signature_ready c sound)

  pub signature_fails : Exceeds c.nodes start → SignatureIsTooLarge c
  signature_fails h = signature_exceeds c sound (subst (Exceeds c.nodes) is h)

  module _ (new : WalkState) (before after : ℕ) (gone : WalkSteps c.nodes start new before after) (done : new.tasks ≡ []) where
    met_all : future_of c.nodes start ≡ exprs_under c.nodes (entry_nodes_of_signature c)
    met_all = ap (future_of c.nodes) is ∙ signature_whole c

    no_scope : start.scopes.scope_by_expr ≡ finmap.empty
    no_scope = ap (λ m. m.scopes.scope_by_expr) is

    pub signature_made : AreSignatureScopes c new.scopes
    signature_made = record {
      reached = reached c.nodes sound.nodes (entry_nodes_of_signature c) (root_entry_nodes c) (signature_same c)
          (roots_in c sound) start new before after gone met_all no_scope done;
      chains = chains c.nodes sound.nodes (entry_nodes_of_signature c) (root_entry_nodes c) (signature_same c)
          (roots_in c sound) start new before after gone met_all no_scope done;
      frames = all_frames c.nodes start new done (signature_frames c) gone.weights
          (λ w. ap (weight c.nodes w) is ∙ signature_frames_weigh c sound w);
      scopes = all_scopes c.nodes start new done (gone.weights one) ∙ (ap (weight c.nodes one) is ∙ signature_scopes_weigh c sound);
      entries = all_entries c.nodes start new done (gone.weights count_entries)
          ∙ (ap (weight c.nodes count_entries) is ∙ signature_entries_weigh c sound);
    }
