-- How a walk goes on: scopes that are added and opened, a task that is done, and what is done in all.
use Rattle.std.proofs.Common.{◌≡◌, ℕ, suc, ◌+◌, ◌<◌, ◌≤◌, List, [], ◌∷◌, ◌++◌, Option, Some, map, length, refl, ap, ◌∙◌, arith, sym, rules}
use Rattle.std.proofs.Common.{append_assoc, subst, length-append, ◌⊎◌}
use Rattle.std.proofs.lemmas.List.{get_or_append_left, get_or_push, length_push, append-nil, length-map, map-append}
use Rattle.std.proofs.lemmas.List.Elements.{All-nil, All-cons, All-append, All-weaker}
use Rattle.std.proofs.lemmas.List.Sums.{sum_by-append, sum_by-cons}
use Rattle.std.proofs.lemmas.{Option.slice_get-get_or, Result.on_ok_weaker}
use Rattle.std.specs.FinMap as finmap
use Rattle.std.specs.List.{slice_get, flat_map, sum_by, All}
use Rattle.std.specs.{Ordering.nat_cmp, Prelude.Result, Prelude.OnOk}
use Rattle.hir_node.specs.declared.node_id.NodeId.{NodeId}
use Rattle.hir_validate.specs.{declared.node_arenas.Nodes.Nodes, TestedParts.all_of}
use Rattle.hir_validate.proofs.SoundLemmas.{item_at}
use Rattle.hir_scope.specs.Chains.{InContext, within_own}
use Rattle.hir_scope.specs.ScopingForms.{ScopingForm, form_of}
use Rattle.hir_scope.specs.ScopingForms as form
use Rattle.hir_scope.specs.Frames.{Frame, Chain, frame, of_kind, empty}
use Rattle.hir_scope.specs.{OpenFrames.open_frames, Paths.path, Paths.frame_at, Paths.chain}
use Rattle.hir_scope.specs.{Scopes.Scope, Scopes.frame_of, Scopes.Scopes, Scopes.entry_count}
use Rattle.hir_scope.specs.declared.scope.{ScopeEntry.ScopeEntry, ScopeKind.ScopeKind}
use Rattle.hir_scope.specs.declared.{tasks.CurrentScopes.CurrentScopes, tasks.Task.Task, walk.Walk.Walk}
use Rattle.hir_scope.specs.internal.WalkState.{with_next, chain_of, LeavesWithin, HasFrames, WalkState}
use Rattle.hir_scope.specs.internal.WalkState.{future_of, about, AreInRange, IsReady, weight_left, one}
use Rattle.hir_scope.specs.internal.WalkState.{count_entries, Over, Exceeds, turns_left, Opens, OpensScopes, Step, scope_within}
use Rattle.hir_scope.specs.internal.WalkState.{ScopeAssigned, context_assigned, write_all, IsRight, WalkSteps, CountedStep}
use Rattle.hir_scope.specs.internal.Pending.{future, opened_frames}
use Rattle.hir_scope.specs.internal.ContextsUnder.{in_context, exprs_under}
use Rattle.hir_scope.proofs.MemberLemmas.{sum_mapped, sum_ones}
use Rattle.hir_scope.proofs.PathLemmas.{path_kept, path_new, path_members}
use Rattle.std.proofs.lemmas.Grind.{common_steps}

-- 1. Later scopes change nothing: no chain of an earlier scope, and nothing of what is still to do.

-- Chains

slice_kept : {X : Type 0} (xs ys : List X) (i : ℕ) → i < length xs → slice_get (xs ++ ys) i ≡ slice_get xs i
slice_kept xs ys i h =
    let x = (item_at xs i h).0 in
    slice_get-get_or (xs ++ ys) i x (omega (arith, h, length-append xs ys))
    ∙ (ap Some (get_or_append_left xs ys x i h) ∙ sym (slice_get-get_or xs i x h))

slice_last : {X : Type 0} (xs : List X) (x : X) (i : ℕ) → i ≡ length xs → slice_get (xs ++ x ∷ []) i ≡ Some x
slice_last xs x i h = slice_get-get_or (xs ++ x ∷ []) i x (omega (arith, h, length_push xs x)) ∙ ap Some (get_or_push xs x x i (sym h))

abbrev frames_of : Option Scope → List Frame
frames_of o = all_of (λ s. frame_of s ∷ []) o

frames_kept : (scopes more : List Scope) (p : List ℕ) → All (λ x. x < length scopes) p →
    flat_map (frame_at (scopes ++ more)) p ≡ flat_map (frame_at scopes) p
frames_kept scopes more [] h = refl
frames_kept scopes more (x ∷ p) h =
    let r = frames_kept scopes more p (λ k d l. h (suc k) d (omega (arith, l))) in
    ap (λ (o : Option Scope). frames_of o ++ flat_map (frame_at (scopes ++ more)) p) (slice_kept scopes more x (h 0 x (omega arith)))
    ∙ ap (λ (fs : List Frame). frame_at scopes x ++ fs) r

path_frames_kept : (scopes more : List Scope) (o : Option ℕ) → flat_map (frame_at (scopes ++ more)) (path scopes o) ≡ chain scopes o
path_frames_kept scopes more o = frames_kept scopes more (path scopes o) (path_members scopes o)

-- later scopes change no chain
pub chain_kept : (scopes more : List Scope) (s : ℕ) → s < length scopes → chain_of (scopes ++ more) s ≡ chain_of scopes s
chain_kept scopes more s h = search (rules, path_kept, path_frames_kept)

-- the chain of one scope more
pub chain_new : (scopes : List Scope) (x : Scope) (s : ℕ) → s ≡ length scopes → chain_of (scopes ++ x ∷ []) s
    ≡ frame_of x ∷ chain scopes x.parent
chain_new scopes x s e = search (rules, path_new, slice_last, path_frames_kept)

pub frames_grown : (scopes grown more : List Scope) (s : ℕ) (frames : Chain) → grown ≡ scopes ++ more →
    HasFrames scopes s frames → HasFrames grown s frames
frames_grown scopes grown more s frames e h = search (rules, length-append, chain_kept)

-- What is still to do

pub leaves_more : (m n : ℕ) (ts : List Task) → m ≤ n → LeavesWithin m ts → LeavesWithin n ts
leaves_more m n [] l h = tt
leaves_more m n (Task.Root id ∷ ts) l h = (omega (arith, l, h.0), leaves_more m n ts l h.1)
leaves_more m n (Task.Leave a b ∷ ts) l h = (omega (arith, l, h.0), omega (arith, l, h.1), leaves_more m n ts l h.2)
leaves_more m n (_ ∷ ts) l h = leaves_more m n ts l h

-- the chains of scopes that are taken back are all that is asked of them
pub future_agrees : (s : Nodes) (f g : ℕ → Chain) (n : ℕ) → ((i : ℕ) → i < n → f i ≡ g i) →
    (h k : Chain) (ts : List Task) → LeavesWithin n ts → future s f h k ts ≡ future s g h k ts
unfolding future
future_agrees s f g n agree h k [] l = refl
future_agrees s f g n agree h k (Task.Expr id ∷ ts) l =
    search (rules, future_agrees s f g n agree (open_frames s (NodeId.Expr id) ++ h) k ts l)
future_agrees s f g n agree h k (Task.Constant id ∷ ts) l = search (rules, future_agrees s f g n agree h k ts l)
future_agrees s f g n agree h k (Task.Pat id ∷ ts) l =
    search (rules, future_agrees s f g n agree (open_frames s (NodeId.Pat id) ++ h) k ts l)
future_agrees s f g n agree h k (Task.TypeRef id ∷ ts) l = search (rules, future_agrees s f g n agree h k ts l)
future_agrees s f g n agree h k (Task.Bound id ∷ ts) l =
    search (rules, future_agrees s f g n agree (open_frames s (NodeId.Pat id) ++ (frame s (id ∷ []) ∷ h)) k ts l)
future_agrees s f g n agree h k (Task.Arm p x ∷ ts) l = search (rules, future_agrees s f g n agree h k ts l)
future_agrees s f g n agree h k (Task.GuardedArm p y x ∷ ts) l = search (rules, future_agrees s f g n agree h k ts l)
future_agrees s f g n agree h k (Task.MacroDef id ∷ ts) l =
    future_agrees s f g n agree (of_kind (ScopeKind.MacroDef id) ∷ h) (of_kind (ScopeKind.MacroDef id) ∷ k) ts l
future_agrees s f g n agree h k (Task.Root id ∷ ts) l =
    let next = λ (c : Chain). exprs_under s (in_context (NodeId.Expr id) (empty ∷ c) (empty ∷ c) ∷ [])
    ++ future s f (open_frames s (NodeId.Expr id) ++ (empty ∷ c)) (empty ∷ c) ts in
    let outer = empty ∷ g 0 in
    ap next (agree 0 l.0)
    ∙ ap (λ (ps : List InContext). exprs_under s (in_context (NodeId.Expr id) outer outer ∷ []) ++ ps)
    (future_agrees s f g n agree (open_frames s (NodeId.Expr id) ++ outer) outer ts l.1)
future_agrees s f g n agree h k (Task.Leave a b ∷ ts) l = search (rules, future_agrees s f g n agree (g a) (g b) ts l.2)

-- 2. How a walk goes on: scopes that are opened, and a task that is done.

abbrev pub at : Scopes → CurrentScopes → List Task → WalkState
at scopes current tasks = record { scopes = scopes; current = current; tasks = tasks }

-- Scopes that are opened

abbrev pub child : ℕ → ScopeKind → List ScopeEntry → Scope
child parent kind entries = record { parent = Some parent; kind = kind; entries = entries }

child_frames : (scopes grown : List Scope) (p s : ℕ) (k : ScopeKind) (es : List ScopeEntry) → grown
    ≡ scopes ++ child p k es ∷ [] → s ≡ length scopes →
    HasFrames grown s (record { kind = k; entries = es } ∷ chain_of scopes p)
child_frames scopes grown p s k es g i = search (rules, length_push, chain_new)

pub opened_frames_are : (old new : WalkState) (k : ScopeKind) (es : List ScopeEntry) → new.scopes.scopes
    ≡ old.scopes.scopes ++ child old.current.scope k es ∷ [] → new.scopes.scope_by_expr ≡ old.scopes.scope_by_expr →
    new.current.scope ≡ length old.scopes.scopes → new.current.const_scope ≡ old.current.const_scope → new.tasks
    ≡ old.tasks → old.current.const_scope < length old.scopes.scopes →
    OpensScopes old new (record { kind = k; entries = es } ∷ []) []
opened_frames_are old new k es g same i c ts l =
    search (rules, arith, child_frames old.scopes.scopes new.scopes.scopes old.current.scope new.current.scope k es g i, frames_grown)

pub opened_const_frames_are : (old new : WalkState) (k : ScopeKind) (es : List ScopeEntry) → new.scopes.scopes
    ≡ old.scopes.scopes ++ child old.current.const_scope k es ∷ [] → new.scopes.scope_by_expr
    ≡ old.scopes.scope_by_expr → new.current.const_scope ≡ length old.scopes.scopes → new.current.scope
    ≡ old.current.scope → new.tasks ≡ old.tasks → old.current.scope < length old.scopes.scopes →
    OpensScopes old new [] (record { kind = k; entries = es } ∷ [])
opened_const_frames_are old new k es g same i h ts l =
    search (
      rules,
      arith,
      child_frames old.scopes.scopes new.scopes.scopes old.current.const_scope new.current.const_scope k es g i,
      frames_grown,
    )

frames_sum_grown : (w : Frame → ℕ) (scopes grown more : List Scope) → grown ≡ scopes ++ more →
    sum_by w (map frame_of grown) ≡ sum_by w (map frame_of scopes) + sum_by w (map frame_of more)
frames_sum_grown w scopes grown more g = search (rules, map-append, sum_by-append)

pub opened_then : (old mid new : WalkState) (f : Frame) (gs : Chain) → OpensScopes old mid (f ∷ []) [] →
    OpensScopes mid new [] gs → OpensScopes old new (f ∷ []) gs
opened_then old mid new f gs a b = grind (arith, common_steps, append_assoc, frames_sum_grown, sum_by-append)

-- the same machine, where none is opened
pub opened_none : (m : WalkState) → m.current.scope < length m.scopes.scopes →
    m.current.const_scope < length m.scopes.scopes → OpensScopes m m [] []
opened_none m h c = search (rules, append-nil)

-- the scope of an expression is that of its chain
pub own_frames : (s : Nodes) (x : ScopingForm) (scopes : List Scope) (inside outside : ℕ) (h : Chain) →
    HasFrames scopes inside (opened_frames s x ++ h) → HasFrames scopes outside h →
    HasFrames scopes (scope_within x inside outside) (within_own x h)
own_frames s (form.Block id label xs tail) scopes inside outside h i o = i
own_frames s _ scopes inside outside h i o = o

-- Too many

pub scopes_weigh : (scopes : List Scope) → sum_by one (map frame_of scopes) ≡ length scopes
scopes_weigh scopes = sum_ones one (map frame_of scopes) (λ f i. refl) ∙ length-map scopes frame_of

pub entries_weigh : (scopes : List Scope) → sum_by count_entries (map frame_of scopes) ≡ entry_count scopes
entries_weigh scopes = sum_mapped count_entries frame_of scopes

-- what a refusal says of the lists is over
pub over_new : (scopes : List Scope) (f : Frame) →
    (4294967295 < length scopes + 1) ⊎ (4294967295 < entry_count scopes + length f.entries) →
    Over (map frame_of scopes ++ f ∷ [])
over_new scopes f o = search (rules, sum_by-append, scopes_weigh, entries_weigh)

-- what is over with the frames so far is over with those from before
pub over_after : (old mid : WalkState) (f : Frame) (gs : List Frame) → OpensScopes old mid (f ∷ []) [] →
    Over (map frame_of mid.scopes.scopes ++ gs) → Over (map frame_of old.scopes.scopes ++ f ∷ gs)
over_after old mid f gs a o = grind (arith, common_steps, frames_sum_grown, sum_by-append, sum_by-cons)

module _ (s : Nodes) where
  pub over_exceeds : (m : WalkState) (fs : List Frame) → Over (map frame_of m.scopes.scopes ++ fs) →
      ((w : Frame → ℕ) → sum_by w fs ≤ weight_left s w m.tasks) → Exceeds s m
  over_exceeds m fs o h = search (rules, sum_by-append)

  -- A task that is done, and leaves these tasks

  -- one that opens scopes
  pub moves_opened : {S : Scopes} {a b : CurrentScopes} {ts us vs : List Task} {new : WalkState}
      {fs gs : Chain} {made : List Frame} {met : List InContext} →
      us ≡ vs → Opens (at S b us) new made fs gs → LeavesWithin (length S.scopes) vs → AreInRange s (about vs) →
      future_of s (at S a ts) ≡ met ++ future s (chain_of S.scopes) (fs ++ chain_of S.scopes b.scope)
      (gs ++ chain_of S.scopes b.const_scope) vs →
      ((w : Frame → ℕ) → weight_left s w ts ≡ sum_by w made + weight_left s w vs) →
      turns_left s vs < turns_left s ts → Step s (at S a ts) new met
  moves_opened {S} {a} {b} {ts} {us} {vs} {new} {fs} {gs} {made} {met} e o l k f w d =
      search (rules, length-append, leaves_more, future_agrees, chain_kept, frames_sum_grown)

  -- one that opens none
  pub moves_still : {S : Scopes} {a b : CurrentScopes} {ts us vs : List Task} → us ≡ vs →
      b.scope < length S.scopes → b.const_scope < length S.scopes → LeavesWithin (length S.scopes) vs → AreInRange s (about vs) →
      future_of s (at S a ts) ≡ future_of s (at S b vs) → ((w : Frame → ℕ) → weight_left s w ts ≡ weight_left s w vs) →
      turns_left s vs < turns_left s ts → Step s (at S a ts) (at S b us) []
  moves_still {S} {b = b} {us = us} e h c l k f w d = search (rules, moves_opened, opened_none)

-- 3. What a walk has done, from its start on.

write_all-append : (m : finmap.FinMap nat_cmp ℕ) (xs ys : List ScopeAssigned) → write_all m (xs ++ ys) ≡ write_all (write_all m xs) ys
write_all-append m [] ys = refl
write_all-append m (x ∷ xs) ys = write_all-append (finmap.insert m x.expr x.assigned) xs ys

module _ (s : Nodes) where
  pub gone_start : (m : WalkState) (n : ℕ) → IsReady s m → WalkSteps s m m n n
  gone_start m n r =
      record {
        ready = r;
        given = [];
        written = refl;
        in_order = refl;
        right = All-nil (IsRight s m.scopes.scopes);
        ticks = omega arith;
        weights = λ w. refl;
        more = [];
        grows = sym (append-nil m.scopes.scopes);
      }

  pub gone_moved : (old new : WalkState) (n : ℕ) → Step s old new [] → WalkSteps s old new n n
  gone_moved old new n m =
      record {
        ready = m.ready;
        given = [];
        written = m.same;
        in_order = m.in_order;
        right = All-nil (IsRight s new.scopes.scopes);
        ticks = omega arith;
        weights = m.weights;
        more = m.more;
        grows = m.grows;
      }

  -- an expression is met, and then given its scope
  pub gone_given : (old new : WalkState) (last : Scopes) (id scope : ℕ) (h k : Chain) (n : ℕ) →
      Step s old new (in_context (NodeId.Expr id) h k ∷ []) →
      HasFrames new.scopes.scopes scope (within_own (form_of s (NodeId.Expr id)) h) →
      last ≡ record { scopes = new.scopes.scopes; scope_by_expr = finmap.insert new.scopes.scope_by_expr id scope } →
      WalkSteps s old (at last new.current new.tasks) n (n + 1)
  gone_given old new last id scope h k n m has e =
      let x : ScopeAssigned = record { expr = id; scope = h; const_scope = k; assigned = scope } in
      let P : Scopes → Type 0 = λ (S : Scopes). WalkSteps s old (at S new.current new.tasks) n (n + 1) in
      subst P (sym e)
      (record {
        ready = record { scope = m.ready.scope; const_scope = m.ready.const_scope; leaves = m.ready.leaves; known = m.ready.known };
        given = x ∷ [];
        written = ap (λ (b : finmap.FinMap nat_cmp ℕ). finmap.insert b id scope) m.same;
        in_order = m.in_order;
        right = All-cons (IsRight s new.scopes.scopes) x [] has (All-nil (IsRight s new.scopes.scopes));
        ticks = omega arith;
        weights = m.weights;
        more = m.more;
        grows = m.grows;
      })

  -- a task that is known to be this one, where what it calls returns
  pub goes_task : {E : Type 0} (w : Walk) (t u : Task) (n : ℕ) (r : Result (Unit {0}) E) (new : WalkState) → t ≡ u →
      OnOk r (Step s (with_next w u) new []) → OnOk r (CountedStep s (with_next w t) new n n)
  goes_task w t u n r new e moves = search (rules, on_ok_weaker, gone_moved)

  -- one that calls nothing at its end
  pub goes_when : (w : Walk) (t u : Task) (n : ℕ) (new : WalkState) → t ≡ u → IsReady s (with_next w t) →
      (IsReady s (with_next w u) → Step s (with_next w u) new []) → CountedStep s (with_next w t) new n n
  goes_when w t u n new e r moves =
      let m = moves (subst (λ (x : Task). IsReady s (with_next w x)) e r) in
      let goes : CountedStep s (with_next w u) new n n = record { gone = gone_moved (with_next w u) new n m; shorter = m.shorter } in
      subst (λ (x : Task). CountedStep s (with_next w x) new n n) (sym e) goes

  pub goes_given : (S : Scopes) (a : CurrentScopes) (t : Task) (ts : List Task) (mid : WalkState) (last : Scopes)
      (current : CurrentScopes) (tasks : List Task) (id scope : ℕ) (n m : ℕ) → t ≡ Task.Expr id →
      Step s (at S a (Task.Expr id ∷ ts)) mid
      (in_context (NodeId.Expr id) (chain_of S.scopes a.scope) (chain_of S.scopes a.const_scope) ∷ []) →
      HasFrames mid.scopes.scopes scope (within_own (form_of s (NodeId.Expr id)) (chain_of S.scopes a.scope)) →
      last ≡ record { scopes = mid.scopes.scopes; scope_by_expr = finmap.insert mid.scopes.scope_by_expr id scope } →
      current ≡ mid.current → tasks ≡ mid.tasks → m ≡ n + 1 →
      CountedStep s (at S a (t ∷ ts)) (at last current tasks) n m
  goes_given S a t ts mid last current tasks id scope n m is moves has e ea et i =
      let old = at S a (Task.Expr id ∷ ts) in
      let h = chain_of S.scopes a.scope in
      let k = chain_of S.scopes a.const_scope in
      let gone : WalkSteps s old (at last mid.current mid.tasks) n m =
      subst (λ (x : ℕ). WalkSteps s old (at last mid.current mid.tasks) n x) (sym i) (gone_given old mid last id scope h k n moves has e) in
      let goes : CountedStep s old (at last mid.current mid.tasks) n m = record { gone = gone; shorter = moves.shorter } in
      subst (λ (x : Task). CountedStep s (at S a (x ∷ ts)) (at last current tasks) n m) (sym is)
      (subst (λ (x : CurrentScopes). CountedStep s old (at last x tasks) n m) (sym ea)
      (subst (λ (x : List Task). CountedStep s old (at last mid.current x) n m) (sym et) goes))

  right_grown : (scopes grown more : List Scope) (gs : List ScopeAssigned) → grown ≡ scopes ++ more →
      All (IsRight s scopes) gs → All (IsRight s grown) gs
  right_grown scopes grown more gs e h = search (rules, All-weaker, frames_grown)

  pub gone_then : (old mid new : WalkState) (n0 n1 n2 : ℕ) → WalkSteps s old mid n0 n1 → WalkSteps s mid new n1 n2 →
      WalkSteps s old new n0 n2
  gone_then old mid new n0 n1 n2 a b =
      record {
        ready = b.ready;
        given = a.given ++ b.given;
        written =
            b.written ∙ (ap (λ (m : finmap.FinMap nat_cmp ℕ). write_all m b.given) a.written
            ∙ sym (write_all-append old.scopes.scope_by_expr a.given b.given));
        in_order =
            a.in_order ∙ (ap (λ (ps : List InContext). map context_assigned a.given ++ ps) b.in_order
            ∙ (sym (append_assoc (map context_assigned a.given) (map context_assigned b.given) (future_of s new))
            ∙ ap (λ (ps : List InContext). ps ++ future_of s new) (sym (map-append context_assigned a.given b.given))));
        right = All-append (IsRight s new.scopes.scopes) a.given b.given
            (right_grown mid.scopes.scopes new.scopes.scopes b.more a.given b.grows a.right) b.right;
        ticks = omega (arith, a.ticks, b.ticks, length-append a.given b.given);
        weights = λ w. a.weights w ∙ b.weights w;
        more = a.more ++ b.more;
        grows = b.grows ∙ (ap (λ (xs : List Scope). xs ++ b.more) a.grows ∙ append_assoc old.scopes.scopes a.more b.more);
      }
