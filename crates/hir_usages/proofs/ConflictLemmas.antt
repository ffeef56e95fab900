-- The first conflict is a use that changes: one of the binding finds another one, any other use finds the binding.
use Rattle.std.proofs.Common.{◌≡◌, ℕ, zero, suc, List, [], ◌∷◌, Option, Some, None, Bool, true, false, cond, map, refl, sym, ap, rules}
use Rattle.std.proofs.Common.{◌∙◌, Contains, subst, length, nat_eq, arith, ◌⊎◌, inl, inr, ⊎_elim}
use Rattle.std.proofs.lemmas.Bool.{eqb-true, eq-eqb, lt-ltb}
use Rattle.std.proofs.lemmas.{List.map-append, Option.slice_get_within}
use Rattle.std.proofs.lemmas.List.Elements.{All-from_recursion, recursion_from_All}
use Rattle.std.specs.List.{slice_get, All, AllByRecursion}
use Rattle.std.specs.Option.{option_or, option_map}
use Rattle.std.specs.Prelude.{◌↔◌, ◌<◌, nat_lt}
use Rattle.hir_base.specs.declared.hygiene.SyntaxContext.{SyntaxContext}
use Rattle.hir_node.specs.declared.{binding.Binding.Binding, node_id.NodeId.NodeId}
use Rattle.hir_validate.specs.{declared.node_arenas.Nodes.Nodes, Nodes.children_of, Recursion.RankDecreases}
use Rattle.hir_store_core.specs.{Contents.Contents, SideTables.hygiene_of}
use Rattle.hir_body.specs.{Bodies.BodyContents, Bodies.formals_of, Bodies.last_root, declared.formals.Param.Param}
use Rattle.hir_scope.specs.{BodyScopes.AreBodyScopes, BodyScopes.entry_nodes_of_body, Chains.InContext, Chains.HasChain, Frames.Chain}
use Rattle.hir_scope.specs.{PathResolution.binding_of, Resolution.matches, Resolution.find_entry, Resolution.entries_of}
use Rattle.hir_scope.specs.{Scopes.Scopes}
use Rattle.hir_scope.specs.declared.scope.ScopeEntry.{ScopeEntry}
use Rattle.hir_usages.specs.Usages.{usages_of_body, resolves_to}
use Rattle.hir_usages.specs.Renames.{binding_for, is_same, conflict_of, first_conflict, name_at, name_after, refusal}
use Rattle.hir_usages.specs.Renames.{rename_fault, renamed_entry, resolve_along, chain_at, resolved_after, renamed_chain}
use Rattle.hir_usages.specs.Kept.{ResolvesTo, Keeps, MayBeRenamed, IsFirstChange, IsConflict, hidden, captures, IsWhyNot, refused, conflict}
use Rattle.hir_usages.specs.{Renamed.renamed_body, declared.rename_fault.RenameFault.RenameFault, declared.usage.Usage.Usage}
use Rattle.hir_usages.proofs.AlikeLemmas.{Alike, mapped_chain, one_entry, chain_renamed, entry_nodes_renamed}
use Rattle.hir_usages.proofs.KeptLemmas.{same_decides, kept_exactly}
use Rattle.hir_usages.proofs.{RenameLemmas.binding_in, UseLemmas.IsUse, UseLemmas.AreUses, UseLemmas.all_uses, UseLemmas.for_along}
use Rattle.hir_usages.proofs.RenamedLemmas.{OneChain, by_frames, by_scopes, reaches_after, as_many, chain_after, resolves_after}
use Rattle.hir_usages.proofs.VisibleLemmas.{asked, among}
use Rattle.std.proofs.lemmas.Grind.{common_steps}

-- 1. The bindings of the entries around an expression are in range: a change of all other entries changes none of them.

pub entries_mapped : (ren : ScopeEntry → ScopeEntry) (c : Chain) → entries_of (mapped_chain ren c) ≡ map ren (entries_of c)
entries_mapped ren [] = refl
entries_mapped ren (f ∷ c) = search (rules, map-append, entries_mapped ren c)

abbrev moved : ℕ → ScopeEntry → ScopeEntry
moved limit e = cond (nat_lt e.binding limit) e (record e { binding = suc e.binding })

abbrev first_or : ScopeEntry → List ScopeEntry → ScopeEntry
first_or d [] = d
first_or d (x ∷ xs) = x

abbrev but_first : List ScopeEntry → List ScopeEntry
but_first [] = []
but_first (x ∷ xs) = xs

fixed_entry : (limit : ℕ) (es : List ScopeEntry) → es ≡ map (moved limit) es → (e : ScopeEntry) → Contains es e →
    nat_lt e.binding limit ≡ true
fixed_entry limit [] h e m = absurd (omega (arith, m.1))
fixed_entry limit (x ∷ es) h e (zero, l, is) = search rules
fixed_entry limit (x ∷ es) h e (suc i, l, is) = grind (arith, common_steps)

module _ (s : Nodes) where
  in_range_fixed : (id : ℕ) (o : Option Binding) → slice_get s.bindings id ≡ o → one_entry id o
      ≡ map (moved (length s.bindings)) (one_entry id o)
  in_range_fixed id None e = refl
  in_range_fixed id (Some x) e = search (rules, lt-ltb, slice_get_within)

  nothing_moved : Alike (moved (length s.bindings)) s s
  nothing_moved = search (rules, in_range_fixed)

-- the bindings of the entries around an expression are in range
entries_are_in_range : (b : BodyContents) → OneChain b → (x : ℕ) (c : Chain) →
    HasChain b.store.nodes (entry_nodes_of_body b) x c → (e : ScopeEntry) → Contains (entries_of c) e →
    nat_lt e.binding (length b.store.nodes.bindings) ≡ true
entries_are_in_range b only x c has e m =
    let s = b.store.nodes in
    let limit = length s.bindings in
    let a = nothing_moved s in
    let own = option_map (λ (q : Param ℕ). q.formal) b.self_param in
    let entries = entry_nodes_renamed (moved limit) s s a own (formals_of b.params) (last_root b.store) in
    let after : HasChain s (entry_nodes_of_body b) x (mapped_chain (moved limit) c) =
    subst (λ (ns : List InContext). HasChain s ns x (mapped_chain (moved limit) c)) (sym entries)
    (chain_renamed (moved limit) s s a (entry_nodes_of_body b) x c has) in
    let same : c ≡ mapped_chain (moved limit) c = only x c (mapped_chain (moved limit) c) has after in
    fixed_entry limit (entries_of c) (ap entries_of same ∙ entries_mapped (moved limit) c) e m

-- 2. What a name finds after the rename

module _ (x : ℕ) (n : List ℕ) (h : SyntaxContext) where
  abbrev ren : ScopeEntry → ScopeEntry
  ren e = renamed_entry x n e

  abbrev named : ScopeEntry → ScopeEntry
  named e = record e { name = n }

  own_step : (e : ScopeEntry) (m w : Bool) (rest later : Option ScopeEntry) → e.binding ≡ x →
      ((binding_in rest ≡ Some x → ⊥) → (binding_in later ≡ Some x) ⊎ (later ≡ rest)) →
      (binding_in (cond w (Some e) rest) ≡ Some x → ⊥) →
      (binding_in (cond m (Some (named e)) later) ≡ Some x) ⊎ (cond m (Some (named e)) later ≡ cond w (Some e) rest)
  own_step e true w rest later own further differs = inl (ap (λ (k : ℕ). Some k) own)
  own_step e false true rest later own further differs = absurd (differs (ap (λ (k : ℕ). Some k) own))
  own_step e false false rest later own further differs = further differs

  other_step : (e : ScopeEntry) (w : Bool) (rest later : Option ScopeEntry) →
      ((binding_in rest ≡ Some x → ⊥) → (binding_in later ≡ Some x) ⊎ (later ≡ rest)) →
      (binding_in (cond w (Some e) rest) ≡ Some x → ⊥) →
      (binding_in (cond w (Some e) later) ≡ Some x) ⊎ (cond w (Some e) later ≡ cond w (Some e) rest)
  other_step e true rest later further differs = inr refl
  other_step e false rest later further differs = further differs

  step : (y : List ℕ) (e : ScopeEntry) (t : Bool) → nat_eq e.binding x ≡ t → (rest later : Option ScopeEntry) →
      ((binding_in rest ≡ Some x → ⊥) → (binding_in later ≡ Some x) ⊎ (later ≡ rest)) →
      (binding_in (cond (matches y h e) (Some e) rest) ≡ Some x → ⊥) →
      (binding_in (cond (matches y h (cond t (named e) e)) (Some (cond t (named e) e)) later)
      ≡ Some x) ⊎ (cond (matches y h (cond t (named e) e)) (Some (cond t (named e) e)) later
      ≡ cond (matches y h e) (Some e) rest)
  step y e true q rest later further differs = search (rules, own_step, eqb-true)
  step y e false q rest later further differs = other_step e (matches y h e) rest later further differs

  -- a name that didn't find the binding finds it, or what it found
  found_or : (y : List ℕ) (es : List ScopeEntry) → (binding_in (find_entry y h es) ≡ Some x → ⊥) →
      (binding_in (find_entry y h (map ren es)) ≡ Some x) ⊎ (find_entry y h (map ren es) ≡ find_entry y h es)
  found_or y [] differs = inr refl
  found_or y (e ∷ es) differs = step y e (nat_eq e.binding x) refl (find_entry y h es) (find_entry y h (map ren es)) (found_or y es) differs

  own_first : (y : List ℕ) (e : ScopeEntry) (later : Option ScopeEntry) → matches y h e ≡ true → e.binding ≡ x →
      (f : ScopeEntry) × (cond (matches n h (ren e)) (Some (ren e)) later ≡ Some f)
  own_first y e later m own =
      let both = (asked y h e).0 m in
      let changed : ren e ≡ named e = ap (λ (t : Bool). cond t (named e) e) (eq-eqb e.binding x own) in
      let found : matches n h (ren e) ≡ true = ap (matches n h) changed ∙ (asked n h (named e)).1 (both.0, refl) in
      (ren e, ap (λ (t : Bool). cond t (Some (ren e)) later) found)

  one_or : (e f : ScopeEntry) (t : Bool) (later : Option ScopeEntry) → later ≡ Some f → (g : ScopeEntry) × (cond t (Some e) later ≡ Some g)
  one_or e f true later is = (e, refl)
  one_or e f false later is = (f, is)

  -- the new name finds an entry where the old one found one of the binding
  found_own : (y : List ℕ) (es : List ScopeEntry) (o : ScopeEntry) → find_entry y h es ≡ Some o → o.binding ≡ x →
      (e : ScopeEntry) × (find_entry n h (map ren es) ≡ Some e)
  found_own y [] o is own = absurd cc
  found_own y (e ∷ es) o is own = at (matches y h e) refl is (λ q. found_own y es o q own) where
    at : (t : Bool) → matches y h e ≡ t → cond t (Some e) (find_entry y h es) ≡ Some o →
        (find_entry y h es ≡ Some o → (f : ScopeEntry) × (find_entry n h (map ren es) ≡ Some f)) →
        (f : ScopeEntry) × (cond (matches n h (ren e)) (Some (ren e)) (find_entry n h (map ren es)) ≡ Some f)
    at true m q further =
        let same : e ≡ o = cc in
        own_first y e (find_entry n h (map ren es)) m (ap (λ (z : ScopeEntry). z.binding) same ∙ own)
    at false m q further =
        let found = further q in
        one_or (ren e) found.0 (matches n h (ren e)) (find_entry n h (map ren es)) found.1

binding_told : (c : Contents) (o : Option ScopeEntry) (x : ℕ) → binding_of c o ≡ Some x → (e : ScopeEntry) × (o ≡ Some e) × (e.binding ≡ x)
binding_told c None x is = absurd cc
binding_told c (Some e) x is = search rules

binding_here : (c : Contents) (e : ScopeEntry) → nat_lt e.binding (length c.nodes.bindings) ≡ true → binding_of c (Some e) ≡ Some e.binding
binding_here c e l = ap (λ (t : Bool). cond t (Some e.binding) None) l

pub binding_some : (c : Contents) (o : Option ScopeEntry) (x : ℕ) → nat_lt x (length c.nodes.bindings) ≡ true →
    binding_in o ≡ Some x → binding_of c o ≡ Some x
binding_some c None x l is = absurd cc
binding_some c (Some e) x l is = search (rules, binding_here)

-- 3. A use that changes

is_own : (x : ℕ) (v : Usage) → resolves_to x v ≡ true → v.binding ≡ Some x
is_own x v q = search (rules, eqb-true)

pub is_other : (x : ℕ) (v : Usage) → resolves_to x v ≡ false → v.binding ≡ Some x → ⊥
is_other x v q e = search (rules, eq-eqb)

module _ (b : BodyContents) (x : ℕ) (n : List ℕ) (scopes : Scopes) (are : AreBodyScopes b scopes)
    (only : OneChain (renamed_body b scopes x n)) (in_range : nat_lt x (length b.store.nodes.bindings) ≡ true) where
  abbrev us : List Usage
  us = usages_of_body b scopes

  abbrev renamed : BodyContents
  renamed = renamed_body b scopes x n

  abbrev after : Usage → Option ℕ
  after v = resolved_after b.store scopes x n v

  module _ (v : Usage) (is : IsUse b scopes v) where
    abbrev h : SyntaxContext
    h = hygiene_of b.store.side_tables v.path

    abbrev es : List ScopeEntry
    es = entries_of (chain_at scopes v.expr)

    -- what it resolves to before, and after
    before_is : v.binding ≡ binding_of b.store (find_entry is.name h es)
    before_is = search (rules, for_along)

    finds : List ℕ → Option ScopeEntry
    finds y = find_entry y h (map (renamed_entry x n) es)

    along : (y : List ℕ) → name_after x n b.store.nodes v ≡ Some y → after v
        ≡ binding_of b.store (find_entry y h (map (renamed_entry x n) es))
    along y q = grind (arith, common_steps, entries_mapped (renamed_entry x n) (chain_at scopes v.expr))

    own_name : resolves_to x v ≡ true → name_after x n b.store.nodes v ≡ Some n
    own_name q = ap (λ (t : Bool). cond t (Some n) (name_at b.store.nodes v.path)) q

    other_name : resolves_to x v ≡ false → name_after x n b.store.nodes v ≡ Some is.name
    other_name q = ap (λ (t : Bool). cond t (Some n) (name_at b.store.nodes v.path)) q ∙ is.asks

    -- a use of the binding finds a binding
    own_finds : resolves_to x v ≡ true → (by : ℕ) × (after v ≡ Some by)
    own_finds q =
        let told = binding_told b.store (find_entry is.name h es) x (sym before_is ∙ is_own x v q) in
        let e = found_own x n h is.name es told.0 told.1 told.2 in
        let chain : Chain = renamed_chain x n (chain_at scopes v.expr) in
        let all : entries_of chain ≡ map (renamed_entry x n) es = entries_mapped (renamed_entry x n) (chain_at scopes v.expr) in
        let member = among n h (map (renamed_entry x n) es) e.0 e.1 in
        let low = entries_are_in_range renamed only v.expr chain (chain_after b x n scopes are v is) e.0
        (subst (λ (xs : List ScopeEntry). Contains xs e.0) (sym all) member) in
        let low_before : nat_lt e.0.binding (length b.store.nodes.bindings) ≡ true =
        ap (nat_lt e.0.binding) (sym (as_many b x n scopes)) ∙ low in
        (e.0.binding, along n (own_name q) ∙ (ap (binding_of b.store) e.1 ∙ binding_here b.store e.0 low_before))

    -- any other use that changes finds the binding
    other_finds : resolves_to x v ≡ false → (after v ≡ v.binding → ⊥) → after v ≡ Some x
    other_finds q changes =
        let differs : binding_in (find_entry is.name h es) ≡ Some x → ⊥ =
        λ found. is_other x v q (before_is ∙ binding_some b.store (find_entry is.name h es) x in_range found) in
        let now = along is.name (other_name q) in
        ⊎_elim
        (λ found. now ∙ binding_some b.store (find_entry is.name h (map (renamed_entry x n) es)) x in_range found)
        (λ same. absurd (changes (now ∙ (ap (binding_of b.store) same ∙ sym before_is))))
        (found_or x n h is.name es differs)

  abbrev IsFault : List Usage → RenameFault → Type 0
  IsFault vs fault = IsConflict renamed vs x fault

  abbrev Here : Usage → Type 0
  Here v = ResolvesTo renamed v.path v.expr (after v)

  first_here : (v : Usage) (vs : List Usage) (found : Option ℕ) → Here v → after v ≡ found → (found ≡ v.binding → ⊥) →
      IsFirstChange renamed (v ∷ vs) v found
  first_here v vs found to is differs = record {
    before = [];
    after = vs;
    is_among = refl;
    kept_before = All-from_recursion (Keeps renamed) [] tt;
    resolves = subst (ResolvesTo renamed v.path v.expr) is to;
    differs = differs;
  }

  -- the conflict at a use is one
  conflict_here : (v : Usage) (vs : List Usage) → IsUse b scopes v → Here v → (after v ≡ v.binding → ⊥) → (t : Bool) →
      resolves_to x v ≡ t → IsFault (v ∷ vs) (conflict_of v t (after v))
  conflict_here v vs is to changes true q =
      let by = own_finds v is q in
      let own = is_own x v q in
      subst (λ (o : Option ℕ). IsFault (v ∷ vs) (conflict_of v true o)) (sym by.1)
      (hidden {usage = v} {by = by.0} own (first_here v vs (Some by.0) to by.1 (λ same. changes (by.1 ∙ same))))
  conflict_here v vs is to changes false q =
      let found = other_finds v is q changes in
      subst (λ (o : Option ℕ). IsFault (v ∷ vs) (conflict_of v false o)) (sym found)
      (captures {usage = v} (first_here v vs (Some x) to found (λ same. changes (found ∙ same))))

  -- a conflict later is one where the use before it keeps
  later_change : (v : Usage) (vs : List Usage) (w : Usage) (found : Option ℕ) → Keeps renamed v →
      IsFirstChange renamed vs w found → IsFirstChange renamed (v ∷ vs) w found
  later_change v vs w found keeps first = record {
    before = v ∷ first.before;
    after = first.after;
    is_among = ap (λ (xs : List Usage). v ∷ xs) first.is_among;
    kept_before = All-from_recursion (Keeps renamed) (v ∷ first.before)
        (keeps, recursion_from_All (Keeps renamed) first.before first.kept_before);
    resolves = first.resolves;
    differs = first.differs;
  }

  conflict_later : (v : Usage) (vs : List Usage) (fault : RenameFault) → Keeps renamed v → IsFault vs fault → IsFault (v ∷ vs) fault
  conflict_later v vs fault keeps (hidden {usage = w} {by = by} own first) =
      hidden {usage = w} {by = by} own (later_change v vs w (Some by) keeps first)
  conflict_later v vs fault keeps (captures {usage = w} first) = captures {usage = w} (later_change v vs w (Some x) keeps first)

  module _ (one : (n m k : NodeId) → Contains (children_of b.store.nodes n) k →
      Contains (children_of b.store.nodes m) k → n ≡ m) (all : AreUses b scopes us) where
    to_after : (v : Usage) → Contains us v → IsUse b scopes v → Here v
    to_after v m is = resolves_after b x n scopes are one all v m is

    -- the first conflict of some uses is one
    first_is : (vs : List Usage) → AreUses b scopes vs → ((v : Usage) → Contains vs v → Contains us v) →
        (fault : RenameFault) → first_conflict b.store scopes x n vs ≡ Some fault → IsFault vs fault
    first_is [] uses within fault h = absurd cc
    first_is (v ∷ vs) uses within fault h =
        at (is_same (after v) v.binding) refl h (to_after v (within v (0, omega arith, refl)) uses.0)
        (first_is vs uses.1 (λ w m. within w (suc m.0, omega (arith, m.1), m.2)) fault) where
          at : (t : Bool) → is_same (after v) v.binding ≡ t →
              option_or (cond t None (Some (conflict_of v (resolves_to x v) (after v))))
              (first_conflict b.store scopes x n vs) ≡ Some fault →
              Here v → (first_conflict b.store scopes x n vs ≡ Some fault → IsFault vs fault) → IsFault (v ∷ vs) fault
          at true e q to further = search (rules, same_decides, conflict_later)
          at false e q to further = search (rules, same_decides, conflict_here)

    -- without a conflict each keeps
    all_keep : (vs : List Usage) → AreUses b scopes vs → ((v : Usage) → Contains vs v → Contains us v) →
        AllByRecursion (λ (v : Usage). after v ≡ v.binding) vs → AllByRecursion (Keeps renamed) vs
    all_keep [] uses within kept = tt
    all_keep (v ∷ vs) uses within kept = (
      subst (ResolvesTo renamed v.path v.expr) kept.0 (to_after v (within v (0, omega arith, refl)) uses.0),
      all_keep vs uses.1 (λ w m. within w (suc m.0, omega (arith, m.1), m.2)) kept.1,
    )

    -- what keeps has no conflict: each chain is the only one
    keeps_after : (v : Usage) → Contains us v → IsUse b scopes v → Keeps renamed v → after v ≡ v.binding
    keeps_after v m is keeps =
        let to = to_after v m is in
        let same : to.frames ≡ keeps.frames = only v.expr to.frames keeps.frames to.are_around keeps.are_around in
        sym to.is
        ∙ (ap (λ (c : Chain). resolve_along renamed.store c (hygiene_of renamed.store.side_tables v.path)
        (name_at renamed.store.nodes v.path)) same ∙ keeps.is)

    all_after : (vs : List Usage) → AreUses b scopes vs → ((v : Usage) → Contains vs v → Contains us v) →
        AllByRecursion (Keeps renamed) vs → AllByRecursion (λ (v : Usage). after v ≡ v.binding) vs
    all_after [] uses within keeps = tt
    all_after (v ∷ vs) uses within keeps = (
      keeps_after v (within v (0, omega arith, refl)) uses.0 keeps.0,
      all_after vs uses.1 (λ w m. within w (suc m.0, omega (arith, m.1), m.2)) keeps.1,
    )

-- 4. A binding may have a name exactly where there is no fault, and a fault says why not.

-- a binding that isn't refused exists
pub bound_in_range : (b : BodyContents) (scopes : Scopes) (x : ℕ) (n : List ℕ) → refusal b scopes x n ≡ None →
    x < length b.store.nodes.bindings
bound_in_range b scopes x n none = search (rules, slice_get_within)

module _ (b : BodyContents) (x : ℕ) (n : List ℕ) (scopes : Scopes) (are : AreBodyScopes b scopes)
    (fall : RankDecreases b.store.nodes) (one : (m k j : NodeId) → Contains (children_of b.store.nodes m) j →
    Contains (children_of b.store.nodes k) j → m ≡ k) (only : OneChain (renamed_body b scopes x n)) where
  abbrev body_uses : List Usage
  body_uses = usages_of_body b scopes

  in_range_of : refusal b scopes x n ≡ None → nat_lt x (length b.store.nodes.bindings) ≡ true
  in_range_of none = lt-ltb x (length b.store.nodes.bindings) (bound_in_range b scopes x n none)

  may_be : refusal b scopes x n ≡ None → first_conflict b.store scopes x n body_uses ≡ None → MayBeRenamed b scopes x n
  may_be none free = record {
    accepted = none;
    keeps =
        All-from_recursion (Keeps (renamed_body b scopes x n)) body_uses
        (all_keep b x n scopes are only (in_range_of none) one (all_uses b scopes fall) body_uses (all_uses b scopes fall) (λ v m. m)
        (recursion_from_All (λ (v : Usage). resolved_after b.store scopes x n v ≡ v.binding) body_uses
        ((kept_exactly b.store scopes x n body_uses).0 free)));
  }

  no_conflict : MayBeRenamed b scopes x n → first_conflict b.store scopes x n body_uses ≡ None
  no_conflict may =
      (kept_exactly b.store scopes x n body_uses).1
      (All-from_recursion (λ (v : Usage). resolved_after b.store scopes x n v ≡ v.binding) body_uses
      (all_after b x n scopes are only (in_range_of may.accepted) one (all_uses b scopes fall) body_uses (all_uses b scopes fall) (λ v m. m)
      (recursion_from_All (Keeps (renamed_body b scopes x n)) body_uses may.keeps)))

  may_be_where : rename_fault b scopes x n ≡ None → MayBeRenamed b scopes x n
  may_be_where none = search (rules, may_be)

  pub no_fault_exactly : (rename_fault b scopes x n ≡ None) ↔ MayBeRenamed b scopes x n
  no_fault_exactly = search (rules, may_be_where, no_conflict)

  pub fault_is_why : (fault : RenameFault) → rename_fault b scopes x n ≡ Some fault → IsWhyNot b scopes x n fault
  fault_is_why fault is = at (refusal b scopes x n) refl is where
    at : (o : Option RenameFault) → refusal b scopes x n ≡ o →
        option_or o (first_conflict b.store scopes x n body_uses) ≡ Some fault → IsWhyNot b scopes x n fault
    at None e h =
        conflict {fault = fault} e
        (first_is b x n scopes are only (in_range_of e) one (all_uses b scopes fall) body_uses
        (all_uses b scopes fall) (λ v m. m) fault h)
    at (Some found) e h = refused {fault = fault} (e ∙ h)

-- what each use has is what it resolves to along the frames around it
each_kept : (b : BodyContents) (scopes : Scopes) → AreBodyScopes b scopes → (us : List Usage) → AreUses b scopes us →
    AllByRecursion (Keeps b) us
each_kept b scopes are [] uses = tt
each_kept b scopes are (v ∷ vs) uses = (
  subst (ResolvesTo b v.path v.expr) (sym uses.0.resolves)
      (by_frames b scopes are b.store.nodes v.path v.expr uses.0.asks_at uses.0.reached),
  each_kept b scopes are vs uses.1,
)

pub uses_keep : (b : BodyContents) (scopes : Scopes) → AreBodyScopes b scopes → RankDecreases b.store.nodes →
    All (Keeps b) (usages_of_body b scopes)
uses_keep b scopes are fall = search (rules, All-from_recursion, each_kept, all_uses)

-- by scopes that were made anew of the renamed body each use resolves to what it resolves to along its frames
module _ (b : BodyContents) (x : ℕ) (n : List ℕ) (scopes later : Scopes)
    (are_later : AreBodyScopes (renamed_body b scopes x n) later) (fall : RankDecreases b.store.nodes)
    (only : OneChain (renamed_body b scopes x n)) where
  by_later : (us : List Usage) → AreUses b scopes us → AllByRecursion (Keeps (renamed_body b scopes x n)) us →
      AllByRecursion (λ (v : Usage). binding_for (renamed_body b scopes x n).store later v.path v.expr ≡ v.binding) us
  by_later [] uses keeps = tt
  by_later (v ∷ vs) uses keeps = (
    by_scopes (renamed_body b scopes x n) later are_later only b.store.nodes v.path v.expr v.binding uses.0.asks_at
        (reaches_after b x n scopes (NodeId.Expr v.expr) uses.0.reached) keeps.0,
    by_later vs uses.1 keeps.1,
  )

  pub all_by_later : All (Keeps (renamed_body b scopes x n)) (usages_of_body b scopes) →
      All (λ (v : Usage). binding_for (renamed_body b scopes x n).store later v.path v.expr ≡ v.binding) (usages_of_body b scopes)
  all_by_later keeps = search (rules, All-from_recursion, by_later, all_uses, recursion_from_All)
