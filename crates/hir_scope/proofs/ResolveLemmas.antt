-- What a name resolves to, also through macros.
use Rattle.std.proofs.Common.{◌≡◌, ℕ, suc, Bool, true, false, cond, List, [], ◌∷◌, ◌++◌, Option, Some, None, refl, ap, sym, rules}
use Rattle.std.proofs.Common.{◌∙◌, arith, append_assoc}
use Rattle.std.proofs.lemmas.{List.append-nil, List.Concat.flat_map-append}
use Rattle.std.proofs.lemmas.List.Elements.{Contains-append_left, Contains-append_right, Contains-push}
use Rattle.std.specs.{List.slice_get, List.flat_map, Option.option_or}
use Rattle.std.specs.Prelude.{option_map, Contains, IfSome}
use Rattle.hir_base.specs.declared.hygiene.SyntaxContext.{SyntaxContext}
use Rattle.hir_validate.proofs.SoundLemmas.{item_at}
use Rattle.hir_scope.specs.{Frames.Chain, Macros.outward, Macros.resolve_through}
use Rattle.hir_scope.specs.Paths.{path, frame_at, chain}
use Rattle.hir_scope.specs.Resolution.{matches, find_entry, entries_of, resolve, IsFound}
use Rattle.hir_scope.specs.Scopes.{Scope, IsBelow, ScopeIsInRange, ParentsStandEarlier, frame_of, macro_def_of}
use Rattle.hir_scope.specs.declared.{macros.Expansion.Expansion, scope.ScopeEntry.ScopeEntry}
use Rattle.hir_scope.proofs.PathLemmas.{path_step, weaker}
use Rattle.std.proofs.lemmas.Grind.{common_steps}

-- 1. A name is looked for scope by scope, from one scope outward: what is found is what the name resolves to
-- along the chain.

-- what a function tells of the scope that exists
pub of_some_scope : {X : Type 0} (f : Scope → X) (o : Option Scope) (x : X) → option_map f o ≡ Some x →
    (s : Scope) × (o ≡ Some s) × (f s ≡ x)
of_some_scope f None x e = absurd cc
of_some_scope f (Some s) x e = (s, refl, cc)

-- The way outward

-- the path of a scope by its parent
pub path_of_parent : (scopes : List Scope) (s : ℕ) (parent : Option ℕ) → ParentsStandEarlier scopes →
    option_map (λ (x : Scope). x.parent) (slice_get scopes s) ≡ Some parent → path scopes (Some s)
    ≡ s ∷ path scopes parent
path_of_parent scopes s parent earlier e = search (rules, of_some_scope, path_step)

-- how far the way outward may still go
abbrev pub ways : Option ℕ → ℕ
ways None = 0
ways (Some s) = suc s

-- a parent comes earlier
pub parent_earlier : (scopes : List Scope) (s : ℕ) (parent : Option ℕ) → ParentsStandEarlier scopes →
    option_map (λ (x : Scope). x.parent) (slice_get scopes s) ≡ Some parent → IsBelow s parent
parent_earlier scopes s parent earlier p = search (rules, of_some_scope)

-- What a name resolves to along a chain in two parts

module _ (n : List ℕ) (h : SyntaxContext) where
  first_append : (xs ys : List ScopeEntry) → find_entry n h (xs ++ ys) ≡ option_or (find_entry n h xs) (find_entry n h ys)
  first_append [] ys = refl
  first_append (x ∷ xs) ys = search (rules, first_append xs ys)

  pub resolve_append : (xs ys : Chain) → resolve (xs ++ ys) n h ≡ option_or (resolve xs n h) (resolve ys n h)
  resolve_append xs ys = search (rules, flat_map-append, first_append)

  -- what a name resolves to in the entries of a scope
  resolve_here : (scopes : List Scope) (s : ℕ) (es : List ScopeEntry) →
      option_map (λ (x : Scope). x.entries) (slice_get scopes s) ≡ Some es → resolve (frame_at scopes s) n h
      ≡ find_entry n h es
  resolve_here scopes s es e = search (rules, of_some_scope, append-nil)

-- The search

-- it has come to a scope, or past the outermost: none before has such an entry
pub record OnTheWay (scopes : List Scope) (from : ℕ) (n : List ℕ) (h : SyntaxContext) (current : Option ℕ) : Type 0 where
  pub within : ScopeIsInRange scopes current
  pub before : List ℕ
  pub on_the_way : path scopes (Some from) ≡ before ++ path scopes current
  pub none_before : resolve (flat_map (frame_at scopes) before) n h ≡ None

module _ (scopes : List Scope) (from : ℕ) (n : List ℕ) (h : SyntaxContext) where
  module _ (s : ℕ) (w : OnTheWay scopes from n h (Some s)) (es : List ScopeEntry)
      (e : option_map (λ (x : Scope). x.entries) (slice_get scopes s) ≡ Some es) where
    -- a scope that has none is passed
    pub go_outward : (parent : Option ℕ) → ParentsStandEarlier scopes →
        option_map (λ (x : Scope). x.parent) (slice_get scopes s) ≡ Some parent → find_entry n h es ≡ None →
        OnTheWay scopes from n h parent
    go_outward parent earlier p none =
        grind (
          arith,
          common_steps,
          weaker,
          parent_earlier scopes s parent earlier p,
          path_of_parent scopes s parent earlier p,
          append_assoc w.before (s ∷ []) (path scopes parent),
          flat_map-append (frame_at scopes) w.before (s ∷ []),
          resolve_append,
          append-nil (frame_at scopes s),
          resolve_here n h scopes s es e,
        )

-- what is found is what the name resolves to
pub found_resolves : (scopes : List Scope) → ParentsStandEarlier scopes →
    (from : ℕ) (n : List ℕ) (h : SyntaxContext) (s : ℕ) (entry : ScopeEntry) → IsFound scopes from n h s entry →
    resolve (chain scopes (Some from)) n h ≡ Some entry
found_resolves scopes earlier from n h s entry f =
    let x = item_at scopes s f.in_range in
    let outer = flat_map (frame_at scopes) (path scopes x.0.parent) in
    ap (λ (ids : List ℕ). resolve (flat_map (frame_at scopes) ids) n h)
    (f.on_the_way ∙ ap (λ (ids : List ℕ). f.before ++ ids) (path_step scopes s x.0 earlier x.1))
    ∙ (ap (λ (c : Chain). resolve c n h) (flat_map-append (frame_at scopes) f.before (s ∷ path scopes x.0.parent))
    ∙ (resolve_append n h (flat_map (frame_at scopes) f.before) (frame_at scopes s ++ outer)
    ∙ (ap (λ (o : Option ScopeEntry). option_or o (resolve (frame_at scopes s ++ outer) n h)) f.none_before
    ∙ (resolve_append n h (frame_at scopes s) outer
    ∙ ap (λ (o : Option ScopeEntry). option_or o (resolve outer n h)) f.is_first))))

-- 2. A name's meaning through the definitions of macros: that among the scope's entries, and where there is none that outward of it.

-- the chain of a scope by its parent
chain_of_parent : (scopes : List Scope) (s : ℕ) (parent : Option ℕ) (x : Scope) → ParentsStandEarlier scopes →
    option_map (λ (y : Scope). y.parent) (slice_get scopes s) ≡ Some parent →
    slice_get scopes s ≡ Some x → chain scopes (Some s) ≡ frame_of x ∷ chain scopes parent
chain_of_parent scopes s parent x earlier p e = search (rules, path_of_parent)

-- a scope without such an entry is passed by
pub through_outward : (from : SyntaxContext → Option Expansion) (scopes : List Scope) (s : ℕ) (parent : Option ℕ)
    (es : List ScopeEntry) (id : Option ℕ) (n : List ℕ) (h : SyntaxContext) →
    ParentsStandEarlier scopes → option_map (λ (x : Scope). x.parent) (slice_get scopes s) ≡ Some parent →
    option_map (λ (x : Scope). x.entries) (slice_get scopes s) ≡ Some es →
    option_map (λ (x : Scope). macro_def_of x.kind) (slice_get scopes s) ≡ Some id → None ≡ find_entry n h es →
    resolve_through from (chain scopes parent) n (outward id (from h) h) ≡ resolve_through from (chain scopes (Some s)) n h
through_outward from scopes s parent es id n h earlier p e m none = search (rules, of_some_scope, chain_of_parent)

-- the first such entry of a scope is what is meant
pub through_found : (from : SyntaxContext → Option Expansion) (scopes : List Scope) (s : ℕ) (parent : Option ℕ)
    (es : List ScopeEntry) (found : ScopeEntry) (n : List ℕ) (h : SyntaxContext) →
    ParentsStandEarlier scopes → option_map (λ (x : Scope). x.parent) (slice_get scopes s) ≡ Some parent →
    option_map (λ (x : Scope). x.entries) (slice_get scopes s) ≡ Some es →
    Some found ≡ find_entry n h es → Some found ≡ resolve_through from (chain scopes (Some s)) n h
through_found from scopes s parent es found n h earlier p e is =
    let x = of_some_scope (λ (x : Scope). x.entries) (slice_get scopes s) es e in
    let outer : Option ScopeEntry = resolve_through from (chain scopes parent) n (outward (macro_def_of x.0.kind) (from h) h) in
    ap (λ (o : Option ScopeEntry). option_or o outer) (is ∙ ap (find_entry n h) (sym x.2))
    ∙ ap (λ (c : Chain). resolve_through from c n h) (sym (chain_of_parent scopes s parent x.0 earlier p x.1))

-- a hygiene that comes from no known expansion stays
stays : (id : Option ℕ) (h : SyntaxContext) → outward id None h ≡ h
stays None h = refl
stays (Some id) h = refl

-- where the hygiene comes from no known expansion, it is resolution
pub through_nothing : (from : SyntaxContext → Option Expansion) (chain : Chain) (n : List ℕ) (h : SyntaxContext) →
    from h ≡ None → resolve_through from chain n h ≡ resolve chain n h
through_nothing from [] n h e = refl
through_nothing from (frame ∷ outer) n h e = search (rules, stays, first_append, through_nothing from outer n h e)

first_is_among : (n : List ℕ) (h : SyntaxContext) (xs : List ScopeEntry) → IfSome (find_entry n h xs) (Contains xs)
first_is_among n h [] = tt
first_is_among n h (x ∷ xs) = at (matches n h x) (find_entry n h xs) (first_is_among n h xs) where
  at : (b : Bool) (o : Option ScopeEntry) → IfSome o (Contains xs) → IfSome (cond b (Some x) o) (Contains (x ∷ xs))
  at true o i = Contains-append_left (x ∷ []) xs x (Contains-push [] x)
  at false None i = tt
  at false (Some y) i = Contains-append_right (x ∷ []) xs y i

-- what is found is an entry of the chain
pub through_is_among : (from : SyntaxContext → Option Expansion) (chain : Chain) (n : List ℕ) (h : SyntaxContext) →
    IfSome (resolve_through from chain n h) (Contains (entries_of chain))
through_is_among from [] n h = tt
through_is_among from (frame ∷ outer) n h =
    let beyond = outward (macro_def_of frame.kind) (from h) h in
    at (find_entry n h frame.entries) (resolve_through from outer n beyond) (first_is_among n h frame.entries)
    (through_is_among from outer n beyond) where
      at : (o p : Option ScopeEntry) → IfSome o (Contains frame.entries) → IfSome p (Contains (entries_of outer)) →
          IfSome (option_or o p) (Contains (frame.entries ++ entries_of outer))
      at None None i j = tt
      at None (Some y) i j = Contains-append_right frame.entries (entries_of outer) y j
      at (Some x) p i j = Contains-append_left frame.entries (entries_of outer) x i
