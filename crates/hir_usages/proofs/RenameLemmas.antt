-- What a name resolves to before and after a rename, scope by scope.
use Rattle.std.proofs.Common.{◌≡◌, ℕ, Bool, true, false, cond, List, [], ◌∷◌, ◌++◌, Option, Some, None, refl, ap, sym, ◌∙◌, map, ◌+◌, rules, arith}
use Rattle.std.proofs.Common.{zero, suc, drop, add-one}
use Rattle.std.proofs.lemmas.{List.append-nil, List.Concat.flat_map-append}
use Rattle.std.specs.{List.slice_get, List.list_any, Option.option_or, Prelude.◌||◌}
use Rattle.std.specs.Prelude.{option_map}
use Rattle.hir_base.specs.declared.hygiene.SyntaxContext.{SyntaxContext}
use Rattle.hir_scope.specs.{Frames.Chain}
use Rattle.hir_scope.specs.Paths.{path, chain}
use Rattle.hir_scope.specs.Resolution.{find_entry, resolve}
use Rattle.hir_scope.specs.Scopes.{Scope, frame_of}
use Rattle.hir_scope.specs.declared.scope.ScopeEntry.{ScopeEntry}
use Rattle.hir_usages.specs.Renames.{first_some, has_entry, other_among, other_of, renamed_entry, renamed_chain}
use Rattle.std.proofs.lemmas.Grind.{common_steps}

-- the binding of an entry that was found
abbrev pub binding_in : Option ScopeEntry → Option ℕ
binding_in o = option_map (λ (e : ScopeEntry). e.binding) o

or_found : (o p : Option ScopeEntry) (x : ℕ) → binding_in o ≡ Some x → binding_in (option_or o p) ≡ Some x
or_found None p x e = absurd cc
or_found (Some y) p x e = e

or_not_found : (o p : Option ScopeEntry) → binding_in o ≡ None → binding_in (option_or o p) ≡ binding_in p
or_not_found None p e = refl
or_not_found (Some y) p e = absurd cc

-- what a function tells of the scope that exists
pub of_some_scope : {X : Type 0} (f : Scope → X) (o : Option Scope) (x : X) → option_map f o ≡ Some x →
    (s : Scope) × (o ≡ Some s) × (f s ≡ x)
of_some_scope f None x e = absurd cc
of_some_scope f (Some s) x e = (s, refl, cc)

-- how far the way outward may still go
abbrev pub ways : Option ℕ → ℕ
ways None = 0
ways (Some s) = suc s

-- the path of a scope is the scope, and then the path of its parent
abbrev pub GoesOutward : List Scope → Type 0
GoesOutward scopes = (s : ℕ) (x : Scope) → slice_get scopes s ≡ Some x → path scopes (Some s) ≡ s ∷ path scopes x.parent

path_of_parent : (scopes : List Scope) (s : ℕ) (parent : Option ℕ) → GoesOutward scopes →
    option_map (λ (x : Scope). x.parent) (slice_get scopes s) ≡ Some parent → path scopes (Some s)
    ≡ s ∷ path scopes parent
path_of_parent scopes s parent outward e = search (rules, of_some_scope)

-- what a name resolves to along a chain in two parts
module _ (n : List ℕ) (h : SyntaxContext) where
  or_later : (t : Bool) (x : ScopeEntry) (r s p : Option ScopeEntry) → r ≡ option_or s p → cond t (Some x) r
      ≡ option_or (cond t (Some x) s) p
  or_later true x r s p e = refl
  or_later false x r s p e = e

  first_append : (xs ys : List ScopeEntry) → find_entry n h (xs ++ ys) ≡ option_or (find_entry n h xs) (find_entry n h ys)
  first_append [] ys = refl
  first_append (x ∷ xs) ys = search (rules, or_later, first_append xs ys)

  resolve_append : (xs ys : Chain) → resolve (xs ++ ys) n h ≡ option_or (resolve xs n h) (resolve ys n h)
  resolve_append xs ys = search (rules, flat_map-append, first_append)

-- the chain of a scope is its frame on the chain of its parent
pub chain_step : (scopes : List Scope) (s : ℕ) (parent : Option ℕ) (x : Scope) → GoesOutward scopes →
    option_map (λ (y : Scope). y.parent) (slice_get scopes s) ≡ Some parent → slice_get scopes s ≡ Some x →
    chain scopes (Some s) ≡ frame_of x ∷ chain scopes parent
chain_step scopes s parent x outward p is = search (rules, path_of_parent)

-- before a rename
module _ (scopes : List Scope) (name : List ℕ) (h : SyntaxContext) where
  -- what the name resolves to in a scope, if any
  abbrev pub found_in : Option ℕ → Option ℕ
  found_in s = binding_in (resolve (chain scopes s) name h)

  module _ (s : ℕ) (parent : Option ℕ) (es : List ScopeEntry) (outward : GoesOutward scopes)
      (p : option_map (λ (x : Scope). x.parent) (slice_get scopes s) ≡ Some parent)
      (e : option_map (λ (x : Scope). x.entries) (slice_get scopes s) ≡ Some es) where
    abbrev first : Option ScopeEntry
    first = find_entry name h es

    -- the entries of the scope come first
    first_or_outer : resolve (chain scopes (Some s)) name h ≡ option_or first (resolve (chain scopes parent) name h)
    first_or_outer = search (rules, of_some_scope, append-nil, chain_step, resolve_append)

    pub found_first : (x : ℕ) → binding_in first ≡ Some x → found_in (Some s) ≡ Some x
    found_first x is = ap binding_in first_or_outer ∙ or_found first (resolve (chain scopes parent) name h) x is

    pub found_outside : binding_in first ≡ None → found_in parent ≡ found_in (Some s)
    found_outside is = sym (ap binding_in first_or_outer ∙ or_not_found first (resolve (chain scopes parent) name h) is)

-- after it
module _ (scopes : List Scope) (b : ℕ) (new name : List ℕ) (h : SyntaxContext) where
  -- what the name resolves to in a scope, if any
  abbrev pub found_from : Option ℕ → Option ℕ
  found_from s = binding_in (resolve (renamed_chain b new (chain scopes s)) name h)

  module _ (s : ℕ) (parent : Option ℕ) (es : List ScopeEntry) (outward : GoesOutward scopes)
      (p : option_map (λ (x : Scope). x.parent) (slice_get scopes s) ≡ Some parent)
      (e : option_map (λ (x : Scope). x.entries) (slice_get scopes s) ≡ Some es) where
    abbrev here : Option ScopeEntry
    here = find_entry name h (map (renamed_entry b new) es)

    -- the entries of the scope come first
    in_parts : resolve (renamed_chain b new (chain scopes (Some s))) name h
        ≡ option_or here (resolve (renamed_chain b new (chain scopes parent)) name h)
    in_parts = grind (arith, common_steps, of_some_scope, chain_step, append-nil, resolve_append)

    pub found_here : (x : ℕ) → binding_in here ≡ Some x → found_from (Some s) ≡ Some x
    found_here x is = ap binding_in in_parts ∙ or_found here (resolve (renamed_chain b new (chain scopes parent)) name h) x is

    pub passed_by : binding_in here ≡ None → found_from parent ≡ found_from (Some s)
    passed_by is = sym (ap binding_in in_parts ∙ or_not_found here (resolve (renamed_chain b new (chain scopes parent)) name h) is)

-- 2. All scopes, one after the other.

split_drop : (scopes : List Scope) (i : ℕ) (x : Scope) → slice_get scopes i ≡ Some x → drop i scopes ≡ x ∷ drop (suc i) scopes
split_drop [] i x is = absurd cc
split_drop (y ∷ ys) zero x is = let same : y ≡ x = cc in ap (λ (z : Scope). z ∷ ys) same
split_drop (y ∷ ys) (suc i) x is = split_drop ys i x is

module _ (scopes : List Scope) (i : ℕ) (es : List ScopeEntry)
    (e : option_map (λ (x : Scope). x.entries) (slice_get scopes i) ≡ Some es) where
  pub any_step : (b : ℕ) → list_any (λ (s : Scope). has_entry b s.entries) (drop i scopes)
      ≡ (has_entry b es || list_any (λ (s : Scope). has_entry b s.entries) (drop (i + 1) scopes))
  any_step b = search (rules, of_some_scope, split_drop, add-one)

  pub beside_step : (b : ℕ) (n : List ℕ) (h : SyntaxContext) →
      first_some (λ (s : Scope). other_among b n h s.entries) (drop i scopes)
      ≡ option_or (other_among b n h es)
      (first_some (λ (s : Scope). other_among b n h s.entries) (drop (i + 1) scopes))
  beside_step b n h = search (rules, of_some_scope, split_drop, add-one)

  -- a scope has an entry of the binding, or the later ones decide
  module _ (b : ℕ) (before : list_any (λ (s : Scope). has_entry b s.entries) (drop i scopes)
      ≡ list_any (λ (s : Scope). has_entry b s.entries) scopes) where
    abbrev pub in_later : Bool
    in_later = list_any (λ (s : Scope). has_entry b s.entries) (drop (i + 1) scopes)

    bound_as : (t : Bool) → has_entry b es ≡ t → (t || in_later) ≡ list_any (λ (s : Scope). has_entry b s.entries) scopes
    bound_as t is = ap (λ (u : Bool). u || in_later) (sym is) ∙ (sym (any_step b) ∙ before)

    pub bound_here : has_entry b es ≡ true → true ≡ list_any (λ (s : Scope). has_entry b s.entries) scopes
    bound_here is = bound_as true is

    pub bound_later : has_entry b es ≡ false → in_later ≡ list_any (λ (s : Scope). has_entry b s.entries) scopes
    bound_later is = bound_as false is

  -- a scope has another binding beside the binding, or the later ones decide
  module _ (b : ℕ) (n : List ℕ) (h : SyntaxContext)
      (before : first_some (λ (s : Scope). other_among b n h s.entries) (drop i scopes)
      ≡ first_some (λ (s : Scope). other_among b n h s.entries) scopes) where
    abbrev pub other_later : Option ℕ
    other_later = first_some (λ (s : Scope). other_among b n h s.entries) (drop (i + 1) scopes)

    pub beside_as : (t : Bool) (o : Option ℕ) → has_entry b es ≡ t → cond t (first_some (other_of b n h) es) None ≡ o →
        option_or o other_later ≡ first_some (λ (s : Scope). other_among b n h s.entries) scopes
    beside_as t o has is =
        ap (λ (p : Option ℕ). option_or p other_later)
        (sym (ap (λ (u : Bool). cond u (first_some (other_of b n h) es) None) has ∙ is))
        ∙ (sym (beside_step b n h) ∙ before)
