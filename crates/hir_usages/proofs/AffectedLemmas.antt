-- A use that is none of the binding and doesn't ask for the new name resolves to what it resolved to before: what a
-- rename may change is among the others.
use Rattle.std.proofs.Common.{◌≡◌, ℕ, List, [], ◌∷◌, Option, Some, None, Bool, true, false, cond, map, refl, ap, length, nat_eq, rules, arith}
use Rattle.std.proofs.lemmas.Bool.{eqb-true, lt-ltb}
use Rattle.std.specs.Prelude.{nat_lt, ◌<◌, ◌||◌, ◌&&◌}
use Rattle.hir_base.specs.contracts.hygiene.HygieneIdPartialEq.TheImpl as hygienes
use Rattle.hir_base.specs.contracts.name.NamePartialEq.TheImpl as names
use Rattle.hir_base.specs.declared.hygiene.SyntaxContext.{SyntaxContext}
use Rattle.hir_validate.specs.Recursion.{RankDecreases}
use Rattle.hir_store_core.specs.{SideTables.hygiene_of}
use Rattle.hir_body.specs.Bodies.{BodyContents}
use Rattle.hir_scope.specs.{PathResolution.binding_of, Resolution.matches, Resolution.find_entry, Resolution.entries_of, Scopes.Scopes}
use Rattle.hir_scope.specs.declared.scope.ScopeEntry.{ScopeEntry}
use Rattle.hir_validate.specs.declared.node_arenas.Nodes.{Nodes}
use Rattle.hir_usages.specs.Usages.{usages_of_body, usages_of, resolves_to}
use Rattle.hir_usages.specs.Renames.{conflict_of, conflict_at, first_conflict, name_at, renamed_entry}
use Rattle.hir_usages.specs.Renames.{chain_at, resolved_after}
use Rattle.hir_usages.specs.{declared.rename_fault.RenameFault.RenameFault, declared.usage.Usage.Usage}
use Rattle.hir_usages.specs.internal.Wanted.{asks_for, affected_among, wanted_among}
use Rattle.hir_usages.specs.declared.walk.Wanted.{Wanted}
use Rattle.hir_usages.proofs.KeptLemmas.{same_decides}
use Rattle.hir_usages.proofs.{RenameLemmas.binding_in, UseLemmas.IsUse, UseLemmas.AreUses, UseLemmas.all_uses, UseLemmas.for_along}
use Rattle.hir_usages.proofs.ConflictLemmas.{entries_mapped, binding_some, is_other}
use Rattle.std.proofs.lemmas.Grind.{common_steps}

-- 1. All uses

pub all_wanted : (s : Nodes) (us : List Usage) → wanted_among Wanted.All s us ≡ us
all_wanted s [] = refl
all_wanted s (u ∷ us) = ap (λ (vs : List Usage). u ∷ vs) (all_wanted s us)

-- 2. Another name finds what it found

and_false : (s t : Bool) → t ≡ false → (s && t) ≡ false
and_false true t e = e
and_false false t e = refl

or_false : (s t : Bool) → (s || t) ≡ false → (s ≡ false) × (t ≡ false)
or_false true t e = absurd cc
or_false false t e = (refl, e)

module _ (x : ℕ) (n : List ℕ) (h : SyntaxContext) where
  abbrev named : ScopeEntry → ScopeEntry
  named e = record e { name = n }

  own_kept : (e : ScopeEntry) (m w : Bool) (rest later : Option ScopeEntry) → w ≡ false → e.binding ≡ x →
      ((binding_in rest ≡ Some x → ⊥) → later ≡ rest) → (binding_in (cond m (Some e) rest) ≡ Some x → ⊥) →
      cond w (Some (named e)) later ≡ cond m (Some e) rest
  own_kept e true w rest later misses own further differs = absurd (differs (ap (λ (k : ℕ). Some k) own))
  own_kept e false true rest later misses own further differs = absurd cc
  own_kept e false false rest later misses own further differs = further differs

  other_kept : (e : ScopeEntry) (m : Bool) (rest later : Option ScopeEntry) →
      ((binding_in rest ≡ Some x → ⊥) → later ≡ rest) → (binding_in (cond m (Some e) rest) ≡ Some x → ⊥) →
      cond m (Some e) later ≡ cond m (Some e) rest
  other_kept e true rest later further differs = refl
  other_kept e false rest later further differs = further differs

  step : (y : List ℕ) (e : ScopeEntry) (t : Bool) → nat_eq e.binding x ≡ t → matches y h (named e) ≡ false →
      (rest later : Option ScopeEntry) → ((binding_in rest ≡ Some x → ⊥) → later ≡ rest) →
      (binding_in (cond (matches y h e) (Some e) rest) ≡ Some x → ⊥) →
      cond (matches y h (cond t (named e) e)) (Some (cond t (named e) e)) later ≡ cond (matches y h e) (Some e) rest
  step y e true q misses rest later further differs = search (rules, own_kept, eqb-true)
  step y e false q misses rest later further differs = other_kept e (matches y h e) rest later further differs

  finds_same : (y : List ℕ) (es : List ScopeEntry) → names.ghosts.eq n y ≡ false →
      (binding_in (find_entry y h es) ≡ Some x → ⊥) → find_entry y h (map (renamed_entry x n) es) ≡ find_entry y h es
  finds_same y [] misses differs = refl
  finds_same y (e ∷ es) misses differs =
      step y e (nat_eq e.binding x) refl (and_false (hygienes.ghosts.eq e.hygiene h) (names.ghosts.eq n y) misses)
      (find_entry y h es) (find_entry y h (map (renamed_entry x n) es)) (finds_same y es misses) differs

-- 3. A use that isn't affected has no conflict

module _ (b : BodyContents) (x : ℕ) (n : List ℕ) (scopes : Scopes) (in_range : nat_lt x (length b.store.nodes.bindings) ≡ true) where
  abbrev s : Nodes
  s = b.store.nodes

  abbrev after : Usage → Option ℕ
  after v = resolved_after b.store scopes x n v

  module _ (v : Usage) (is : IsUse b scopes v) (other : resolves_to x v ≡ false) (asks : asks_for n (name_at s v.path) ≡ false) where
    abbrev h : SyntaxContext
    h = hygiene_of b.store.side_tables v.path

    abbrev es : List ScopeEntry
    es = entries_of (chain_at scopes v.expr)

    before_is : v.binding ≡ binding_of b.store (find_entry is.name h es)
    before_is = search (rules, for_along)

    after_is : after v ≡ binding_of b.store (find_entry is.name h (map (renamed_entry x n) es))
    after_is = grind (arith, common_steps, entries_mapped (renamed_entry x n) (chain_at scopes v.expr))

    keeps : after v ≡ v.binding
    keeps = search (rules, binding_in, is_other, before_is, binding_some, after_is, finds_same)

    no_conflict : conflict_at b.store scopes x n v ≡ None
    no_conflict =
        ap (λ (t : Bool). cond t None (Some (conflict_of v (resolves_to x v) (after v))))
        ((same_decides (after v) v.binding).1 keeps)

  abbrev conflicts : List Usage → Option RenameFault
  conflicts us = first_conflict b.store scopes x n us

  same_conflict : (us : List Usage) → AreUses b scopes us → conflicts (affected_among x n s us) ≡ conflicts us
  same_conflict [] uses = refl
  same_conflict (v ∷ vs) uses = search (rules, or_false, no_conflict, same_conflict vs uses.1)

pub conflict_among : (b : BodyContents) (x : ℕ) (n : List ℕ) (scopes : Scopes) → RankDecreases b.store.nodes →
    x < length b.store.nodes.bindings →
    first_conflict b.store scopes x n (affected_among x n b.store.nodes (usages_of_body b scopes))
    ≡ first_conflict b.store scopes x n (usages_of_body b scopes)
conflict_among b x n scopes fall l = search (rules, same_conflict, lt-ltb, all_uses)

-- 4. All uses of the binding are affected

pub own_among : (x : ℕ) (n : List ℕ) (s : Nodes) (us : List Usage) → usages_of x (affected_among x n s us) ≡ usages_of x us
own_among x n s [] = refl
own_among x n s (v ∷ vs) = search (rules, own_among x n s vs)
