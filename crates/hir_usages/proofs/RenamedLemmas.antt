-- In the renamed body each use of the body resolves to what it is said to resolve to after the rename, and the chain of each expression
-- is the only one.
use Rattle.std.proofs.Common.{◌≡◌, ℕ, List, Option, Some, None, cond, refl, sym, ap, ◌∙◌, Contains, subst, length, rules, arith}
use Rattle.std.specs.Prelude.{nat_lt}
use Rattle.hir_base.specs.declared.hygiene.SyntaxContext.{SyntaxContext}
use Rattle.hir_path.specs.declared.ids.ExprOrPatId.{ExprOrPatId}
use Rattle.hir_node.specs.declared.node_id.NodeId.{NodeId}
use Rattle.hir_validate.specs.declared.sizes.Sizes.{Sizes}
use Rattle.hir_validate.specs.{declared.node_arenas.Nodes.Nodes, Nodes.Has, Nodes.children_of, Sizes.HasNode}
use Rattle.hir_store_core.specs.{SideTables.hygiene_of, Under.Under, Under.itself, Under.below}
use Rattle.hir_body.specs.Bodies.{BodyContents, BodyReaches}
use Rattle.hir_scope.specs.{BodyScopes.AreBodyScopes, BodyScopes.entry_nodes_of_body, Chains.HasChain, Frames.Chain}
use Rattle.hir_scope.specs.{PathResolution.binding_of, Resolution.resolve, Scopes.Scopes}
use Rattle.hir_scope.specs.declared.scope.ScopeEntry.{ScopeEntry}
use Rattle.hir_usages.specs.Usages.{usages_of_body, usages_of}
use Rattle.hir_usages.specs.Renames.{binding_for, name_at, renamed_entry, resolve_along, chain_at, resolved_after}
use Rattle.hir_usages.specs.Renames.{renamed_chain}
use Rattle.hir_usages.specs.{Kept.ResolvesTo, Renamed.renamed_body, declared.usage.Usage.Usage}
use Rattle.hir_usages.proofs.AlikeLemmas.{Alike, alike, children_same, chains_renamed}
use Rattle.hir_usages.proofs.UseLemmas.{AsksAt, IsUse, AreUses, for_along, new_name}
use Rattle.std.proofs.lemmas.Grind.{common_steps}

-- 1. Scopes of a body, where the chain of each expression is the only one

abbrev pub OneChain : BodyContents → Type 0
OneChain b =
    (x : ℕ) (f g : Chain) → HasChain b.store.nodes (entry_nodes_of_body b) x f →
    HasChain b.store.nodes (entry_nodes_of_body b) x g → f ≡ g

module _ (b : BodyContents) where
  module _ (scopes : Scopes) (are : AreBodyScopes b scopes) where
    -- what the body reaches has the chain of its scope
    pub chain_of_reached : (x : ℕ) → BodyReaches b (NodeId.Expr x) → HasChain b.store.nodes (entry_nodes_of_body b) x (chain_at scopes x)
    chain_of_reached x r = search rules

    -- what a path resolves to by the scopes is what it resolves to along the frames
    pub by_frames : (s : Nodes) (path : ExprOrPatId) (x : ℕ) → AsksAt s path x → BodyReaches b (NodeId.Expr x) →
        ResolvesTo b path x (binding_for b.store scopes path x)
    by_frames s path x asks r = search (rules, chain_of_reached, for_along)

    pub by_scopes : OneChain b → (s : Nodes) (path : ExprOrPatId) (x : ℕ) (found : Option ℕ) → AsksAt s path x →
        BodyReaches b (NodeId.Expr x) → ResolvesTo b path x found → binding_for b.store scopes path x ≡ found
    by_scopes only s path x found asks r to =
        let same : chain_at scopes x ≡ to.frames = only x (chain_at scopes x) to.frames (chain_of_reached x r) to.are_around in
        for_along b.store s scopes path x asks
        ∙ (ap (λ (c : Chain). resolve_along b.store c (hygiene_of b.store.side_tables path) (name_at b.store.nodes path)) same ∙ to.is)

-- 2. The renamed body

module _ (b : BodyContents) (x : ℕ) (n : List ℕ) (scopes : Scopes) where
  abbrev s : Nodes
  s = b.store.nodes

  abbrev us : List Usage
  us = usages_of_body b scopes

  abbrev renamed : BodyContents
  renamed = renamed_body b scopes x n

  abbrev u : Nodes
  u = renamed.store.nodes

  as_alike : Alike (renamed_entry x n) s u
  as_alike = alike n x s (usages_of x us)

  child_before : (m k : NodeId) → Contains (children_of u m) k → Contains (children_of s m) k
  child_before m k c = subst (λ (ks : List NodeId). Contains ks k) (children_same (renamed_entry x n) s u as_alike m) c

  pub under_before : (m r : NodeId) → Under u m r → Under s m r
  under_before m r itself = itself
  under_before m r (below {k = k} c h) = below (child_before r k c) (under_before m k h)

  under_after : (m r : NodeId) → Under s m r → Under u m r
  under_after m r itself = itself
  under_after m r (below {k = k} c h) =
      below (subst (λ (ks : List NodeId). Contains ks k) (sym (children_same (renamed_entry x n) s u as_alike r)) c)
      (under_after m k h)

  pub has_before : (m : NodeId) → Has u m → Has s m
  has_before m h = subst (λ (z : Sizes). HasNode z m) as_alike.sizes h

  -- the renamed body reaches what the body does
  pub reaches_after : (m : NodeId) → BodyReaches b m → BodyReaches renamed m
  reaches_after m r = (r.0, r.1, under_after m r.0 r.2)

  -- it has as many bindings
  pub as_many : length u.bindings ≡ length s.bindings
  as_many = ap (λ (z : Sizes). z.bindings) as_alike.sizes

  same_binding : (o : Option ScopeEntry) → binding_of renamed.store o ≡ binding_of b.store o
  same_binding None = refl
  same_binding (Some entry) = ap (λ (k : ℕ). cond (nat_lt entry.binding k) (Some entry.binding) None) as_many

  along_same : (f : Chain) (h : SyntaxContext) (o : Option (List ℕ)) → resolve_along renamed.store f h o ≡ resolve_along b.store f h o
  along_same f h None = refl
  along_same f h (Some name) = same_binding (resolve f name h)

  module _ (are : AreBodyScopes b scopes) where
    -- a use has in the renamed body the renamed chain
    pub chain_after : (v : Usage) → IsUse b scopes v →
        HasChain u (entry_nodes_of_body renamed) v.expr (renamed_chain x n (chain_at scopes v.expr))
    chain_after v is = search (rules, chains_renamed)

    -- and resolves in it to what it is said to resolve to
    pub resolves_after : ((a m k : NodeId) → Contains (children_of s a) k → Contains (children_of s m) k → a ≡ m) →
        AreUses b scopes us → (v : Usage) → Contains us v → IsUse b scopes v →
        ResolvesTo renamed v.path v.expr (resolved_after b.store scopes x n v)
    resolves_after one all v among is =
        grind (arith, common_steps, chain_after v is, new_name b scopes one x n us v all is among, along_same)
