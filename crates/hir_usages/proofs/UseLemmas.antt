-- The uses of a body: each asks where the body reaches, each path once, and in the renamed body by its new name.
use Rattle.std.proofs.Common.{◌≡◌, ℕ, zero, suc, List, [], ◌∷◌, ◌++◌, Option, Some, None, Bool, true, false, cond, map, refl, sym, ap, rules}
use Rattle.std.proofs.Common.{◌∙◌, Contains, subst, fold, nat_eq, arith}
use Rattle.std.proofs.lemmas.Bool.{eqb-true, eq-eqb}
use Rattle.std.proofs.Math.Dec.{eqb-suc-suc, eqb-suc-zero, eqb-zero-suc}
use Rattle.std.specs.List.{slice_get, list_any, AllByRecursion}
use Rattle.std.specs.Option.{option_map}
use Rattle.hir_base.specs.declared.hygiene.SyntaxContext.{SyntaxContext}
use Rattle.hir_path.specs.declared.ids.ExprOrPatId.{ExprOrPatId}
use Rattle.hir_path.specs.declared.ids.ExprOrPatId.TheVariants.{ExprId, PatId}
use Rattle.hir_path.specs.declared.path.Path.{Path}
use Rattle.hir_node.specs.declared.{expr.Expr.Expr, node_id.NodeId.NodeId, pat.Pat.Pat}
use Rattle.hir_validate.specs.{Recursion.RankDecreases, declared.node_arenas.Nodes.Nodes, Nodes.children_of}
use Rattle.hir_store_core.specs.{Contents.Contents, SideTables.hygiene_of, Under.Under, Under.itself, Under.below}
use Rattle.hir_body.specs.Bodies.{BodyContents, BodyReaches, entry_nodes}
use Rattle.hir_scope.specs.{PathResolution.local_name, PathResolution.binding_at, PathResolution.resolve_path}
use Rattle.hir_scope.specs.{PathResolution.resolved_by_expr, PathResolution.resolved_by_pat, PathResolution.target_binding_at}
use Rattle.hir_scope.specs.{Scopes.Scopes}
use Rattle.hir_captures.specs.Uses.{Spot, if_assignment, assignment_at, of_pattern}
use Rattle.hir_usages.specs.Visits.{children_in_order, visits}
use Rattle.hir_usages.specs.Usages.{usage_with, usages_of_expr, usages_of_pat, usages_at, usages_in, usages_of_body, resolves_to}
use Rattle.hir_usages.specs.Usages.{usages_of}
use Rattle.hir_usages.specs.Renames.{binding_for, name_of_expr, name_of_pat, name_at, name_after, resolve_along, chain_at}
use Rattle.hir_usages.specs.Renamed.{change_at, renamed_expr, renamed_pat, rename_path, rename_binding, renamed_nodes}
use Rattle.hir_usages.specs.declared.usage.Usage.{Usage}
use Rattle.hir_usages.proofs.VisitLemmas.{child_among, hold_from}

-- 1. A pattern is in the target of one assignment only.

pub data Owns (s : Nodes) : ℕ → ℕ → Type 0 where
  first : {a id : ℕ} → if_assignment a (slice_get s.exprs a) ≡ Some a →
      Contains (children_in_order s (NodeId.Expr a)) (NodeId.Pat id) → Owns s a id
  inner : {a p id : ℕ} → Owns s a p → Contains (children_in_order s (NodeId.Pat p)) (NodeId.Pat id) → Owns s a id

abbrev OwnerOk : Nodes → NodeId → Option ℕ → Type 0
OwnerOk s (NodeId.Pat id) (Some a) = Owns s a id
OwnerOk s _ _ = Unit {0}

module _ (s : Nodes) (one : (n m k : NodeId) → Contains (children_of s n) k → Contains (children_of s m) k → n ≡ m) where
  parents : (n m k : NodeId) → Contains (children_in_order s n) k → Contains (children_in_order s m) k → n ≡ m
  parents n m k p q = one n m k (child_among s n k p) (child_among s m k q)

  one_owner : (a b id : ℕ) → Owns s a id → Owns s b id → a ≡ b
  one_owner a b id (first e m) (first f k) = let same = parents (NodeId.Expr a) (NodeId.Expr b) (NodeId.Pat id) m k in cc
  one_owner a b id (first e m) (inner {p = p} o k) = let same = parents (NodeId.Expr a) (NodeId.Pat p) (NodeId.Pat id) m k in absurd cc
  one_owner a b id (inner {p = p} o m) (first f k) = let same = parents (NodeId.Pat p) (NodeId.Expr b) (NodeId.Pat id) m k in absurd cc
  one_owner a b id (inner {p = p} o m) (inner {p = q} r k) =
      let same : NodeId.Pat p ≡ NodeId.Pat q = parents (NodeId.Pat p) (NodeId.Pat q) (NodeId.Pat id) m k in
      let is : q ≡ p = cc in
      one_owner a b p o (subst (λ (x : ℕ). Owns s b x) is r)

if_is : (id a : ℕ) (o : Option Expr) → if_assignment id o ≡ Some a → id ≡ a
if_is id a (Some (Expr.Assignment target value)) e = cc
if_is id a None e = absurd cc
if_is id a (Some _) e = absurd cc

module _ (s : Nodes) where
  in_target : (m : NodeId) (a : Option ℕ) (id : ℕ) → OwnerOk s m a →
      Contains (children_in_order s m) (NodeId.Pat id) → OwnerOk s (NodeId.Pat id) (assignment_at s m a)
  in_target (NodeId.Expr x) a id ok m = at (if_assignment x (slice_get s.exprs x)) refl where
    at : (o : Option ℕ) → if_assignment x (slice_get s.exprs x) ≡ o → OwnerOk s (NodeId.Pat id) o
    at None e = tt
    at (Some b) e =
        let is : x ≡ b = if_is x b (slice_get s.exprs x) e in
        subst (λ (y : ℕ). Owns s y id) is (first (e ∙ ap (λ (y : ℕ). Some y) (sym is)) m)
  in_target (NodeId.Pat p) None id ok m = tt
  in_target (NodeId.Pat p) (Some b) id ok m = inner ok m
  in_target (NodeId.TypeRef x) a id ok m = tt

  owner_of_child : (m : NodeId) (a : Option ℕ) (k : NodeId) → OwnerOk s m a → Contains (children_in_order s m) k →
      OwnerOk s k (of_pattern k (assignment_at s m a))
  owner_of_child m a (NodeId.Pat id) ok c = in_target m a id ok c
  owner_of_child m a (NodeId.Expr id) ok c = tt
  owner_of_child m a (NodeId.TypeRef id) ok c = tt

  none_ok : (m : NodeId) → OwnerOk s m None
  none_ok (NodeId.Pat id) = tt
  none_ok (NodeId.Expr id) = tt
  none_ok (NodeId.TypeRef id) = tt

-- 2. What the body reaches: each visited node, and the assignment in whose target it is.

abbrev ReachedAt : BodyContents → NodeId → Option ℕ → Type 0
ReachedAt b n a = BodyReaches b n × ((x : ℕ) → a ≡ Some x → BodyReaches b (NodeId.Expr x))

-- a visit is of a reached node, in the target of one assignment only
abbrev VisitOk : BodyContents → NodeId → Option ℕ → Type 0
VisitOk b n a = OwnerOk b.store.nodes n a × ReachedAt b n a

-- a child of a descendant is a descendant
under_more : (s : Nodes) (n k : NodeId) {r : NodeId} → Under s k r → Contains (children_of s k) n → Under s n r
under_more s n k itself c = below c itself
under_more s n k (below d u) c = below d (under_more s n k u c)

module _ (b : BodyContents) where
  owner_reached : (m : NodeId) (a : Option ℕ) → ReachedAt b m a → (x : ℕ) → assignment_at b.store.nodes m a ≡ Some x →
      BodyReaches b (NodeId.Expr x)
  owner_reached (NodeId.Expr id) a r x e = search (rules, if_is)
  owner_reached (NodeId.Pat id) a r x e = r.1 x e
  owner_reached (NodeId.TypeRef id) a r x e = absurd cc

  of_pattern_is : (k : NodeId) (a : Option ℕ) (x : ℕ) → of_pattern k a ≡ Some x → a ≡ Some x
  of_pattern_is (NodeId.Pat id) a x e = e
  of_pattern_is (NodeId.Expr id) a x e = absurd cc
  of_pattern_is (NodeId.TypeRef id) a x e = absurd cc

  visit_goes : (m : NodeId) (a : Option ℕ) (k : NodeId) → VisitOk b m a →
      Contains (children_in_order b.store.nodes m) k → VisitOk b k (of_pattern k (assignment_at b.store.nodes m a))
  visit_goes m a k ok c = search (rules, owner_of_child, under_more, child_among, owner_reached, of_pattern_is)

  entry_ok : (n : NodeId) → Contains (entry_nodes b) n → VisitOk b n None
  entry_ok n c = (none_ok b.store.nodes n, ((n, c, itself), λ x e. absurd cc))

  visits_ok : RankDecreases b.store.nodes → AllByRecursion (λ (x : Spot). VisitOk b x.node x.assignment) (visits b)
  visits_ok fall = hold_from b.store.nodes fall (VisitOk b) visit_goes (entry_nodes b) entry_ok

-- 3. A use is told by its path.

-- a path asks at this expression: itself, or the assignment in whose target it is
abbrev pub AsksAt : Nodes → ExprOrPatId → ℕ → Type 0
AsksAt s (ExprId id) x = x ≡ id
AsksAt s (PatId id) x = Owns s x id

module _ (b : BodyContents) (scopes : Scopes) where
  abbrev c : Contents
  c = b.store

  pub record IsUse (v : Usage) : Type 0 where
    pub reached : BodyReaches b (NodeId.Expr v.expr)
    pub asks_at : AsksAt c.nodes v.path v.expr
    pub resolves : v.binding ≡ binding_for c scopes v.path v.expr
    pub name : List ℕ
    pub asks : name_at c.nodes v.path ≡ Some name

  abbrev pub AreUses : List Usage → Type 0
  AreUses us = AllByRecursion IsUse us

  expr_uses : (id : ℕ) (o : Option Expr) → slice_get c.nodes.exprs id ≡ o → BodyReaches b (NodeId.Expr id) →
      AreUses (usages_of_expr c scopes id o)
  expr_uses id (Some (Expr.Path path)) e r = at (local_name path) refl where
    at : (q : Option (List ℕ)) → local_name path ≡ q → AreUses (usage_with (ExprId id) id (binding_at c scopes id) q)
    at None h = tt
    at (Some name) h = (record { reached = r; asks_at = refl; resolves = refl; name = name; asks = ap name_of_expr e ∙ h }, tt)
  expr_uses id None e r = tt
  expr_uses id (Some _) e r = tt

  pat_uses : (id a : ℕ) (o : Option Pat) → slice_get c.nodes.pats id ≡ o → Owns c.nodes a id →
      BodyReaches b (NodeId.Expr a) → AreUses (usages_of_pat c scopes id (Some a) o)
  pat_uses id a (Some (Pat.Path path)) e own r = at (local_name path) refl where
    at : (q : Option (List ℕ)) → local_name path ≡ q → AreUses (usage_with (PatId id) a (target_binding_at c scopes a id) q)
    at None h = tt
    at (Some name) h = (record { reached = r; asks_at = own; resolves = refl; name = name; asks = ap name_of_pat e ∙ h }, tt)
  pat_uses id a None e own r = tt
  pat_uses id a (Some _) e own r = tt

  uses_of_spot : (m : NodeId) (a : Option ℕ) → VisitOk b m a → AreUses (usages_at c scopes m a)
  uses_of_spot (NodeId.Expr id) a ok = expr_uses id (slice_get c.nodes.exprs id) refl ok.1.0
  uses_of_spot (NodeId.Pat id) None ok = tt
  uses_of_spot (NodeId.Pat id) (Some a) ok = pat_uses id a (slice_get c.nodes.pats id) refl ok.0 (ok.1.1 a refl)
  uses_of_spot (NodeId.TypeRef id) a ok = tt

  uses_two : (us vs : List Usage) → AreUses us → AreUses vs → AreUses (us ++ vs)
  uses_two [] vs h k = k
  uses_two (u ∷ us) vs h k = (h.0, uses_two us vs h.1 k)

  uses_of_spots : (xs : List Spot) → AllByRecursion (λ (x : Spot). VisitOk b x.node x.assignment) xs → AreUses (usages_in c scopes xs)
  uses_of_spots [] h = tt
  uses_of_spots (x ∷ xs) h =
      uses_two (usages_at c scopes x.node x.assignment) (usages_in c scopes xs) (uses_of_spot x.node x.assignment h.0)
      (uses_of_spots xs h.1)

  pub all_uses : RankDecreases c.nodes → AreUses (usages_of_body b scopes)
  all_uses fall = uses_of_spots (visits b) (visits_ok b fall)

  -- two uses of one path resolve to the same
  told_by_path : ((n m k : NodeId) → Contains (children_of c.nodes n) k → Contains (children_of c.nodes m) k → n
      ≡ m) → (p q : ExprOrPatId) (x y : ℕ) → p ≡ q → AsksAt c.nodes p x → AsksAt c.nodes q y →
      binding_for c scopes p x ≡ binding_for c scopes q y
  told_by_path one (ExprId i) (ExprId j) x y e f g = let is : i ≡ j = cc in ap (binding_at c scopes) is
  told_by_path one (ExprId i) (PatId j) x y e f g = absurd cc
  told_by_path one (PatId i) (ExprId j) x y e f g = absurd cc
  told_by_path one (PatId i) (PatId j) x y e f g = search (rules, one_owner)

-- 4. The paths of the binding's uses have the new name, and no others.

abbrev same_path : ExprOrPatId → ExprOrPatId → Bool
same_path (ExprId i) (ExprId j) = nat_eq i j
same_path (PatId i) (PatId j) = nat_eq i j
same_path p q = false

same_is : (p q : ExprOrPatId) → same_path p q ≡ true → p ≡ q
same_is (ExprId i) (ExprId j) h = ap ExprId (eqb-true i j h)
same_is (PatId i) (PatId j) h = ap PatId (eqb-true i j h)
same_is (ExprId i) (PatId j) h = absurd cc
same_is (PatId i) (ExprId j) h = absurd cc

is_same_path : (p : ExprOrPatId) → same_path p p ≡ true
is_same_path (ExprId i) = eq-eqb i i refl
is_same_path (PatId i) = eq-eqb i i refl

same_either : {X : Type 0} (t : Bool) (x : X) → x ≡ cond t x x
same_either true x = refl
same_either false x = refl

changed_at : {X : Type 0} (f : X → X) (xs : List X) (i j : ℕ) → slice_get (change_at f xs i) j
    ≡ cond (nat_eq i j) (option_map f (slice_get xs j)) (slice_get xs j)
changed_at f [] i j = same_either (nat_eq i j) None
changed_at f (x ∷ xs) zero zero = refl
changed_at f (x ∷ xs) zero (suc j) = ap (λ (t : Bool). cond t (option_map f (slice_get xs j)) (slice_get xs j)) (sym (eqb-zero-suc j))
changed_at f (x ∷ xs) (suc i) zero = ap (λ (t : Bool). cond t (Some (f x)) (Some x)) (sym (eqb-suc-zero i))
changed_at f (x ∷ xs) (suc i) (suc j) = search (rules, eqb-suc-suc, changed_at f xs i j)

expr_renamed : (n : List ℕ) (o : Option Expr) (y : List ℕ) → name_of_expr o ≡ Some y → name_of_expr (option_map (renamed_expr n) o) ≡ Some n
expr_renamed n (Some (Expr.Path (Path.BarePath path))) y e = refl
expr_renamed n (Some (Expr.Path (Path.Normal path))) y e = absurd cc
expr_renamed n (Some (Expr.Path (Path.LangItem target segment))) y e = absurd cc
expr_renamed n None y e = absurd cc
expr_renamed n (Some _) y e = absurd cc

pat_renamed : (n : List ℕ) (o : Option Pat) (y : List ℕ) → name_of_pat o ≡ Some y → name_of_pat (option_map (renamed_pat n) o) ≡ Some n
pat_renamed n (Some (Pat.Path (Path.BarePath path))) y e = refl
pat_renamed n (Some (Pat.Path (Path.Normal path))) y e = absurd cc
pat_renamed n (Some (Pat.Path (Path.LangItem target segment))) y e = absurd cc
pat_renamed n None y e = absurd cc
pat_renamed n (Some _) y e = absurd cc

name_changed : (n : List ℕ) (u : Nodes) (q p : ExprOrPatId) (y : List ℕ) → name_at u p ≡ Some y →
    name_at (rename_path n u q) p ≡ Some (cond (same_path q p) n y)
name_changed n u (ExprId i) (ExprId j) y e = search (rules, changed_at, expr_renamed)
name_changed n u (PatId i) (PatId j) y e = search (rules, changed_at, pat_renamed)
name_changed n u (ExprId i) (PatId j) y e = e
name_changed n u (PatId i) (ExprId j) y e = e

names_changed : (n : List ℕ) (u : Nodes) (qs : List ExprOrPatId) (p : ExprOrPatId) (y : List ℕ) → name_at u p
    ≡ Some y → name_at (fold (rename_path n) u qs) p
    ≡ Some (cond (list_any (λ (q : ExprOrPatId). same_path q p) qs) n y)
names_changed n u [] p y e = e
names_changed n u (q ∷ qs) p y e =
    search (rules, name_changed, names_changed n (rename_path n u q) qs p (cond (same_path q p) n y) (name_changed n u q p y e))

module _ (b : BodyContents) (scopes : Scopes) (one : (n m k : NodeId) → Contains (children_of b.store.nodes n) k →
    Contains (children_of b.store.nodes m) k → n ≡ m) (x : ℕ) where
  abbrev marked : List Usage → ExprOrPatId → Bool
  marked us p = list_any (λ (q : ExprOrPatId). same_path q p) (map (λ (v : Usage). v.path) (usages_of x us))

  not_marked : (us : List Usage) (v : Usage) → AreUses b scopes us → IsUse b scopes v → resolves_to x v ≡ false → marked us v.path ≡ false
  not_marked [] v are is other = refl
  not_marked (w ∷ us) v are is other = search (rules, told_by_path, same_is, not_marked us v are.1 is other)

  is_marked : (us : List Usage) (v : Usage) → Contains us v → resolves_to x v ≡ true → marked us v.path ≡ true
  is_marked [] v (i, l, is) own = absurd (omega (arith, l))
  is_marked (w ∷ us) v (zero, l, is) own = search (rules, is_same_path)
  is_marked (w ∷ us) v (suc i, l, is) own = search (rules, is_marked us v (i, omega (arith, l), is) own)

  marks : (us : List Usage) (v : Usage) → AreUses b scopes us → IsUse b scopes v → Contains us v → marked us v.path ≡ resolves_to x v
  marks us v are is among = search (rules, is_marked, not_marked)

  -- each use asks for its new name
  pub new_name : (n : List ℕ) (us : List Usage) (v : Usage) → AreUses b scopes us → IsUse b scopes v → Contains us v →
      name_at (renamed_nodes n x (usages_of x us) b.store.nodes) v.path ≡ name_after x n b.store.nodes v
  new_name n us v are is among =
      names_changed n (rename_binding n b.store.nodes x) (map (λ (z : Usage). z.path) (usages_of x us)) v.path is.name
      (first_name v.path is.name is.asks)
      ∙ (ap (λ (t : Bool). Some (cond t n is.name)) (marks us v are is among) ∙ at (resolves_to x v)) where
        first_name : (p : ExprOrPatId) (y : List ℕ) → name_at b.store.nodes p ≡ Some y →
            name_at (rename_binding n b.store.nodes x) p ≡ Some y
        first_name (ExprId id) y e = e
        first_name (PatId id) y e = e

        at : (t : Bool) → Some (cond t n is.name) ≡ cond t (Some n) (name_at b.store.nodes v.path)
        at true = refl
        at false = sym is.asks

-- 5. What a use resolves to in other scopes

meaning_along : (c : Contents) (scopes : Scopes) (x : ℕ) (h : SyntaxContext) (o : Option (List ℕ)) →
    resolve_path c scopes x h o ≡ resolve_along c (chain_at scopes x) h o
meaning_along c scopes x h None = refl
meaning_along c scopes x h (Some name) = refl

expr_along : (c : Contents) (scopes : Scopes) (id : ℕ) (o : Option Expr) → resolved_by_expr c scopes id o
    ≡ resolve_along c (chain_at scopes id) (hygiene_of c.side_tables (ExprId id)) (name_of_expr o)
expr_along c scopes id (Some (Expr.Path path)) = meaning_along c scopes id (hygiene_of c.side_tables (ExprId id)) (local_name path)
expr_along c scopes id None = refl
expr_along c scopes id (Some _) = refl

pat_along : (c : Contents) (scopes : Scopes) (a id : ℕ) (o : Option Pat) → resolved_by_pat c scopes a id o
    ≡ resolve_along c (chain_at scopes a) (hygiene_of c.side_tables (PatId id)) (name_of_pat o)
pat_along c scopes a id (Some (Pat.Path path)) = meaning_along c scopes a (hygiene_of c.side_tables (PatId id)) (local_name path)
pat_along c scopes a id None = refl
pat_along c scopes a id (Some _) = refl

-- what a path resolves to is what its name resolves to along the chain of the expression at which it asks
pub for_along : (c : Contents) (s : Nodes) (scopes : Scopes) (p : ExprOrPatId) (x : ℕ) → AsksAt s p x →
    binding_for c scopes p x ≡ resolve_along c (chain_at scopes x) (hygiene_of c.side_tables p) (name_at c.nodes p)
for_along c s scopes (ExprId id) x e = search (rules, expr_along)
for_along c s scopes (PatId id) x e = pat_along c scopes x id (slice_get c.nodes.pats id)
