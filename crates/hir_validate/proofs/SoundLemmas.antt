-- A store without a fault: each node is sound, the graph is a forest, and the children of a node are in range and have a lower rank.
use Rattle.std.proofs.Common.{◌≡◌, ℕ, zero, suc, ◌+◌, ◌<◌, ◌≤◌, true, List, [], ◌∷◌, ◌++◌, Some, None, refl, ap, subst, ◌∙◌, map, length, take, get_or, slice_get, Contains, arith}
use Rattle.std.specs.List.{AllByRecursion, list_all}
use Rattle.std.specs.Cmp.{first_so, second_so}
use Rattle.std.proofs.lemmas.Bool.{ltb-true}
use Rattle.std.proofs.lemmas.List.{length-append, length-map, length-take-le, get_or-map, get_or-take, get_or_default, get_or_append_left, get_or-append-add}
use Rattle.std.proofs.lemmas.List.Elements.{Contains-get_or}
use Rattle.std.proofs.lemmas.Option.{get_or_from_slice_get}
use Rattle.hir_forest.specs.Faults.{forest_fault, root_nodes, root_fault, LiesUnderRoot}
use Rattle.hir_forest.specs.Forest.{IsChild}
use Rattle.hir_forest.proofs.HeightLemmas.{height_falls, height_bounded}
use Rattle.hir_node.specs.declared.expr.Expr.{Expr}
use Rattle.hir_node.specs.declared.pat.Pat.{Pat}
use Rattle.hir_node.specs.declared.type_ref.TypeRef.{TypeRef}
use Rattle.hir_node.specs.ChildCalls.{Call, OnExpr, OnAnonConst, OnPat, OnType, OnLifetime, expr_calls, pat_calls, type_calls, opt, children}
use Rattle.hir_validate.specs.declared.sizes.Sizes.{Sizes}
use Rattle.hir_node.specs.declared.node_id.NodeId.{NodeId}
use Rattle.hir_node.specs.declared.node_id.NodeId.TheVariants as node
use Rattle.hir_validate.specs.Sizes.{is_in_range, HasNode, place, places}
use Rattle.hir_validate.specs.TestedParts.{TestedParts, tested_expr, tested_pat, tested_type}
use Rattle.hir_validate.specs.Nodes.{Nodes, sizes_of, Has, calls_of, children_of, all_calls, graph}
use Rattle.hir_validate.specs.Faults.{RootedNodes, rooted_fault, first_bad_node, first_of, node_fault, nothing_tested, graph_fault, ends_of}
use Rattle.hir_validate.specs.Sound.{IsSoundNode, RootsStandApart}
use Rattle.hir_validate.specs.Recursion.{rank, RankDecreases}
use Rattle.hir_validate.proofs.FaultLemmas.{accepted_forest, graph-length}

-- nothing is at fault where there is nothing
pub empty_sound : rooted_fault record { nodes = record { exprs = []; pats = []; types = []; bindings = []; labels = []; lifetimes = [] }; roots = [] } None
unfolding rooted_fault first_bad_node graph_fault forest_fault
empty_sound = ((λ i h. absurd (omega arith), (λ i h. absurd (omega arith), λ i h. absurd (omega arith))), (λ i h. absurd (omega arith), (λ i h. absurd (omega arith), λ i h. absurd (omega arith))))

pub item_at : {X : Type 0} (xs : List X) (i : ℕ) → i < length xs → (x : X) × (slice_get xs i ≡ Some x)
item_at [] i h = absurd (omega arith)
item_at (x ∷ xs) zero h = (x, refl)
item_at (x ∷ xs) (suc i) h = item_at xs i (omega arith)

pub item_within : {X : Type 0} (xs : List X) (i : ℕ) (x : X) → slice_get xs i ≡ Some x → i < length xs
item_within [] i x e = absurd (cc)
item_within (y ∷ ys) zero x e = omega arith
item_within (y ∷ ys) (suc i) x e = let h = item_within ys i x e in omega arith

sound_node : (s : Nodes) (id : NodeId) (x : TestedParts) → node_fault (sizes_of s) s.types id x None → IsSoundNode s x
unfolding node_fault
sound_node s id x h = record { in_range = h.0; paths = h.1.0; returns = h.1.1.0; gives_self = h.1.1.1.0; lists_fit = h.1.1.1.1 }

sound_at : {X : Type 0} (parts : X → TestedParts) (s : Nodes) (name : ℕ → NodeId) (xs : List X) → first_of (sizes_of s) s.types name (map parts xs) None → (i : ℕ) (x : X) → slice_get xs i ≡ Some x → IsSoundNode s (parts x)
sound_at parts s name xs h i x e =
    let within = item_within xs i x e in
    let read : get_or (map parts xs) i nothing_tested ≡ parts x = get_or-map parts xs i x nothing_tested within ∙ ap parts (get_or_from_slice_get xs i x x e) in
    sound_node s (name i) (parts x) (subst (λ (y : TestedParts). node_fault (sizes_of s) s.types (name i) y None) read (h i (omega (arith, length-map xs parts))))

module _ (c : RootedNodes) (sound : rooted_fault c None) where
  pub exprs_sound : (i : ℕ) (x : Expr) → slice_get c.nodes.exprs i ≡ Some x → IsSoundNode c.nodes (tested_expr x)
  unfolding rooted_fault first_bad_node
  exprs_sound = sound_at tested_expr c.nodes node.Expr c.nodes.exprs sound.0.0

  pub pats_sound : (i : ℕ) (x : Pat) → slice_get c.nodes.pats i ≡ Some x → IsSoundNode c.nodes (tested_pat x)
  unfolding rooted_fault first_bad_node
  pats_sound = sound_at tested_pat c.nodes node.Pat c.nodes.pats sound.0.1.0

  pub types_sound : (i : ℕ) (x : TypeRef) → slice_get c.nodes.types i ≡ Some x → IsSoundNode c.nodes (tested_type x)
  unfolding rooted_fault first_bad_node
  types_sound = sound_at tested_type c.nodes node.TypeRef c.nodes.types sound.0.1.1

  -- each call of a node is made with an id in range
  pub calls_in_range : (n : NodeId) → Has c.nodes n → list_all (is_in_range (sizes_of c.nodes)) (calls_of c.nodes n) ≡ true
  calls_in_range (node.Expr id) h = let x = item_at c.nodes.exprs id h in rw x.1 (first_so _ _ (first_so _ _ (exprs_sound id x.0 x.1).in_range))
  calls_in_range (node.Pat id) h = let x = item_at c.nodes.pats id h in rw x.1 (first_so _ _ (first_so _ _ (pats_sound id x.0 x.1).in_range))
  calls_in_range (node.TypeRef id) h = let x = item_at c.nodes.types id h in rw x.1 (first_so _ _ (first_so _ _ (types_sound id x.0 x.1).in_range))

-- the children among calls with ids in range are in range
children_in_range : (sizes : Sizes) (calls : List Call) → list_all (is_in_range sizes) calls ≡ true → AllByRecursion (HasNode sizes) (children calls)
children_in_range sizes [] h = tt
children_in_range sizes (OnExpr id ∷ calls) h = (ltb-true _ _ (first_so _ _ h), children_in_range sizes calls (second_so _ _ h))
children_in_range sizes (OnAnonConst id ∷ calls) h = (ltb-true _ _ (first_so _ _ h), children_in_range sizes calls (second_so _ _ h))
children_in_range sizes (OnPat id ∷ calls) h = (ltb-true _ _ (first_so _ _ h), children_in_range sizes calls (second_so _ _ h))
children_in_range sizes (OnType id ∷ calls) h = (ltb-true _ _ (first_so _ _ h), children_in_range sizes calls (second_so _ _ h))
children_in_range sizes (OnLifetime id ∷ calls) h = children_in_range sizes calls (second_so _ _ h)

pub member : {X : Type 0} (P : X → Type 0) (xs : List X) (x : X) → AllByRecursion P xs → Contains xs x → P x
member P [] x h (i, lt, e) = absurd (omega arith)
member P (y ∷ ys) x h (zero, lt, e) = subst P e h.0
member P (y ∷ ys) x h (suc i, lt, e) = member P ys x h.1 (i, omega arith, e)

mapped_member : {X Y : Type 0} (f : X → Y) (xs : List X) (x : X) → Contains xs x → Contains (map f xs) (f x)
mapped_member f xs x c = (c.0, omega (arith, length-map xs f, c.1), get_or-map f xs c.0 x (f x) c.1 ∙ ap f c.2)

-- the places of the nodes in range, and no others, are below the number of nodes
pub place_within : (sizes : Sizes) (n : NodeId) → HasNode sizes n → place sizes n < sizes.exprs + sizes.pats + sizes.types
place_within sizes (node.Expr id) h = omega arith
place_within sizes (node.Pat id) h = omega arith
place_within sizes (node.TypeRef id) h = omega arith

row_of : {X : Type 0} (calls : X → List Call) (xs : List X) (i : ℕ) → i < length xs → get_or (map calls xs) i [] ≡ opt calls (slice_get xs i)
row_of calls [] i h = absurd (omega arith)
row_of calls (x ∷ xs) zero h = refl
row_of calls (x ∷ xs) (suc i) h = row_of calls xs i (omega arith)

module _ (s : Nodes) where
  length-all_calls : length (all_calls s) ≡ length s.exprs + length s.pats + length s.types
  length-all_calls =
      length-append (map expr_calls s.exprs ++ map pat_calls s.pats) (map type_calls s.types)
      ∙ rw (length-append (map expr_calls s.exprs) (map pat_calls s.pats), length-map s.exprs expr_calls, length-map s.pats pat_calls, length-map s.types type_calls) refl

  -- the calls of a node stand in its place
  calls_at_place : (n : NodeId) → Has s n → get_or (all_calls s) (place (sizes_of s) n) [] ≡ calls_of s n
  calls_at_place (node.Expr id) h =
      let a = map expr_calls s.exprs in let b = map pat_calls s.pats in
      get_or_append_left (a ++ b) (map type_calls s.types) [] id (omega (arith, length-append a b, length-map s.exprs expr_calls))
      ∙ get_or_append_left a b [] id (omega (arith, length-map s.exprs expr_calls)) ∙ row_of expr_calls s.exprs id h
  calls_at_place (node.Pat id) h =
      let a = map expr_calls s.exprs in let b = map pat_calls s.pats in
      let e = length-map s.exprs expr_calls in
      let at : get_or (a ++ b) (length s.exprs + id) [] ≡ get_or b id [] = rw e at (get_or-append-add a b id []) in
      get_or_append_left (a ++ b) (map type_calls s.types) [] (length s.exprs + id) (omega (arith, length-append a b, length-map s.exprs expr_calls, length-map s.pats pat_calls))
      ∙ at ∙ row_of pat_calls s.pats id h
  calls_at_place (node.TypeRef id) h =
      let a = map expr_calls s.exprs in let b = map pat_calls s.pats in
      let e : length (a ++ b) ≡ length s.exprs + length s.pats = length-append a b ∙ rw (length-map s.exprs expr_calls, length-map s.pats pat_calls) refl in
      let at : get_or (all_calls s) (length s.exprs + length s.pats + id) [] ≡ get_or (map type_calls s.types) id [] = rw e at (get_or-append-add (a ++ b) (map type_calls s.types) id []) in
      at ∙ row_of type_calls s.types id h

  pub row_at_place : (n : NodeId) → Has s n → get_or (graph s) (place (sizes_of s) n) [] ≡ map (place (sizes_of s)) (children_of s n)
  row_at_place n h =
      get_or-map (places (sizes_of s)) (all_calls s) (place (sizes_of s) n) [] [] (omega (arith, length-all_calls, place_within (sizes_of s) n h))
      ∙ ap (places (sizes_of s)) (calls_at_place n h)

  -- a child of a node is a child in the graph
  pub child_in_graph : (n k : NodeId) → Has s n → Contains (children_of s n) k → IsChild (graph s) (place (sizes_of s) n) (place (sizes_of s) k)
  child_in_graph n k h c = rw (row_at_place n h) (mapped_member (place (sizes_of s)) (children_of s n) k c)

module _ (c : RootedNodes) (sound : rooted_fault c None) where
  abbrev sizes : Sizes
  sizes = sizes_of c.nodes

  abbrev g : List (List ℕ)
  g = graph c.nodes

  all_children_in_range : (n : NodeId) → Has c.nodes n → AllByRecursion (Has c.nodes) (children_of c.nodes n)
  all_children_in_range n h = children_in_range sizes (calls_of c.nodes n) (calls_in_range c sound n h)

  pub sound_falls : RankDecreases c.nodes
  unfolding rank
  sound_falls = record {
    in_range = λ n h k m. member (Has c.nodes) (children_of c.nodes n) k (all_children_in_range n h) m;
    lower = λ n h k m. height_falls g (accepted_forest c sound) (place sizes n) (place sizes k) (child_in_graph c.nodes n k h m);
  }

-- no rank is above the number of nodes
pub rank_bounded : (s : Nodes) (n : NodeId) → rank s n ≤ length s.exprs + length s.pats + length s.types
unfolding rank
rank_bounded s n = let h = height_bounded (graph s) (place (sizes_of s) n) in omega (arith, graph-length s)

-- the roots of a store without a fault
module _ (c : RootedNodes) (sound : rooted_fault c None) where
  abbrev nodes : List ℕ
  nodes = root_nodes c.roots

  abbrev under : ℕ → Type 0
  under = LiesUnderRoot (graph c.nodes) (length c.nodes.exprs) nodes

  root_sound : (i : ℕ) → i < length c.roots → root_fault under (ends_of c.nodes) c.roots i None
  unfolding rooted_fault graph_fault forest_fault
  root_sound i h = sound.1.1.1 i h

  root_read : (i : ℕ) → i < length c.roots → Contains nodes (get_or nodes i 0)
  root_read i h = let len = length-map c.roots (λ r. r.node) in Contains-get_or nodes i 0 (omega arith)

  pub roots_apart : RootsStandApart c
  roots_apart = record {
    in_range = λ i h. (root_sound i h).0;
    listed_once = λ i j l h e. (let len = length-map c.roots (λ r. r.node) in (root_sound j h).1.0 (rw (← e) (taken i j l (omega arith))));
    not_under = λ i j h k l. (root_sound i h).1.1.0 (get_or nodes j 0, root_read j k, (root_sound j k).0, l);
    ends_rise = λ i h. (root_sound i h).1.1.1;
  }
    where
      taken : (i j : ℕ) → i < j → j < length nodes → Contains (take j nodes) (get_or nodes i 0)
      taken i j l h =
          let at : get_or nodes i (get_or nodes i 0) ≡ get_or nodes i 0 = get_or_default nodes i (get_or nodes i 0) 0 (omega arith) in
          let len = length-take-le j nodes (omega arith) in
          (i, omega arith, get_or-take j nodes i (get_or nodes i 0) l ∙ at)
