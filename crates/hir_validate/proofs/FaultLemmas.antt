-- The first fault of nodes with their roots, part by part.
use Rattle.std.proofs.Common.{◌≡◌, ℕ, suc, ◌+◌, ◌<◌, true, List, [], ◌∷◌, ◌++◌, None, All, length, map, get_or, refl, ap, arith}
use Rattle.std.specs.List.{concat, list_all}
use Rattle.std.specs.Cmp.{first_so, second_so}
use Rattle.std.specs.Prelude.{nat_lt}
use Rattle.std.proofs.lemmas.Bool.{ltb-true}
use Rattle.std.proofs.lemmas.List.{length-map, length-append, map-append}
use Rattle.std.proofs.lemmas.List.Elements.{All-nil, All-cons, All-append}
use Rattle.std.proofs.lemmas.List.Folds.{concat-append}
use Rattle.hir_node.specs.declared.type_ref.TypeRef.{TypeRef}
use Rattle.hir_node.specs.ChildCalls.{Call, OnExpr, OnAnonConst, OnPat, OnType, OnLifetime, child, children, expr_calls, pat_calls, type_calls}
use Rattle.hir_forest.specs.Forest.{IsForest}
use Rattle.hir_forest.proofs.HeightLemmas.{forest_from_none}
use Rattle.hir_validate.specs.declared.sizes.Sizes.{Sizes}
use Rattle.hir_node.specs.declared.node_id.NodeId.{NodeId}
use Rattle.hir_node.specs.declared.node_id.NodeId.TheVariants as node
use Rattle.hir_validate.specs.Sizes.{is_in_range, place, places}
use Rattle.hir_validate.specs.TestedParts.{TestedParts, tested_expr, tested_pat, tested_type, ids_in_range}
use Rattle.hir_validate.specs.Nodes.{Nodes, sizes_of, graph}
use Rattle.hir_validate.specs.Faults.{RootedNodes, node_fault, nothing_tested, first_of, first_bad_node, graph_fault, rooted_fault, ends_of}

-- a node without a fault names ids in range
ids_are_in_range : (sizes : Sizes) (types : List TypeRef) (id : NodeId) (x : TestedParts) → node_fault sizes types id x None → ids_in_range sizes x ≡ true
unfolding node_fault
ids_are_in_range sizes types id x h = h.0

all_nodes : Sizes → ℕ
all_nodes sizes = sizes.exprs + sizes.pats + sizes.types

lt_from : (a b : ℕ) → nat_lt a b ≡ true → a < b
lt_from a b h = ltb-true a b h

-- the places of children in range are below the number of nodes
module _ (sizes : Sizes) where
  abbrev In : ℕ → Type 0
  In n = n < sizes.exprs + sizes.pats + sizes.types

  one : (n : ℕ) → In n → All In (n ∷ [])
  one n h = All-cons In n [] h (All-nil In)

  call_below : (c : Call) → is_in_range sizes c ≡ true → All In (map (place sizes) (child c))
  call_below (OnExpr id) h = let lt = lt_from id sizes.exprs h in one id (omega (arith, lt))
  call_below (OnAnonConst id) h = let lt = lt_from id sizes.exprs h in one id (omega (arith, lt))
  call_below (OnPat id) h = let lt = lt_from id sizes.pats h in one (sizes.exprs + id) (omega (arith, lt))
  call_below (OnType id) h = let lt = lt_from id sizes.types h in one (sizes.exprs + sizes.pats + id) (omega (arith, lt))
  call_below (OnLifetime id) h = All-nil In

  calls_below : (calls : List Call) → list_all (is_in_range sizes) calls ≡ true → All In (places sizes calls)
  calls_below [] h = All-nil In
  calls_below (c ∷ calls) h =
      rw (map-append (place sizes) (child c) (children calls))
      (All-append In (map (place sizes) (child c)) (places sizes calls) (call_below c (first_so _ _ h)) (calls_below calls (second_so _ _ h)))

  parts_below : (parts : List TestedParts) → ((i : ℕ) → i < length parts → ids_in_range sizes (get_or parts i nothing_tested) ≡ true)
      → All In (concat (map (λ x. places sizes x.calls) parts))
  parts_below [] h = All-nil In
  parts_below (x ∷ parts) h =
      All-append In (places sizes x.calls) (concat (map (λ x. places sizes x.calls) parts)) (calls_below x.calls (first_so _ _ (first_so _ _ (h 0 (omega arith))))) (parts_below parts (λ i lt. h (suc i) (omega arith)))

of_sort : (sizes : Sizes) (types : List TypeRef) (name : ℕ → NodeId) (parts : List TestedParts) → first_of sizes types name parts None
    → All (λ n. n < sizes.exprs + sizes.pats + sizes.types) (concat (map (λ x. places sizes x.calls) parts))
of_sort sizes types name parts h = parts_below sizes parts (λ i lt. ids_are_in_range sizes types (name i) (get_or parts i nothing_tested) (h i lt))

pub map-map : {X Y Z : Type 0} (f : Y → Z) (g : X → Y) (xs : List X) → map f (map g xs) ≡ map (λ x. f (g x)) xs
map-map f g [] = refl
map-map f g (x ∷ xs) = ap (λ rest. f (g x) ∷ rest) (map-map f g xs)

-- the graph as the lists of the three sorts
pub graph-is : (s : Nodes) → graph s ≡
    map (λ x. places (sizes_of s) (tested_expr x).calls) s.exprs
    ++ map (λ x. places (sizes_of s) (tested_pat x).calls) s.pats
    ++ map (λ x. places (sizes_of s) (tested_type x).calls) s.types
graph-is s =
    let row : List Call → List ℕ = places (sizes_of s) in
    rw (
      map-append row (map expr_calls s.exprs ++ map pat_calls s.pats) (map type_calls s.types),
      map-append row (map expr_calls s.exprs) (map pat_calls s.pats),
      map-map row expr_calls s.exprs,
      map-map row pat_calls s.pats,
      map-map row type_calls s.types,
    ) refl

pub graph-length : (s : Nodes) → length (graph s) ≡ length s.exprs + length s.pats + length s.types
graph-length s =
    rw (length-map, length-append, length-append, length-map, length-map, length-map) (omega arith)

-- if each node names ids in range, each child of an edge is a node
pub children_in_range : (s : Nodes) → first_bad_node s None → All (λ n. n < length (graph s)) (concat (graph s))
unfolding first_bad_node
children_in_range s h =
    let z = sizes_of s in
    let exprs = rw (map-map (λ x. places z x.calls) tested_expr s.exprs) at (of_sort z s.types node.Expr (map tested_expr s.exprs) h.0) in
    let pats = rw (map-map (λ x. places z x.calls) tested_pat s.pats) at (of_sort z s.types node.Pat (map tested_pat s.pats) h.1.0) in
    let types = rw (map-map (λ x. places z x.calls) tested_type s.types) at (of_sort z s.types node.TypeRef (map tested_type s.types) h.1.1) in
    let below : ℕ → Type 0 = λ n. n < z.exprs + z.pats + z.types in
    rw (graph-length s, graph-is s, concat-append, concat-append) (All-append below _ _ (All-append below _ _ exprs pats) types)

-- nodes without a fault are a forest
pub accepted_forest : (c : RootedNodes) → rooted_fault c None → IsForest (graph c.nodes)
unfolding rooted_fault graph_fault
accepted_forest c h = forest_from_none (graph c.nodes) (ends_of c.nodes) c.roots (children_in_range c.nodes h.0) h.1
