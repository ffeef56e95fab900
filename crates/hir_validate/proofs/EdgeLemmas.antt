-- What a run of calls leaves of the visitor that notes parents, and what the visits of several nodes leave.
use Rattle.std.proofs.Common.{◌≡◌, ℕ, ◌+◌, ◌<◌, ◌≤◌, Bool, true, false, ◌&&◌, List, [], ◌∷◌, ◌++◌, Option, Some, None, length, map, take, get_or, refl, ap, sym, ◌∙◌, subst, append_assoc, arith}
use Rattle.std.specs.Prelude.{IfNone, IsTrue, nat_lt}
use Rattle.std.specs.List.{list_all}
use Rattle.std.specs.Cmp.{first_so}
use Rattle.std.proofs.lemmas.Bool.{ltb-true}
use Rattle.std.proofs.lemmas.List.{append-nil, map-append, length-append, length-map, map_more}
use Rattle.hir_forest.specs.Rows.{with_children}
use Rattle.hir_forest.specs.Parents.{Parentage, IsParentageOf}
use Rattle.hir_forest.proofs.RowsLemmas.{with_children-more, with_children-fresh}
use Rattle.hir_forest.proofs.ParentLemmas.{with_children-nothing}
use Rattle.hir_node.specs.ChildCalls.{Call, child, children}
use Rattle.hir_node.specs.Runs.{Runs, no_call, a_call, MayRun, at_end, at_call}
use Rattle.hir_validate.specs.declared.edges.EdgeVisitor.{EdgeVisitor}
use Rattle.hir_validate.specs.declared.sizes.Sizes.{Sizes}
use Rattle.hir_validate.specs.Sizes.{Few, is_in_range, place, places}
use Rattle.hir_validate.specs.TestedParts.{TestedParts, tested_expr, tested_pat, tested_type}
use Rattle.hir_validate.specs.Nodes.{Nodes, sizes_of, graph}
use Rattle.hir_validate.specs.internal.Edges.{HasRoomForNodes, CanNote, NotesIds, Notes, CanVisit, VisitsNodes, all_tested}
use Rattle.hir_validate.proofs.RangeLemmas.{and_true, and_assoc}
use Rattle.hir_validate.proofs.FaultLemmas.{map-map, graph-is}

pub and_false : (b : Bool) → false ≡ (b && false)
and_false true = refl
and_false false = refl

-- nothing more
pub noted_none : (v : EdgeVisitor) → NotesIds v true [] v
noted_none v = record {
  sizes = refl;
  room = refl;
  rows = refl;
  in_range = and_true v.all_in_range;
  children = λ t g h. subst (λ (rows : List (List ℕ)). IsParentageOf rows v.parents) (with_children-nothing g) h;
}

-- in two parts
pub noted_both : (u v w : EdgeVisitor) (a b : Bool) (xs ys : List ℕ) → NotesIds u a xs v → NotesIds v b ys w → NotesIds u (a && b) (xs ++ ys) w
noted_both u v w a b xs ys p q = record {
  sizes = q.sizes ∙ p.sizes;
  room = q.room ∙ p.room;
  rows = q.rows ∙ p.rows;
  in_range = q.in_range ∙ (rw p.in_range (and_assoc u.all_in_range a b));
  children = λ t g h.
      let before : IsTrue v.all_in_range = first_so _ _ (sym q.in_range ∙ t) in
      subst (λ (rows : List (List ℕ)). IsParentageOf rows w.parents) (with_children-more g xs ys) (q.children t (with_children g xs) (p.children before g h));
}

places_more : (sizes : Sizes) (c : Call) (calls : List Call) → places sizes (c ∷ []) ++ places sizes calls ≡ places sizes (c ∷ calls)
places_more sizes c calls =
    ap (λ front. map (place sizes) front ++ map (place sizes) (children calls)) (append-nil (child c))
    ∙ sym (map-append (place sizes) (child c) (children calls))

-- each call is noted
pub noted_all : {v w : EdgeVisitor} {calls : List Call} → Runs Notes v calls w → NotesIds v (list_all (is_in_range v.sizes) calls) (places v.sizes calls) w
noted_all {v} no_call = noted_none v
noted_all {v} {w} (a_call {v = x} {c} {cs} s rest) =
    let more : NotesIds x (list_all (is_in_range v.sizes) cs) (places v.sizes cs) w = subst (λ (z : Sizes). NotesIds x (list_all (is_in_range z) cs) (places z cs) w) s.sizes (noted_all rest) in
    subst (λ (ps : List ℕ). NotesIds v (list_all (is_in_range v.sizes) (c ∷ cs)) ps w) (places_more v.sizes c cs)
    (noted_both v x w (is_in_range v.sizes c) (list_all (is_in_range v.sizes) cs) (places v.sizes (c ∷ [])) (places v.sizes cs) s more)

-- the room stays, and the list of children
room_still : (v w : EdgeVisitor) → w.sizes ≡ v.sizes → length w.parents.parents ≡ length v.parents.parents → HasRoomForNodes v → HasRoomForNodes w
room_still v w sizes room has = record {
  few = subst Few (sym sizes) has.few;
  nodes = room ∙ has.nodes ∙ ap (λ (z : Sizes). z.exprs + z.pats + z.types) (sym sizes);
}

can_still : (v w : EdgeVisitor) (in_range : Bool) (children : List ℕ) → CanNote v → NotesIds v in_range children w → CanNote w
can_still v w in_range children can p = (room_still v w p.sizes p.room can.0, let some = can.1 in let rows = p.rows in omega arith)

pub may_note : (may : EdgeVisitor → Call → Type 0) → ((v : EdgeVisitor) (c : Call) → CanNote v → may v c) → (calls : List Call) (v : EdgeVisitor) → CanNote v → MayRun may Notes v calls
may_note may can [] v h = at_end
may_note may can (c ∷ calls) v h = at_call (can v c h) (λ w s. may_note may can calls w (can_still v w (is_in_range v.sizes c) (places v.sizes (c ∷ [])) h s))

-- a list of children is begun for a node, and its calls are noted
pub visited_one : (v b w : EdgeVisitor) (x : TestedParts) → IsTrue v.all_in_range
    → b.sizes ≡ v.sizes → b.all_in_range ≡ v.all_in_range → b.parents.rows ≡ v.parents.rows + 1 → length b.parents.parents ≡ length v.parents.parents
    → ((g : List (List ℕ)) → IsParentageOf g v.parents → IsParentageOf (g ++ [] ∷ []) b.parents)
    → NotesIds b (list_all (is_in_range v.sizes) x.calls) (places v.sizes x.calls) w → IsTrue w.all_in_range → VisitsNodes v (x ∷ []) w
visited_one v b w x good sizes same rows room begun p t = record {
  sizes = p.sizes ∙ sizes;
  room = p.room ∙ room;
  rows = p.rows ∙ rows;
  in_range = t;
  children = λ g h. subst (λ (more : List (List ℕ)). IsParentageOf more w.parents) (with_children-fresh g (places v.sizes x.calls)) (p.children t (g ++ [] ∷ []) (begun g h));
}

-- visits in two parts
pub visited_none : (v : EdgeVisitor) → IsTrue v.all_in_range → VisitsNodes v [] v
visited_none v t = record {
  sizes = refl;
  room = refl;
  rows = omega arith;
  in_range = t;
  children = λ g h. subst (λ (more : List (List ℕ)). IsParentageOf more v.parents) (sym (append-nil g)) h;
}

pub visited_both : (u v w : EdgeVisitor) (xs ys : List TestedParts) → VisitsNodes u xs v → VisitsNodes v ys w → VisitsNodes u (xs ++ ys) w
visited_both u v w xs ys p q = record {
  sizes = q.sizes ∙ p.sizes;
  room = q.room ∙ p.room;
  rows = omega (arith, p.rows, q.rows, length-append xs ys);
  in_range = q.in_range;
  children = λ g h.
      let row : Sizes → TestedParts → List ℕ = λ z x. places z x.calls in
      let first = p.children g h in
      let second : IsParentageOf ((g ++ map (row u.sizes) xs) ++ map (row u.sizes) ys) w.parents =
      subst (λ (z : Sizes). IsParentageOf ((g ++ map (row u.sizes) xs) ++ map (row z) ys) w.parents) p.sizes (q.children (g ++ map (row u.sizes) xs) first) in
      subst (λ (more : List (List ℕ)). IsParentageOf more w.parents) (append_assoc g (map (row u.sizes) xs) (map (row u.sizes) ys) ∙ ap (λ (more : List (List ℕ)). g ++ more) (sym (map-append (row u.sizes) xs ys))) second;
}

-- there is room for those that are left
pub can_visit_on : (v w : EdgeVisitor) (xs : List TestedParts) (n m : ℕ) → CanVisit v n → VisitsNodes v xs w → length xs + m ≤ n → CanVisit w m
can_visit_on v w xs n m can p le = record {
  room = room_still v w p.sizes p.room can.room;
  in_range = p.in_range;
  rows = omega (arith, p.rows, p.room, can.rows);
}

pub can_visit_less : (v : EdgeVisitor) (n m : ℕ) → CanVisit v n → m ≤ n → CanVisit v m
can_visit_less v n m can le = record { room = can.room; in_range = can.in_range; rows = omega (arith, can.rows) }

pub if_none : {X : Type 0} (o : Option X) (P : Type 0) → P → IfNone o P
if_none None P p = p
if_none (Some x) P p = tt

-- the places of ids in range
pub expr_within : (v : EdgeVisitor) → CanNote v → (n : ℕ) → IsTrue (nat_lt n v.sizes.exprs) → n < length v.parents.parents
expr_within v can n t = let lt = ltb-true n v.sizes.exprs t in omega (arith, can.0.nodes)

pub pat_within : (v : EdgeVisitor) → CanNote v → (n : ℕ) → IsTrue (nat_lt n v.sizes.pats) → v.sizes.exprs + n < length v.parents.parents
pat_within v can n t = let lt = ltb-true n v.sizes.pats t in omega (arith, can.0.nodes)

pub type_within : (v : EdgeVisitor) → CanNote v → (n : ℕ) → IsTrue (nat_lt n v.sizes.types) → v.sizes.exprs + v.sizes.pats + n < length v.parents.parents
type_within v can n t = let lt = ltb-true n v.sizes.types t in omega (arith, can.0.nodes)

-- nothing but a test
pub noted_test : (v w : EdgeVisitor) (b : Bool) → w.sizes ≡ v.sizes → w.parents ≡ v.parents → w.all_in_range ≡ (v.all_in_range && b) → NotesIds v b [] w
noted_test v w b sizes parents in_range = record {
  sizes = sizes;
  room = ap (λ (t : Parentage). length t.parents) parents;
  rows = ap (λ (t : Parentage). t.rows) parents;
  in_range = in_range;
  children = λ t g h. subst (λ (rows : List (List ℕ)). IsParentageOf rows w.parents) (with_children-nothing g) (subst (IsParentageOf g) (sym parents) h);
}

-- the lists of children of all nodes are the graph
pub all_rows : (s : Nodes) → map (λ x. places (sizes_of s) x.calls) (all_tested s) ≡ graph s
all_rows s =
    let row : TestedParts → List ℕ = λ x. places (sizes_of s) x.calls in
    map-append row (map tested_expr s.exprs ++ map tested_pat s.pats) (map tested_type s.types)
    ∙ (rw (
      map-append row (map tested_expr s.exprs) (map tested_pat s.pats),
      map-map row tested_expr s.exprs,
      map-map row tested_pat s.pats,
      map-map row tested_type s.types,
    ) (sym (graph-is s)))

pub all_count : (s : Nodes) → length (all_tested s) ≡ length s.exprs + length s.pats + length s.types
all_count s = rw (length-append, length-append, length-map, length-map, length-map) refl

-- one node more
pub tested_more : {X : Type 0} (parts : X → TestedParts) (xs : List X) (i : ℕ) (x : X) → i < length xs → x ≡ get_or xs i x → map parts (take i xs) ++ parts x ∷ [] ≡ map parts (take (i + 1) xs)
tested_more parts xs i x lt is = ap (λ (y : TestedParts). map parts (take i xs) ++ y ∷ []) (ap parts is) ∙ sym (map_more parts xs i x lt)

pub if_none_so : {X : Type 0} (o : Option X) (P Q : Type 0) → (P → Q) → IfNone o P → IfNone o Q
if_none_so None P Q f p = f p
if_none_so (Some x) P Q f p = tt
