-- Each entry is in one frame: what is told of entries over all nodes under a node is what its frames hold, and, of a
-- pattern, what it binds.
use Rattle.std.proofs.Common.{◌≡◌, ℕ, zero, suc, ◌+◌, ◌<◌, List, [], ◌∷◌, ◌++◌, length, refl, sym, ap, ◌∙◌, arith, Option, Some, None, rules}
use Rattle.std.proofs.Common.{true, length-append}
use Rattle.std.proofs.lemmas.{Bool.ltb-true, List.Concat.length-flat_map, List.Elements.All-contains}
use Rattle.std.proofs.lemmas.List.{Sorted.sum_by-IsPermutation, Sums.AllPass-from_list_all}
use Rattle.std.specs.Cmp.{first_so, second_so}
use Rattle.std.specs.{List.flat_map, List.slice_get, List.sum_by, List.list_all, Prelude.nat_lt}
use Rattle.hir_node.specs.ChildCalls.{Call, OnLifetime, child, children, pat_of_call, pat_calls}
use Rattle.hir_node.specs.{OtherIds.pat_bindings, declared.binding.Binding.Binding}
use Rattle.hir_node.specs.declared.{node_id.NodeId.NodeId, pat.Pat.Pat}
use Rattle.hir_validate.specs.{Recursion.rank, Recursion.RankDecreases, declared.node_arenas.Nodes.Nodes, Nodes.Has, Nodes.children_of}
use Rattle.hir_validate.specs.{Nodes.calls_of}
use Rattle.hir_validate.specs.{Sound.IsSoundNode, TestedParts.all_of, TestedParts.tested_pat}
use Rattle.hir_validate.proofs.SoundLemmas.{item_at}
use Rattle.hir_store_core.specs.PatLists.{pats, bindings_at, bindings_in, child_pats_of}
use Rattle.hir_scope.specs.Counts.{node_entries}
use Rattle.hir_scope.specs.ScopingForms.{form_at, form_of, pat_form}
use Rattle.hir_scope.specs.Frames.{entry_at, entry_of, binds}
use Rattle.hir_scope.specs.{ChildContexts.child_contexts, declared.tasks.CurrentScopes.CurrentScopes}
use Rattle.hir_scope.specs.internal.WalkState.{about, count_entries, total, node_frames}
use Rattle.hir_scope.specs.internal.Pending.{form_tasks}
use Rattle.hir_scope.proofs.CountLemmas.{MeetsNone, expr_meets, type_meets, bound_by, form_entries, turn_entries, form_frames, total_at}
use Rattle.hir_scope.proofs.ChildLemmas.{children_of_form, children_in, child_contexts_children, about_form}
use Rattle.hir_scope.proofs.MemberLemmas.{In, contains_in, flat_map_in, sum_flat, sum_same, sum_plus, sum_ones}
use Rattle.std.proofs.lemmas.Grind.{common_steps}

-- 1. Each binding of a pattern exists, and is one entry

all_below : (n : ℕ) (xs : List ℕ) → list_all (λ id. nat_lt id n) xs ≡ true → (b : ℕ) → In b xs → b < n
all_below n xs t b i = search (rules, ltb-true, All-contains, AllPass-from_list_all, contains_in)

abbrev pub PatsSound : Nodes → Type 0
PatsSound s = (id : ℕ) (x : Pat) → slice_get s.pats id ≡ Some x → IsSoundNode s (tested_pat x)

binding_known : (s : Nodes) → PatsSound s → (id b : ℕ) → In b (bindings_at s id) → b < length s.bindings
binding_known s sound id b = at (slice_get s.pats id) refl where
  at : (o : Option Pat) → slice_get s.pats id ≡ o → In b (all_of pat_bindings o) → b < length s.bindings
  at None e i = absurd i
  at (Some x) e i = all_below (length s.bindings) (pat_bindings x) (second_so _ _ (first_so _ _ (sound id x e).in_range)) b i

pub one_entry : (s : Nodes) (b : ℕ) → b < length s.bindings → length (entry_at s b) ≡ 1
one_entry s b h = let x = item_at s.bindings b h in ap (λ (o : Option Binding). length (all_of (λ (y : Binding). entry_of b y ∷ []) o)) x.1

binds_length : (s : Nodes) → PatsSound s → (id : ℕ) → length (binds s id) ≡ length (bindings_in s id)
binds_length s sound id =
    length-flat_map (entry_at s) (bindings_in s id)
    ∙ sum_ones (λ b. length (entry_at s b)) (bindings_in s id) (λ b i.
    let q = flat_map_in (bindings_at s) b (pats s id) i in
    one_entry s b (binding_known s sound q.0 b q.2))

-- 2. What a node tells by itself

abbrev pub no_around : CurrentScopes
no_around = record { scope = 0; const_scope = 0 }

abbrev pub entries_of_node : Nodes → NodeId → ℕ
entries_of_node s n = sum_by count_entries (node_frames s n)

module _ (s : Nodes) (fall : RankDecreases s) where
  -- over the children of a node, or those that its tasks are about
  children_bound : (n : NodeId) → sum_by (bound_by s) (about (form_tasks no_around (form_of s n))) ≡ sum_by (bound_by s) (children_of s n)
  unfolding child_contexts
  children_bound n =
      ap (λ (ns : List NodeId). sum_by (bound_by s) ns) (about_form no_around (form_of s n) ∙ sym (children_of_form s (form_of s n)))
      ∙ sum_by-IsPermutation (bound_by s) (children_of s n) (children_in (child_contexts s n)) (child_contexts_children s n)

  expr_meets_at : (id : ℕ) → MeetsNone (form_of s (NodeId.Expr id))
  expr_meets_at id = search (rules, MeetsNone, expr_meets)

  type_meets_at : (id : ℕ) → MeetsNone (form_of s (NodeId.TypeRef id))
  type_meets_at id = search (rules, MeetsNone, type_meets)

  -- over calls, what their patterns bind
  call_bound : (c : Call) → sum_by (bound_by s) (child c) ≡ sum_by (λ q. length (binds s q)) (pat_of_call c)
  call_bound (OnLifetime x) = refl
  call_bound _ = refl

  calls_bound : (cs : List Call) → sum_by (bound_by s) (children cs) ≡ sum_by (λ q. length (binds s q)) (flat_map pat_of_call cs)
  calls_bound cs = search (rules, sum_flat, bound_by, sum_same, call_bound)

  pat_empty : (id : ℕ) → entries_of_node s (NodeId.Pat id) ≡ 0
  pat_empty id = at (slice_get s.pats id) where
    at : (o : Option Pat) → sum_by count_entries (form_frames s no_around (form_at pat_form o)) ≡ 0
    at None = turn_entries s no_around []
    at (Some x) = turn_entries s no_around (pat_calls x)

  module _ (sound : PatsSound s) (told : (id : ℕ) → id < length s.pats → bindings_in s id
      ≡ bindings_at s id ++ flat_map (bindings_in s) (child_pats_of s id)) where
    bound_told : (id : ℕ) → id < length s.pats → length (binds s id)
        ≡ length (bindings_at s id) + sum_by (λ q. length (binds s q)) (child_pats_of s id)
    bound_told id h = search (rules, length-append, sum_same, binds_length, length-flat_map)

    node_told : (n : NodeId) → Has s n → node_entries s n + sum_by (bound_by s) (children_of s n) ≡ bound_by s n + entries_of_node s n
    node_told (NodeId.Expr id) h = search (rules, form_entries, expr_meets_at, children_bound)
    node_told (NodeId.TypeRef id) h = search (rules, form_entries, type_meets_at, children_bound)
    node_told (NodeId.Pat id) h = omega (arith, bound_told id h, calls_bound (calls_of s (NodeId.Pat id)), pat_empty id)

    -- 3. With all nodes under it

    entries_under : (n : ℕ) (m : NodeId) → rank s m < n → Has s m → total s (node_entries s) m
        ≡ bound_by s m + total s (entries_of_node s) m
    entries_under zero m l h = absurd (omega (arith, l))
    entries_under (suc n) m l h =
        let a = total_at s fall (node_entries s) m h in
        let b = total_at s fall (entries_of_node s) m h in
        let d = node_told m h in
        let r = sum_same (total s (node_entries s)) (λ k. bound_by s k + total s (entries_of_node s) k) (children_of s m) (λ k i.
        let c = contains_in (children_of s m) k i in
        entries_under n k (let low = fall.lower m h k c in omega (arith, low, l)) (fall.in_range m h k c)) in
        omega (arith, a, b, d, r, sum_plus (bound_by s) (total s (entries_of_node s)) (children_of s m))

    -- over some entry nodes: what they bind themselves, and what is in the frames of all nodes under them
    pub entries_total : (entry_nodes : List NodeId) → ((n : NodeId) → In n entry_nodes → Has s n) →
        sum_by (total s (node_entries s)) entry_nodes
        ≡ sum_by (bound_by s) entry_nodes + sum_by (total s (entries_of_node s)) entry_nodes
    entries_total entry_nodes in_range =
        grind (arith, common_steps, sum_same, bound_by s, entries_under, sum_plus (bound_by s) (total s (entries_of_node s)) entry_nodes)
