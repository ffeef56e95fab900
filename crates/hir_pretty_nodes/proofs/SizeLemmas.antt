-- How much is to be done for what is printed.
use Rattle.std.proofs.Common.{◌≡◌, ℕ, zero, suc, ◌+◌, ◌<◌, ◌≤◌, Bool, true, false, List, [], ◌∷◌, ◌++◌, codes, refl, arith, ◌==◌, if◌then◌else◌, flat_map}
use Rattle.hir_pretty_nodes.specs.Prelude.{NodeId, PrintEnv, Doc, Put, MissingDoc, ExprDoc, ExprIn, Pattern, TypeDoc, text}
use Rattle.hir_pretty_nodes.specs.Prelude.{is_word, raw_parts, name_docs, same_text, docs_of, AllNodes, DocsDecrease, total}
use Rattle.hir_pretty_nodes.specs.Prelude.{doc_size, node_size_step, node_size, size, enclose}
use Rattle.hir_validate.specs.Recursion.{rank, fold_down_within, fold_down}
use Rattle.hir_pretty_nodes.proofs.StepLemmas.{nodes_weaker}

pub total-append : {X : Type 0} (f : X → ℕ) (xs ys : List X) → total f (xs ++ ys) ≡ total f xs + total f ys
total-append f [] ys = omega arith
total-append f (x ∷ xs) ys = omega (arith, total-append f xs ys)

pub size-append : (s : PrintEnv) (xs ys : List Doc) → size s (xs ++ ys) ≡ size s xs + size s ys
size-append s xs ys = total-append (doc_size (node_size s)) xs ys

-- 1. The weight of a node is its step's

same_sizes : (f g : NodeId → ℕ) (is : List Doc) → AllNodes (λ k. f k ≡ g k) is → total (doc_size f) is ≡ total (doc_size g) is
same_sizes f g [] a = refl
same_sizes f g (Put piece ∷ is) a = omega (arith, same_sizes f g is a)
same_sizes f g (MissingDoc missing ∷ is) a = omega (arith, same_sizes f g is a)
same_sizes f g (ExprDoc id ∷ is) a = omega (arith, same_sizes f g is a.1, a.0)
same_sizes f g (ExprIn id parent ∷ is) a = omega (arith, same_sizes f g is a.1, a.0)
same_sizes f g (Pattern id ∷ is) a = omega (arith, same_sizes f g is a.1, a.0)
same_sizes f g (TypeDoc id ∷ is) a = omega (arith, same_sizes f g is a.1, a.0)

module _ (s : PrintEnv) (fall : DocsDecrease s) where
  same_step : (f g : NodeId → ℕ) (n : NodeId) → AllNodes (λ k. f k ≡ g k) (docs_of s n) → node_size_step s f n ≡ node_size_step s g n
  same_step f g n a = same_sizes f g (docs_of s n) a

  stable : (d e : ℕ) (n : NodeId) → rank s.nodes n < d → rank s.nodes n < e → fold_down_within (node_size_step s) 0 d n ≡ fold_down_within (node_size_step s) 0 e n
  stable zero e n v w = absurd (omega arith)
  stable (suc d) zero n v w = absurd (omega arith)
  stable (suc d) (suc e) n v w =
      same_step (fold_down_within (node_size_step s) 0 d) (fold_down_within (node_size_step s) 0 e) n
      (nodes_weaker (λ k. rank s.nodes k < rank s.nodes n) _ (λ k low. stable d e k (omega arith) (omega arith)) (docs_of s n) (fall n))

  pub node_size_at : (n : NodeId) → node_size s n ≡ node_size_step s (node_size s) n
  unfolding node_size fold_down
  node_size_at n =
      same_step (fold_down_within (node_size_step s) 0 (rank s.nodes n)) (node_size s) n
      (nodes_weaker (λ k. rank s.nodes k < rank s.nodes n) _ (λ k low. stable (rank s.nodes n) (suc (rank s.nodes k)) k low (omega arith)) (docs_of s n) (fall n))

-- 2. Sizes of documents

pub enclosed_size : (s : PrintEnv) (b : Bool) (is : List Doc) → size s (enclose b is) ≤ 2 + size s is
enclosed_size s false is = let k = total-append (doc_size (node_size s)) is [] in omega arith
enclosed_size s true is = let k = total-append (doc_size (node_size s)) is (text (codes ")")) in omega arith

raw_size : (s : PrintEnv) (b : Bool) (name : List ℕ) → 0 < size s (flat_map text (if b then codes "r#" ∷ name ∷ [] else name ∷ []))
raw_size s true name = omega arith
raw_size s false name = omega arith

quoted_size : (s : PrintEnv) (b : Bool) (whole quote : List ℕ) (parts : List (List ℕ)) → 0 < size s (flat_map text (if b then whole ∷ [] else quote ∷ parts))
quoted_size s true whole quote parts = omega arith
quoted_size s false whole quote parts = omega arith

either_size : (s : PrintEnv) (b : Bool) (xs ys : List (List ℕ)) → 0 < size s (flat_map text xs) → 0 < size s (flat_map text ys)
    → 0 < size s (flat_map text (if b then xs else ys))
either_size s true xs ys k l = k
either_size s false xs ys k l = l

pub name_size : (s : PrintEnv) (name : List ℕ) → 0 < size s (name_docs s name)
name_size s [] = raw_size s (is_word s.words []) []
name_size s (c ∷ cs) = either_size s (c == 39) _ _ (quoted_size s (same_text cs (codes "static")) (c ∷ cs) (c ∷ [])
    (raw_parts s.words cs)) (raw_size s (is_word s.words (c ∷ cs)) (c ∷ cs))
