-- Which nodes are descendants of a marked node, from parent to parent, and what is noted of them.
use Rattle.std.proofs.Common.{◌≡◌, ℕ, zero, suc, ◌<◌, ◌↔◌, Bool, true, false, List, Option, Some, None, length, get_or, set, replicate, inl, inr, refl, sym, ◌∙◌, subst}
use Rattle.std.proofs.lemmas.Bool.{cases_eq, false≢true}
use Rattle.std.proofs.lemmas.List.{get_or-set_same, get_or-set_other}
use Rattle.hir_forest.specs.Forest.{IsChild, Climbs, Marks, LiesUnderMarked}
use Rattle.hir_forest.specs.Parents.{HasParents}
use Rattle.hir_forest.specs.internal.Parents.{AreKnown}
use Rattle.hir_forest.proofs.ChainLemmas.{only_parent, has_child}

module _ (g : List (List ℕ)) (parents : List (Option ℕ)) (h : HasParents g parents) (marked : List Bool) where
  -- a node whose parent is marked is a descendant of it
  pub under_parent : (at parent : ℕ) → get_or parents at None ≡ Some parent → Marks marked parent → LiesUnderMarked g marked at
  under_parent at parent is m = (parent, m, (zero, (parent, has_child g parents h at parent is, refl)))

  -- a node whose parent isn't marked is a descendant of a marked one exactly if its parent is
  pub under_same : (at parent : ℕ) → get_or parents at None ≡ Some parent → get_or marked parent false ≡ false → LiesUnderMarked g marked at ↔ LiesUnderMarked g marked parent
  under_same at parent is un = (
    λ l. above l.0 l.1 l.2.0 l.2.1.0 (only_parent g parents h l.2.1.0 parent at l.2.1.1 (has_child g parents h at parent is)) l.2.1.2,
    λ l. (l.0, l.1, (suc l.2.0, (parent, has_child g parents h at parent is, l.2.1))),
  )
    where
      above : (r : ℕ) → Marks marked r → (k q : ℕ) → q ≡ parent → Climbs g k q r → LiesUnderMarked g marked parent
      above r m zero q e u = absurd (false≢true (sym un ∙ subst (Marks marked) (sym u ∙ e) m))
      above r m (suc k) q e u = (r, m, (k, subst (λ (x : ℕ). Climbs g (suc k) x r) e u))

-- what is known stays right with one node more of which it is known
pub known_more : (g : List (List ℕ)) (marked known under : List Bool) (at : ℕ) (b : Bool) → at < length known → at < length under → AreKnown g marked known under → (b ≡ true) ↔ LiesUnderMarked g marked at
    → AreKnown g marked (set known at true) (set under at b)
known_more g marked known under at b in' low right here c m =
    elim (cases_eq c at) [
      | inl e ↦ subst (λ (n : ℕ). Marks (set under at b) n ↔ LiesUnderMarked g marked n) (sym e) (let is = get_or-set_same under at b false low in (λ t. here.0 (sym is ∙ t), λ l. is ∙ here.1 l))
      | inr ne ↦ (let is = get_or-set_other under at c b false ne in let old = right c (sym (get_or-set_other known at c true false ne) ∙ m) in (λ t. old.0 (sym is ∙ t), λ l. is ∙ old.1 l))
    ]

-- a table of no marks
pub none_marked : (n c : ℕ) → Marks (replicate n false) c → ⊥
none_marked zero c m = false≢true m
none_marked (suc n) zero m = false≢true m
none_marked (suc n) (suc c) m = none_marked n c m
