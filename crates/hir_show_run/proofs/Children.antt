-- What is known of an expression, by whether it exists; and of its root, by whether there is one.
use Rattle.std.proofs.Common.{◌≡◌, ◌<◌, ◌≤◌, ◌++◌, ℕ, List, Option, Some, None, IsSome, length, if◌then◌else◌, refl, ap, codes, decimal, lt-ltb, le-ltb}
use Rattle.hir_forest.specs.declared.roots.Root.{Root}
use Rattle.hir_validate.specs.declared.node_arenas.Nodes.{Nodes}
use Rattle.hir_store_core.specs.PatLists.{child_exprs}
use Rattle.hir_store_core.specs.RootSearch.{root_for_expr}
use Rattle.hir_show_run.specs.Answer.{children_text, root_text, found_text, after_spaces}

pub children_found : (s : Nodes) (e : ℕ) → e < length s.exprs → children_text s e ≡ codes " =" ++ after_spaces (child_exprs s e)
children_found s e h = ap (λ b. if b then codes " =" ++ after_spaces (child_exprs s e) else codes " unknown") (lt-ltb e (length s.exprs) h)

pub children_unknown : (s : Nodes) (e : ℕ) → length s.exprs ≤ e → children_text s e ≡ codes " unknown"
children_unknown s e h = ap (λ b. if b then codes " =" ++ after_spaces (child_exprs s e) else codes " unknown") (le-ltb e (length s.exprs) h)

pub root_found : (roots : List Root) (e root : ℕ) → Some root ≡ root_for_expr roots e → root_text roots e ≡ codes " = " ++ decimal root
root_found roots e root h = rw (← h) refl

-- there is none
pub root_none : (found : Option ℕ) → (IsSome found → ⊥) → found_text found ≡ codes " none"
root_none None h = refl
root_none (Some root) h = absurd (h refl)
