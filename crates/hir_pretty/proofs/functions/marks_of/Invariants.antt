use Rattle.hir_pretty_docs.proofs.Common.{◌≡◌, ◌<◌, ◌==◌, ℕ, length, take, get_or, false, list_any}
use Rattle.hir_pretty.proofs.functions.marks_of.Given as goal

abbrev pub invariant-loop-place : goal.invariant-loop-place
invariant-loop-place l = record {
  same_length : length l.marks.items ≡ l.count;
  so_far : (i : ℕ) → i < l.count → get_or l.marks.items i false ≡ list_any (λ place. place == i) (take l.place-index l.places);
}
