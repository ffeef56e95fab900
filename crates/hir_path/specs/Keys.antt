-- Defines the code by which tables tell the ids of expressions and of patterns apart.
use Rattle.std.specs.Prelude.{◌≡◌, ℕ, List, [], ◌∷◌, Bool, Some}
use Rattle.std.specs.Bool.{Decides}
use Rattle.std.proofs.Common.{refl}
use Rattle.hir_base.specs.Keys.{read_id}
use Rattle.hir_collections.specs.Codes.{read_back_tells}
use Rattle.hir_path.specs.declared.ids.ExprOrPatId.{ExprOrPatId}
use Rattle.hir_path.specs.declared.ids.ExprOrPatId.TheVariants.{ExprId, PatId}

-- the number of the id, after 0 for an expression and 1 for a pattern
abbrev pub expr_or_pat_code : ExprOrPatId → List ℕ
expr_or_pat_code (ExprId id) = 0 ∷ id ∷ []
expr_or_pat_code (PatId id) = 1 ∷ id ∷ []

makers : List (ℕ → ExprOrPatId)
makers = (λ id. ExprId id) ∷ (λ id. PatId id) ∷ []

reads : (x : ExprOrPatId) → read_id makers (expr_or_pat_code x) ≡ Some x
unfolding makers
reads (ExprId id) = refl
reads (PatId id) = refl

pub expr_or_pat_tells : (b : Bool) (x y : ExprOrPatId) → Decides b (x ≡ y)
    → Decides b (expr_or_pat_code x ≡ expr_or_pat_code y)
expr_or_pat_tells = read_back_tells expr_or_pat_code (read_id makers) reads
