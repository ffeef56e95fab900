-- Defines the two readings of an id that is of an expression or of a pattern, and its text.
use Rattle.std.specs.Prelude.{ℕ, List, Option, Some, None, codes}
use Rattle.hir_collections.specs.IdText.{id_text}
use Rattle.hir_path.specs.declared.ids.ExprOrPatId.{ExprOrPatId}
use Rattle.hir_path.specs.declared.ids.ExprOrPatId.TheVariants as id
use Rattle.hir_path.specs.NodeIds.{ExprId, PatId}

abbrev pub expr_of : ExprOrPatId → Option ExprId
expr_of (id.ExprId n) = Some n
expr_of (id.PatId n) = None

abbrev pub pat_of : ExprOrPatId → Option PatId
pat_of (id.ExprId n) = None
pat_of (id.PatId n) = Some n

-- the text of the id that it holds, as `ExprId(3)`
abbrev pub expr_or_pat_text : ExprOrPatId → List ℕ
expr_or_pat_text (id.ExprId n) = id_text (codes "ExprId") n
expr_or_pat_text (id.PatId n) = id_text (codes "PatId") n
