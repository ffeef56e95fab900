use Rattle.hir_validate.proofs.EdgeLemmas.{expr_within}
use Rattle.hir_validate.proofs.edges.EdgeVisitorStoreVisitor.on_anon_const_expr.Goals as goal

pub note-requires-clause-within : goal.note-requires-clause-within
note-requires-clause-within c = expr_within c.args.self.now c.requires _
