use Rattle.hir_validate.proofs.EdgeLemmas.{type_within}
use Rattle.hir_validate.proofs.edges.EdgeVisitorStoreVisitor.on_type.Goals as goal

pub note-requires-clause-within : goal.note-requires-clause-within
note-requires-clause-within c = type_within c.args.self.now c.requires _
