use Rattle.hir_validate.proofs.EdgeLemmas.{pat_within}
use Rattle.hir_validate.proofs.edges.EdgeVisitorStoreVisitor.on_pat.Goals as goal

pub note-requires-clause-within : goal.note-requires-clause-within
note-requires-clause-within c = pat_within c.args.self.now c.requires _
