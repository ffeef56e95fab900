use Rattle.std.proofs.Common.{sym, ◌∙◌}
use Rattle.hir_path.specs.Segments.{or_none, segments_in}
use Rattle.hir_path.proofs.SegmentLemmas.{last-zipped}
use Rattle.hir_path.proofs.segments.PathSegments.last.Goals as goal

pub returns : goal.returns
returns c = c.get.ensures ∙ sym (last-zipped (segments_in c.args.self.now).names (or_none (segments_in c.args.self.now).lists))
