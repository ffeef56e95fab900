use Rattle.std.proofs.Common.{sym}
use Rattle.hir_path.specs.Segments.{or_none, segments_in}
use Rattle.hir_path.proofs.SegmentLemmas.{get_some, get_none}
use Rattle.hir_path.proofs.segments.PathSegments.get.Goals as goal

pub returns-in-None : goal.returns-in-None
returns-in-None c = sym (get_none (segments_in c.args.self.now).names (or_none (segments_in c.args.self.now).lists) c.args.idx c.get.result c.get.ensures.lookup c.in-None.is)

pub returns-in-Some : goal.returns-in-Some
returns-in-Some c =
    let found = get_some (segments_in c.args.self.now).names (or_none (segments_in c.args.self.now).lists) c.args.idx c.get.result c.in-Some.name c.get.ensures.lookup c.in-Some.is in
    rw c.args_at.ensures (sym found)
