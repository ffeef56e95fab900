use Rattle.std.proofs.Common.{refl}
use Rattle.hir_show_io.proofs.lines.LineReader.new.Goals as goal

pub returns : goal.returns
returns c = refl
