use Rattle.std.proofs.Common.{◌∷◌, [], decimal}
use Rattle.hir_show_run.proofs.WritingLemmas.{put_then}
use Rattle.hir_show_run.proofs.output.Output.put_spaced.Goals as goal

pub returns : goal.returns
returns g c = put_then g.W.Sink c.args.self.now c.put.new.self c.put_number.new.self (32 ∷ []) (decimal c.args.number) c.put.ensures c.put_number.ensures
