use Rattle.std.proofs.Common.{◌≡◌, [], rules}
use Rattle.std.proofs.lemmas.Result.{on_ok_weaker}
use Rattle.hir_show_io.proofs.EndLemmas.{IsWrittenUpTo-twice}
use Rattle.hir_show_io.proofs.output.OutputBuffer.write.Goals as goal

pub returns-clause-bytes : goal.returns-clause-bytes
returns-clause-bytes g c =
    let none : c.hold-2.new.self ≡ [] = search rules in
    let same : c.hold.new.self ≡ c.args.self.now = search rules in
    on_ok_weaker c.write_all.result (IsWrittenUpTo-twice _ _ _ _ _ _ none (rw same at c.in_ok-flush.ensures.bytes)) c.write_all.ensures.bytes
