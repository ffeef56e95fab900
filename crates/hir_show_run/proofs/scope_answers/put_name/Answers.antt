use Rattle.std.proofs.Common.{◌≡◌, ◌∷◌, [], arith}
use Rattle.hir_show_run.proofs.WritingLemmas.{put_then}
use Rattle.hir_show_run.proofs.scope_answers.put_name.Goals as goal

pub returns : goal.returns
returns g c =
    let same : c.as_bytes.result.now ≡ c.args.name.now = grind (arith, c.as_bytes.ensures, c.as_str.ensures) in
    rw (← same) (put_then g.W.Sink c.args.output.now c.put.new.self c.put-2.new.self (32 ∷ []) c.as_bytes.result.now c.put.ensures c.put-2.ensures)
