use Rattle.std.proofs.Common.{◌∙◌, ap, length, length-append, arith}
use Rattle.std.proofs.lemmas.Bool.Decides.{nat_tests}
use Rattle.hir_show_io.proofs.EndLemmas.{IsWrittenUpTo-more}
use Rattle.hir_show_io.proofs.ends.write_all.Goals as goal

pub loop-rest-preserved : goal.loop-rest-preserved
loop-rest-preserved g c =
    let kept = c.loop-rest.invariant in
    record {
      same_mark = c.in_ok-count.ensures.failure ∙ kept.same_mark;
      idle = λ none. absurd (grind (arith, nat_tests, ap length kept.written.1, ap length none, length-append kept.written.0 c.loop-rest.rest.now));
      written = IsWrittenUpTo-more _ _ _ _ c.loop-rest.rest.now c.in_ok-count.count kept.written c.in_ok-count.ensures.bytes;
    }
