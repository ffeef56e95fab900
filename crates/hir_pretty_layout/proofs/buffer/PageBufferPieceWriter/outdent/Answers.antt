use Rattle.std.proofs.Common.{arith, rules}
use Rattle.std.specs.String.{string_bytes}
use Rattle.std.proofs.lemmas.Str.Pattern.{ends_char}
use Rattle.hir_pretty_layout.proofs.EndLemmas.{cut_more, cut_done}
use Rattle.hir_pretty_layout.proofs.buffer.PageBufferPieceWriter.outdent.Goals as goal

pub loop-self-preserved : goal.loop-self-preserved
loop-self-preserved c =
    let ends = rw c.deref.ensures at (ends_char 10 _ _ c.ends_with.ensures.cases (omega arith)) in
    record { inside = search rules; cut = search (rules, cut_more _ (ends.0 c.loop-self-test.true)) }

pub returns-clause-ok : goal.returns-clause-ok
returns-clause-ok c =
    let ends = rw c.deref.ensures at (ends_char 10 _ _ c.ends_with.ensures.cases (omega arith)) in
    search (rules, cut_done (string_bytes c.loop-self.self-inside.text) (λ front e. let yes = ends.1 front e in cc))
