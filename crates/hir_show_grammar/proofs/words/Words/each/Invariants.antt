use Rattle.std.proofs.Common.{◌≡◌, ◌++◌, List, length}
use Rattle.std.specs.Prelude.{IfOk}
use Rattle.std.specs.Option.{option_map}
use Rattle.hir_show_grammar.specs.Readings.{all_of}
use Rattle.hir_show_grammar.proofs.words.Words.each.Given as goal

-- what was read so far: it is kept, if anything is
abbrev pub invariant-loop-self : goal.invariant-loop-self
invariant-loop-self g l =
    (items : List g.row.T.Denot) × (option_map (λ xs. items ++ xs) (all_of g.T.Word.meaning l.self) ≡ all_of g.T.Word.meaning l.fn.self) × IfOk l.kept (λ v. v ≡ items)

abbrev pub decreases-loop-self : goal.decreases-loop-self
decreases-loop-self g l = length l.self
