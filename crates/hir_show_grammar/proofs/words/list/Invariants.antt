use Rattle.std.proofs.Common.{◌≡◌, ◌++◌, ℕ, List, length}
use Rattle.std.specs.Prelude.{IfOk}
use Rattle.std.specs.Option.{option_map}
use Rattle.hir_show_grammar.specs.Numerals.{number_of}
use Rattle.hir_show_grammar.specs.Readings.{all_of, comma, split_parts}
use Rattle.hir_show_grammar.proofs.words.list.Given as goal

-- what was read so far: it is kept, if there was room
abbrev pub invariant-loop-numbers : goal.invariant-loop-numbers
invariant-loop-numbers g l =
    (ids : List ℕ) × (option_map (λ xs. ids ++ xs) (all_of number_of l.numbers) ≡ all_of number_of (split_parts comma l.fn.word)) × IfOk l.room (λ done. l.kept ≡ ids)

abbrev pub decreases-loop-numbers : goal.decreases-loop-numbers
decreases-loop-numbers g l = length l.numbers
