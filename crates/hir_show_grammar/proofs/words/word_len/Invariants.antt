use Rattle.std.proofs.Common.{◌≤◌, ◌-◌, length, take}
use Rattle.hir_show_grammar.specs.internal.Readings.{Plain}
use Rattle.hir_show_grammar.proofs.words.word_len.Given as goal

abbrev pub invariant-loop-end : goal.invariant-loop-end
invariant-loop-end l = record {
  within : l.end ≤ length l.text;
  plain : Plain l.separator (take l.end l.text);
}

abbrev pub decreases-loop-end : goal.decreases-loop-end
decreases-loop-end l = length l.text - l.end
