use Rattle.std.proofs.Common.{◌≡◌, ◌<◌, ◌≤◌, ◌^◌, ◌-◌, take, true, length}
use Rattle.std.specs.List.{list_all}
use Rattle.hir_show_grammar.specs.Numerals.{is_digit, value}
use Rattle.hir_show_grammar.specs.internal.Readings.{Plain}
use Rattle.hir_show_grammar.proofs.numerals.first_number.Given as goal

abbrev pub invariant-loop-end : goal.invariant-loop-end
invariant-loop-end l = record {
  within : l.end ≤ length l.text;
  few : l.end ≤ 10;
  plain : Plain l.separator (take l.end l.text);
  all : list_all is_digit (take l.end l.text) ≡ true;
  value_is : l.value ≡ value (take l.end l.text);
  small : l.value < 10 ^ l.end;
}

abbrev pub decreases-loop-end : goal.decreases-loop-end
decreases-loop-end l = length l.text - l.end
