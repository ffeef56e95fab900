use Rattle.std.specs.List.{flat_map}
use Rattle.std.specs.Str.{chars, IsUtf8}
use Rattle.hir_pretty_layout.specs.Literals.{string_char}
use Rattle.hir_pretty_layout.proofs.PieceLemmas.{LeftOf}
use Rattle.hir_pretty_layout.proofs.literals.write_string_chars.Given as goal

abbrev pub invariant-loop-c : goal.invariant-loop-c
invariant-loop-c g l = record {
  utf8 : IsUtf8 l.rest.rest.now;
  left : LeftOf g.W.PieceWriter.step (flat_map string_char (chars l.fn.text)) (flat_map string_char (chars l.rest.rest.now)) l.fn.writer l.writer;
}
