use Rattle.std.proofs.Common.{drop}
use Rattle.std.specs.List.{flat_map}
use Rattle.hir_pretty_layout.specs.Literals.{byte_pieces}
use Rattle.hir_pretty_layout.proofs.PieceLemmas.{LeftOf}
use Rattle.hir_pretty_layout.proofs.literals.write_bytes.Given as goal

abbrev pub invariant-loop-byte : goal.invariant-loop-byte
invariant-loop-byte g l = LeftOf g.W.PieceWriter.step (flat_map byte_pieces l.bytes) (flat_map byte_pieces (drop l.byte-index l.bytes)) l.fn.writer l.writer
