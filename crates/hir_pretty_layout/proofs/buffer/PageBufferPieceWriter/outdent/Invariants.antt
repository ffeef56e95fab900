use Rattle.std.proofs.Common.{◌≡◌, ◌-◌}
use Rattle.std.specs.String.{string_len}
use Rattle.hir_pretty_layout.specs.Buffer.{IsPageBuffer, page_of}
use Rattle.hir_pretty_layout.specs.Page.{without_empty_lines}
use Rattle.hir_pretty_layout.proofs.buffer.PageBufferPieceWriter.outdent.Given as goal

abbrev pub invariant-loop-self : goal.invariant-loop-self
invariant-loop-self l = record {
  inside : IsPageBuffer l.self-inside;
  cut : without_empty_lines (page_of l.self-inside) ≡ without_empty_lines (record l.fn.self { level = l.fn.self.level - 1 });
}

abbrev pub decreases-loop-self : goal.decreases-loop-self
decreases-loop-self l = string_len l.self-inside.text
