use Rattle.std.proofs.Common.{◌≡◌, length}
use denote.Text.{Utf8}
use denote.Shadow.{shadow}
use Rattle.hir_pretty_layout.specs.Buffer.{IsGrown}
use Rattle.hir_pretty_layout.specs.Page.{put_all}
use Rattle.hir_pretty_layout.proofs.buffer.PageBuffer.lines.Given as goal

abbrev pub invariant-loop-line : goal.invariant-loop-line
invariant-loop-line l = record { utf8 : shadow (Utf8 l.rest); puts : put_all l.rest l.self ≡ put_all l.fn.text l.fn.self; grown : IsGrown l.fn.self l.self }

abbrev pub decreases-loop-line : goal.decreases-loop-line
decreases-loop-line l = length l.rest
