-- What a slot owns: nothing, or the block of a session.
use Rattle.std.specs.Prelude.{Option, None, Some}
use Rattle.std.specs.Coded.{Coded, coded_option}
use mir.Syntax.{Ty}
use base.Fml.{Fml, ftrue}
use denote.RawPtr.{Ptr}
use Rattle.std.specs.Box.Ownership.{box_owns}
use Rattle.hir_text.specs.declared.buffered.BufferedSession.{BufferedSession}
use Rattle.hir_text.specs.contracts.buffered.BufferedSession.{the_row}

-- the session at the pointer, with the right to free its block, where there is one
abbrev pub kept_at : (Ty → Ptr → Fml) → Ptr → Option BufferedSession → Fml
kept_at holds p None = ftrue
kept_at holds p (Some x) = box_owns holds the_row p x

-- how the logic stores it
abbrev pub kept_coded : Coded (Option BufferedSession)
kept_coded = coded_option the_row.coded
