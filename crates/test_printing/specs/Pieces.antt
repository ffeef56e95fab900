-- The layouts that a list of pieces holds.
use Rattle.std.specs.Prelude.{List, map, string_bytes}
use Rattle.hir_pretty_layout.specs.Layouts.{Layout, Text, SoftSpace, Break, Indent, Outdent}
use Rattle.test_printing.specs.declared.list.PieceList.TheInside.{Inside}
use Rattle.test_printing.specs.declared.list.Piece.{Piece}
use Rattle.test_printing.specs.declared.list.Piece.TheVariants as piece

-- a piece as a layout: a text by its bytes, and each other piece as the layout of its name
abbrev pub layout_of : Piece → Layout
layout_of (piece.Text text) = Text (string_bytes text)
layout_of piece.SoftSpace = SoftSpace
layout_of piece.Break = Break
layout_of piece.Indent = Indent
layout_of piece.Outdent = Outdent

-- the layouts of a list, in order
abbrev pub layouts_of : Inside → List Layout
layouts_of list = map layout_of list.pieces.items
