-- Defines macro calls with their expansions, as iterators yield them.
use Rattle.hir_source_map.specs.Prelude.{List, [], Option, Some, None, MacroCallId, InFile, SyntaxNodePtr}

abbrev pub Calls : Type 0
Calls = List (InFile SyntaxNodePtr × MacroCallId)

-- the calls that are left
abbrev pub calls_left : Option Calls → Calls
calls_left None = []
calls_left (Some calls) = calls
