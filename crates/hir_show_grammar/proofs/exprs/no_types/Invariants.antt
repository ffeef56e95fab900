use Rattle.std.proofs.Common.{◌≡◌, take}
use Rattle.hir_show_grammar.specs.Exprs.{no_types}
use Rattle.hir_show_grammar.proofs.exprs.no_types.Given as goal

abbrev pub invariant-loop-arg : goal.invariant-loop-arg
invariant-loop-arg l = l.types ≡ no_types (take l._arg-index l.args)
