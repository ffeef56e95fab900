use Rattle.hir_pretty_nodes.proofs.Common.{[], ◌∷◌, codes, refl, arith, text, env_of, adds_more, adds_at, written_then}
use Rattle.hir_pretty_layout.specs.Layouts.{Text}
use Rattle.hir_pretty_nodes.proofs.printer.Printer.add_generic_args.Goals as goal
use Rattle.std.proofs.Common.{arith}

pub returns : goal.returns
returns g c =
    let s = env_of c.args.self.now in
    written_then (text (codes "::<")) (Text (codes "::<") ∷ []) refl c.in_ok-text.ensures.ok refl (adds_at (adds_more c.add_args.ensures c.add.ensures) s) refl (omega arith)
