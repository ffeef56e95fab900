use Rattle.hir_pretty_docs.proofs.Common.{arith, adds_then, adds_more, adding, Adds, spread_docs}
use Rattle.hir_pretty_docs.proofs.tokens.Tokens.add_record_lit.Goals as goal

pub returns : goal.returns
returns c =
    let spread : Adds c.add_each.new.self.stack (λ s. spread_docs c.args.spread) c.match-spread.self.stack = grind (arith, adding) in
    adds_more (adds_then (adds_then (adds_more c.add_path.ensures c.add.ensures) c.add_each.ensures) spread) c.add-2.ensures
