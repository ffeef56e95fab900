use Rattle.hir_pretty_docs.proofs.Common.{arith, adds_then, adding, Adds, ending_docs}
use Rattle.hir_pretty_docs.proofs.tokens.Tokens.add_others.Goals as goal

pub returns : goal.returns
returns c =
    let ending : Adds c.args.self.now.stack (λ s. ending_docs c.args.ending) c.match-ending.self.stack = grind (arith, adding) in
    adds_then ending c.add_exprs.ensures
