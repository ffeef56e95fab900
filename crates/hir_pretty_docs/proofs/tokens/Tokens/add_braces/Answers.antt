use Rattle.hir_pretty_docs.proofs.Common.{arith, refl, e, opt, adds, adds_then, adds_more, adds_as, adding, Adds, none_is, some_statements}
use Rattle.hir_pretty_docs.proofs.tokens.Tokens.add_braces.Goals as goal

pub returns : goal.returns
returns c =
    let tail : Adds c.add_each.new.self.stack (λ s. opt e c.args.tail) c.match-tail.self.stack = grind (arith, adding) in
    adds_as (adds_more (adds_then (adds_then (adds c.add-2.ensures (λ s. refl)) c.add_each.ensures) tail) c.add-3.ensures)
    (λ s. some_statements c.args.statements.now c.args.tail (rw (c.is_empty.ensures, none_is c.args.tail c.is_none.result c.is_none.ensures) at c.if-is_bare.false))
