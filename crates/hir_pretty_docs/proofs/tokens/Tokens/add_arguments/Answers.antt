use Rattle.hir_pretty_docs.proofs.Common.{refl, sym, ◌∙◌, adds, adds_then, adds_more, adds_as, some_arguments}
use Rattle.hir_pretty_docs.proofs.tokens.Tokens.add_arguments.Goals as goal

pub returns : goal.returns
returns c = adds_as (adds_more (adds_then (adds c.add-2.ensures (λ s. refl)) c.add_exprs.ensures) c.add-3.ensures)
    (λ s. some_arguments c.args.args.now (sym c.is_empty.ensures ∙ c.if-is_empty.false))
