use Rattle.hir_pretty_docs.proofs.Common.{refl, adds, adds_then, adds_more, adds_as, some_elements}
use Rattle.hir_pretty_docs.proofs.tokens.Tokens.add_array.Goals as goal

pub returns-else-is_empty : goal.returns-else-is_empty
returns-else-is_empty c = rw c.in-ElementList.is (adds_as (adds_more (adds_then (adds c.add-in-ElementList.ensures (λ s. refl))
    (rw c.as_slice.ensures at c.add_exprs.ensures)) c.add-in-ElementList-2.ensures)
    (λ s. some_elements c.in-ElementList.elements (λ e. let k = c.is_empty.ensures.1 e in let l = c.if-is_empty.false in cc)))
