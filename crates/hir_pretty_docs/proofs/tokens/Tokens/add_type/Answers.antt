use Rattle.hir_pretty_docs.proofs.Common.{refl, adds, adds_then, adds_more}
use Rattle.hir_pretty_docs.proofs.tokens.Tokens.add_type.Goals as goal

pub returns-in-Tuple : goal.returns-in-Tuple
returns-in-Tuple c = rw c.in-Tuple.is (adds_more (adds_then (adds c.add-in-Tuple.ensures (λ s. refl))
    (rw c.as_slice.ensures at c.add_joined.ensures)) c.add-in-Tuple-2.ensures)

pub returns-in-ImplTrait : goal.returns-in-ImplTrait
returns-in-ImplTrait c = rw c.in-ImplTrait.is (rw c.as_slice-in-ImplTrait.ensures at c.add_bounds.ensures)

pub returns-in-DynTrait : goal.returns-in-DynTrait
returns-in-DynTrait c = rw c.in-DynTrait.is (rw c.as_slice-in-DynTrait.ensures at c.add_bounds-in-DynTrait.ensures)

pub returns-in-Reference : goal.returns-in-Reference
returns-in-Reference c = rw (c.in-Reference.is, ← c.get-reference.ensures) (adds_more (adds_then (adds c.add-in-Reference.ensures
    (λ s. refl)) c.add_before.ensures) (rw c.as_keyword_for_ref.ensures at c.add-in-Reference-2.ensures))
