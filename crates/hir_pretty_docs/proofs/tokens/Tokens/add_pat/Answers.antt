use Rattle.hir_pretty_docs.proofs.Common.{arith, refl, adds, adds_then, adds_more, adds_as, binding_docs, bound_to, slice_is}
use Rattle.hir_pretty_docs.proofs.tokens.Tokens.add_pat.Goals as goal

pub returns-in-Or : goal.returns-in-Or
returns-in-Or c = rw c.in-Or.is (adds_more (adds_then (adds c.add-in-Or.ensures (λ s. refl)) (rw c.as_slice-in-Or.ensures at c.add_joined.ensures)) c.add-in-Or-2.ensures)

pub returns-in-Range : goal.returns-in-Range
returns-in-Range c = rw c.in-Range.is (adds_then (adds_more c.add_in_pat.ensures (rw c.as_str.ensures at c.add-in-Range.ensures)) c.add_in_pat-in-Range.ensures)

pub returns-in-Some : goal.returns-in-Some
returns-in-Some c = rw (c.in-Bind.is, c.in-Some.is) (adds_as (adds_more c.add_binding.ensures c.add-in-Some.ensures)
    (λ s. bound_to (binding_docs s c.in-Bind.id) c.in-Some.subpat))

pub returns-in-TupleStruct : goal.returns-in-TupleStruct
returns-in-TupleStruct c = rw c.in-TupleStruct.is (adds_then c.add_path-in-TupleStruct.ensures
    (rw c.as_slice-in-TupleStruct.ensures at c.add_in_parentheses-in-TupleStruct.ensures))

pub returns-in-Tuple : goal.returns-in-Tuple
returns-in-Tuple c = rw c.in-Tuple.is (rw c.as_slice.ensures at c.add_in_parentheses.ensures)

pub returns-in-Slice : goal.returns-in-Slice
returns-in-Slice c = rw c.in-Slice.is (adds_as (adds_more (adds_then (adds_then (adds_then (adds c.add-in-Slice.ensures (λ s. refl)) (rw c.as_slice-in-Slice.ensures at c.add_each.ensures)) c.add_before.ensures) (rw c.as_slice-in-Slice-2.ensures at c.add_each-in-Slice.ensures)) c.add-in-Slice-2.ensures)
    (λ s. slice_is c.in-Slice.prefix c.in-Slice.suffix c.in-Slice.slice))

pub returns-in-Lit : goal.returns-in-Lit
returns-in-Lit c = adds_as c.add_in_pat-in-Lit.ensures (λ s. let h = c.in-Lit.is in grind arith)
