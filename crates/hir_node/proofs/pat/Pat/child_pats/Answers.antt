use Rattle.std.proofs.Common.{append-nil, append_assoc, refl, sym}
use Rattle.std.specs.Option.{option_to_list}
use Rattle.hir_node.proofs.ChildPatLemmas.{none-path, pats-list, child-tuple_struct, child-record, child-slice}
use Rattle.hir_node.proofs.pat.Pat.child_pats.Goals as goal

pub returns-in-Path : goal.returns-in-Path
returns-in-Path c = rw (c.in-Path.is, none-path c.in-Path.field-0) refl

pub returns-in-Tuple : goal.returns-in-Tuple
returns-in-Tuple c = simp (c.in-Tuple.is, pats-list, append-nil, c.as_slice-children-inside-in-Tuple.ensures)

pub returns-in-Or : goal.returns-in-Or
returns-in-Or c = simp (c.in-Or.is, pats-list, append-nil, c.as_slice-children-inside.ensures)

pub returns-in-TupleStruct : goal.returns-in-TupleStruct
returns-in-TupleStruct c =
    simp (c.in-TupleStruct.is, child-tuple_struct c.in-TupleStruct.path c.in-TupleStruct.args c.in-TupleStruct.ellipsis, append-nil, c.as_slice-children-inside-in-TupleStruct.ensures)

pub returns-in-Record : goal.returns-in-Record
returns-in-Record c =
    simp (c.in-Record.is, child-record c.in-Record.path c.in-Record.args c.in-Record.ellipsis, append-nil, c.as_slice-children-inside-in-Record.ensures)

pub returns-in-Slice : goal.returns-in-Slice
returns-in-Slice c =
    rw (c.in-Slice.is, child-slice c.in-Slice.prefix c.in-Slice.slice c.in-Slice.suffix, ← c.as_slice-children-inside-in-Slice.ensures, ← c.as_slice-children-inside-in-Slice-2.ensures)
    (sym (append_assoc c.as_slice-children-inside-in-Slice.result.now (option_to_list c.in-Slice.slice) c.as_slice-children-inside-in-Slice-2.result.now))
