use Rattle.std.proofs.Common.{◌∙◌, sym}
use Rattle.hir_validate.specs.internal.TestedParts.{binding_gives_self}
use Rattle.hir_validate.proofs.TypePartsLemmas.{args_give_self_is, all_stops, all_done}
use Rattle.hir_validate.proofs.type_parts.+args_give_self.Goals as goal

pub args_give_self-returns-then-not-binding_gives_self : goal.args_give_self-returns-then-not-binding_gives_self
args_give_self-returns-then-not-binding_gives_self t c =
    let items = c.as_slice-binding-items.result.now in
    let x = c.binding-item.result in
    let stops = all_stops binding_gives_self items c.loop-binding.binding-index x c.loop-binding-test.true c.binding-item.is (sym c.binding_gives_self.ensures ∙ c.if-not-binding_gives_self.true) in
    rw (args_give_self_is c.args.args.now, ← c.as_slice.ensures, ← c.gives_self.ensures, c.if-not-gives_self.false, ← c.as_slice-binding-items.ensures) stops

pub args_give_self-returns : goal.args_give_self-returns
args_give_self-returns t c =
    let items = c.as_slice-binding-items.result.now in
    let done = all_done binding_gives_self items c.loop-binding.binding-index c.loop-binding-test.false c.loop-binding.invariant in
    rw (args_give_self_is c.args.args.now, ← c.as_slice.ensures, ← c.gives_self.ensures, c.if-not-gives_self.false, ← c.as_slice-binding-items.ensures) done
