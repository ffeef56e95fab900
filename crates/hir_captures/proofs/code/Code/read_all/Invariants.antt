use Rattle.std.proofs.Common.{◌≡◌, length}
use Rattle.hir_captures.specs.internal.Pending.{AreInRange, code_of}
use Rattle.hir_captures.specs.internal.Reading.{with_code}
use Rattle.hir_captures.proofs.code.Code.read_all.Given as goal

abbrev pub invariant-loop-task : goal.invariant-loop-task
invariant-loop-task l =
    AreInRange l.self.store.now.nodes l.unread.stack.items
    × (with_code l.self l.initial.found l.initial.unread.stack.items ≡ with_code l.self l.found l.unread.stack.items)

abbrev pub decreases-loop-task : goal.decreases-loop-task
decreases-loop-task l = length (code_of l.self.store.now.nodes l.unread.stack.items)
