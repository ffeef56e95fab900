use Rattle.std.proofs.Common.{rules}
use Rattle.hir_usages.specs.internal.{Reading.lists_of}
use Rattle.hir_usages.proofs.WalkLemmas.{visit_pat}
use Rattle.hir_usages.proofs.walk.Walk.visit_pat.Goals as goal

pub returns : goal.returns
returns c =
    visit_pat c.args.self.now (c.rank_decreases.ensures c.args.self.now.store.now c.has_no_fault.ensures) c.args.id
    c.index.result.now c.args.assignment c.args.unread.now.stack.items c.push_in.new.self.stack.items
    (lists_of c.args.found.now) (lists_of c.add_pat.new.found) c.index.ensures c.requires.in_range
    c.in_ok-add_pat.ensures.usages c.in_ok-add_pat.ensures.bound (search rules)
