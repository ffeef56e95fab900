use Rattle.std.proofs.Common.{rules}
use Rattle.hir_usages.specs.internal.{Reading.lists_of}
use Rattle.hir_usages.proofs.WalkLemmas.{visit_named, visit_unnamed, visit_type}
use Rattle.hir_usages.proofs.walk.Walk.visit.Goals as goal

pub returns-in-Some : goal.returns-in-Some
returns-in-Some c =
    rw c.in-Expr.is
    (visit_named c.args.self.now (c.rank_decreases.ensures c.args.self.now.store.now c.has_no_fault.ensures) c.in-Expr.id
    c.index-expr.result.now c.in-Some.name.now c.args.unread.now.stack.items (lists_of c.args.found.now)
    (lists_of c.add.new.found) c.index-expr.ensures (search rules) (rw c.in-Expr.is at c.requires.in_range)
    (search rules) c.add.ensures.bound)

pub returns-in_ok-push_in-in-Expr : goal.returns-in_ok-push_in-in-Expr
returns-in_ok-push_in-in-Expr c =
    rw c.in-Expr.is
    (visit_unnamed c.args.self.now (c.rank_decreases.ensures c.args.self.now.store.now c.has_no_fault.ensures) c.in-Expr.id
    c.index-expr.result.now c.args.unread.now.stack.items c.push_in.new.self.stack.items (lists_of c.args.found.now)
    c.index-expr.ensures (search rules) (rw c.in-Expr.is at c.requires.in_range) (search rules))

pub returns-in_ok-push_in-in-Type : goal.returns-in_ok-push_in-in-Type
returns-in_ok-push_in-in-Type c =
    rw c.in-Type.is
    (visit_type c.args.self.now (c.rank_decreases.ensures c.args.self.now.store.now c.has_no_fault.ensures) c.in-Type.id
    c.index.result.now c.args.unread.now.stack.items c.push_in-in-Type.new.self.stack.items (lists_of c.args.found.now)
    c.index.ensures (rw c.in-Type.is at c.requires.in_range) (search rules))
