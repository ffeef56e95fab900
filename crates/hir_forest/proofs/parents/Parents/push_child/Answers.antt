use Rattle.std.proofs.Common.{◌∙◌, length, subst, sym, ap, arith}
use Rattle.hir_forest.specs.Parents.{Parentage, IsParentageOf}
use Rattle.hir_forest.proofs.ParentLemmas.{pushed_again, pushed_first}
use Rattle.hir_forest.proofs.parents.Parents.push_child.Goals as goal

pub returns-then-is_some-clause-noted : goal.returns-then-is_some-clause-noted
returns-then-is_some-clause-noted c = λ g h.
    let t : Parentage = record { rows = c.self.inside.rows; parents = c.self.inside.table; shared = c.self.inside.shared } in
    rw c.or-self-inside.ensures (pushed_again g t (subst (IsParentageOf g) (sym c.self.view_is) h) c.args.child (omega (arith, ap (λ (x : Parentage). x.rows) c.self.view_is, c.requires.some)) (rw (← c.parent.ensures.parent) (sym c.is_some.ensures ∙ c.if-is_some.true)))

pub returns-clause-noted : goal.returns-clause-noted
returns-clause-noted c = λ g h.
    let t : Parentage = record { rows = c.self.inside.rows; parents = c.self.inside.table; shared = c.self.inside.shared } in
    rw c.set_parent.ensures (pushed_first g t (subst (IsParentageOf g) (sym c.self.view_is) h) c.args.child (omega (arith, ap (λ (x : Parentage). x.rows) c.self.view_is, c.requires.some)) (rw (← c.parent.ensures.parent) (sym c.is_some.ensures ∙ c.if-is_some.false)) (omega (arith, ap (λ (x : Parentage). length x.parents) c.self.view_is, c.requires.within)))
