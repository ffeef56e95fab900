use Rattle.std.proofs.Common.{◌≡◌, Option, Some, None, sym, ap, ◌∙◌}
use Rattle.std.specs.Prelude.{IfNone}
use Rattle.std.proofs.lemmas.Result.{IfOk-weaker}
use Rattle.hir_forest.specs.declared.roots.ForestFault.TheVariants.{SharedChild}
use Rattle.hir_forest.specs.Parents.{Parentage}
use Rattle.hir_forest.proofs.ParentLemmas.{edges_of, parents_known}
use Rattle.hir_forest.proofs.FaultLemmas.{shared_fault-first, later_fault}
use Rattle.hir_forest.proofs.parents.Parents.first_fault.Goals as goal

pub returns-in-Some-clause-fault : goal.returns-in-Some-clause-fault
returns-in-Some-clause-fault c = λ g h.
    let is : c.args.self.now.shared ≡ Some c.in-Some.child = sym (ap (λ (t : Parentage). t.shared) c.self.view_is) ∙ c.in-Some.is in
    shared_fault-first g c.args.lengths c.args.roots.now (SharedChild c.in-Some.child) (edges_of g c.args.self.now (Some c.in-Some.child) h is)

pub returns-in-None-clause-fault : goal.returns-in-None-clause-fault
returns-in-None-clause-fault c =
    let is : c.args.self.now.shared ≡ None = sym (ap (λ (t : Parentage). t.shared) c.self.view_is) ∙ c.in-None.is in
    IfOk-weaker c.first_chain_fault.result _ _
    (λ o x. λ g h.
    let known = parents_known g c.args.self.now h is c.requires.rows in
    later_fault g c.args.lengths c.args.roots.now (edges_of g c.args.self.now None h is) o (x g (rw (ap (λ (t : Parentage). t.parents) c.self.view_is) known)))
    c.first_chain_fault.ensures

if_none : {X : Type 0} (o : Option X) (P : Type 0) → P → IfNone o P
if_none None P p = p
if_none (Some x) P p = tt

pub returns-in-None-clause-parents : goal.returns-in-None-clause-parents
returns-in-None-clause-parents c =
    let is : c.args.self.now.shared ≡ None = sym (ap (λ (t : Parentage). t.shared) c.self.view_is) ∙ c.in-None.is in
    IfOk-weaker c.first_chain_fault.result _ _
    (λ o x. if_none o _ (λ g h. parents_known g c.args.self.now h is c.requires.rows))
    c.first_chain_fault.ensures
