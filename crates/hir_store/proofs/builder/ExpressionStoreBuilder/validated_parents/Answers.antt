use Rattle.std.proofs.Common.{Some, None, inl, inr, ⊎_elim, subst, sym, ◌∙◌}
use Rattle.std.proofs.lemmas.Bool.{false≢true}
use Rattle.std.proofs.lemmas.Result.{IfOk-weaker, IfErr-weaker}
use Rattle.hir_forest.specs.Parents.{HasParents}
use Rattle.hir_validate.specs.Nodes.{graph}
use Rattle.hir_validate.specs.declared.node_arenas.Nodes.{Nodes}
use Rattle.hir_store.specs.Building.{building_of}
use Rattle.hir_store.proofs.BuildingLemmas.{no_roots, has_roots}
use Rattle.hir_store.proofs.builder.ExpressionStoreBuilder.validated_parents.Goals as goal

pub returns-then-not-has_roots-clause-err : goal.returns-then-not-has_roots-clause-err
returns-then-not-has_roots-clause-err c = inr (no_roots (building_of c.args.self.now) (λ h. false≢true (sym c.if-not-has_roots.true ∙ c.has_roots.ensures.1 h)))

pub returns-clause-ok : goal.returns-clause-ok
returns-clause-ok c =
    let b = building_of c.args.self.now in
    IfOk-weaker c.validated_parents.result _ _ (λ parents h. (
      has_roots b None (c.has_roots.ensures.0 c.if-not-has_roots.false) (rw (c.nodes.ensures.nodes, c.listed_roots.ensures) at h.0),
      subst (λ (s : Nodes). HasParents (graph s) parents.parents) c.nodes.ensures.nodes h.1,
    )) c.validated_parents.ensures.ok

pub returns-clause-err : goal.returns-clause-err
returns-clause-err c =
    let b = building_of c.args.self.now in
    IfErr-weaker c.validated_parents.result _ _ (λ fault. ⊎_elim inl (λ h. inr (has_roots b (Some fault) (c.has_roots.ensures.0 c.if-not-has_roots.false) h)))
    (rw (c.nodes.ensures.nodes, c.listed_roots.ensures) at c.validated_parents.ensures.err)
