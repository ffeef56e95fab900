use Rattle.hir_source_map.specs.same.SameMaps.{maps_decide}
use Rattle.hir_source_map.proofs.ComparedLemmas as lemma
use Rattle.hir_source_map.proofs.laws.equal_maps_know_the_same_sources.Goals as goal

pub returns-clause-kept : goal.returns-clause-kept
returns-clause-kept c = λ x y h. lemma.kept x y ((maps_decide x y).0 h)

pub returns-clause-exprs : goal.returns-clause-exprs
returns-clause-exprs c = λ x y h. lemma.exprs x y ((maps_decide x y).0 h)

pub returns-clause-pats : goal.returns-clause-pats
returns-clause-pats c = λ x y h. lemma.pats x y ((maps_decide x y).0 h)

pub returns-clause-labels : goal.returns-clause-labels
returns-clause-labels c = λ x y h. lemma.labels x y ((maps_decide x y).0 h)

pub returns-clause-types : goal.returns-clause-types
returns-clause-types c = λ x y h. lemma.types x y ((maps_decide x y).0 h)

pub returns-clause-lifetimes : goal.returns-clause-lifetimes
returns-clause-lifetimes c = λ x y h. lemma.lifetimes x y ((maps_decide x y).0 h)

pub returns-clause-expansions : goal.returns-clause-expansions
returns-clause-expansions c = λ x y h. lemma.expansions x y ((maps_decide x y).0 h)

pub returns-clause-diagnostics : goal.returns-clause-diagnostics
returns-clause-diagnostics c = λ x y h. lemma.diagnostics x y ((maps_decide x y).0 h)
