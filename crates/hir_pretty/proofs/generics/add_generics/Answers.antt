use Rattle.hir_pretty_docs.proofs.Common.{refl, sym, ◌∙◌, enumerate_from, name_docs, adds, adds_more, adds_then, adds_as}
use Rattle.std.proofs.lemmas.Bool.{false≢true}
use Rattle.hir_signature.specs.declared.param_data.LifetimeParamData.{LifetimeParamData}
use Rattle.hir_pretty.specs.Signatures.{each_lifetime, each_type_or_const}
use Rattle.hir_pretty.proofs.ListLemmas.{angles, is_longer, some_angles}
use Rattle.hir_pretty.proofs.generics.add_generics.Goals as goal

pub returns : goal.returns
returns c =
    let params = c.args.params.now in
    adds_as (adds_more (adds_then (adds_then (adds c.add.ensures (λ s. refl)) c.add_lifetimes.ensures) c.add_types_and_consts.ensures) c.add-2.ensures)
    (λ s. angles (each_lifetime s params.lifetimes) (each_type_or_const s (enumerate_from 0 params.type_or_consts)) _
    (is_longer (λ (lifetime : LifetimeParamData). name_docs s lifetime.name) params.lifetimes _ c.len_lifetimes.ensures.len)
    ∙ some_angles s params.lifetimes params.type_or_consts
    (λ types lifetimes. false≢true (sym c.if-is_empty.false ∙ c.is_empty.ensures.1 (types, lifetimes))))
