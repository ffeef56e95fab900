use Rattle.hir_pretty_docs.proofs.Common.{◌++◌, ap, ◌∙◌, codes, Ok, text, t, opt, type_param_docs, adds_then, adds_as}
use Rattle.hir_pretty.proofs.ListLemmas.{type_names}
use Rattle.hir_pretty.proofs.generics.add_type_or_const.Goals as goal

pub returns-in-TypeParamData : goal.returns-in-TypeParamData
returns-in-TypeParamData c = rw c.in-TypeParamData.is (adds_as (adds_then c.add_param_name.ensures c.add_after.ensures)
    (λ s. ap (λ is. is ++ opt (λ id. text (codes " = ") ++ t id) c.in-TypeParamData.param.default)
    (ap (λ o. type_param_docs s c.args.at (Ok o)) c.as_ref.ensures.value ∙ type_names s c.args.at c.in-TypeParamData.param.name)))
