use Rattle.hir_pretty.proofs.body_heads.add_body_head.Goals as goal

pub returns-in-VariantId : goal.returns-in-VariantId
returns-in-VariantId c = rw c.in-VariantId.is c.add_variant_name.ensures
