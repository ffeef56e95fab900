use Rattle.hir_pretty.proofs.body_heads.add_variant_head.Goals as goal

pub returns-in-EnumVariantId : goal.returns-in-EnumVariantId
returns-in-EnumVariantId c = rw c.in-EnumVariantId.is c.add_variant_name.ensures
