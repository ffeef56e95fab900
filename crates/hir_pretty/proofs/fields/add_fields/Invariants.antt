use Rattle.hir_pretty_docs.proofs.Common.{drop, flat_map, AddsRest}
use Rattle.hir_pretty.specs.Variants.{field_line}
use Rattle.hir_pretty.proofs.fields.add_fields.Given as goal

abbrev pub invariant-loop-field : goal.invariant-loop-field
invariant-loop-field l = AddsRest l.initial.tokens.stack (λ s. flat_map (field_line s) l.fields) l.tokens.stack (λ s. flat_map (field_line s) (drop l.field-index l.fields))
