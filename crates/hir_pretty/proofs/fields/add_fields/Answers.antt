use Rattle.hir_pretty_docs.proofs.Common.{refl, adds_then, left_begins, left_goes_on, left_ends, each_step, each_ends}
use Rattle.hir_pretty.specs.Variants.{field_line}
use Rattle.hir_pretty.proofs.fields.add_fields.Goals as goal

pub loop-field-init : goal.loop-field-init
loop-field-init c = left_begins (λ s. refl)

pub loop-field-preserved : goal.loop-field-preserved
loop-field-preserved c = left_goes_on c.loop-field.invariant c.add_field.ensures
    (λ s. each_step (field_line s) c.args.fields.now c.loop-field.field-index c.field-item.result c.loop-field-test.true c.field-item.is)

pub returns : goal.returns
returns c = adds_then (adds_then c.add_begin.ensures (left_ends c.loop-field.invariant (λ s. each_ends (field_line s) c.args.fields.now c.loop-field.field-index c.loop-field-test.false))) c.add_end.ensures
