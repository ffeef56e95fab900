use Rattle.hir_pretty_docs.proofs.Common.{arith, ◌≡◌, ◌++◌, ◌||◌, not, ◌-◌, PrintEnv, field_pattern, refl, sym, ap, ◌∙◌, length}
use Rattle.hir_pretty_docs.proofs.Common.{take, drop, codes, text, br, when, adds, adds_then, adds_more, adding, Adds}
use Rattle.hir_pretty_docs.proofs.Common.{left_begins, left_goes_on, left_ends, field_patterns, after_last, parts, field_step}
use Rattle.hir_pretty_docs.proofs.Common.{no_fields}
use Rattle.hir_pretty_docs.proofs.tokens.Tokens.add_record_pat.Goals as goal
use Rattle.hir_pretty_docs.proofs.tokens.Tokens.add_record_pat.Goals.{After-is_empty}

pub loop-left-init : goal.loop-left-init
loop-left-init c = left_begins (λ s. refl)

field_added : (c : After-is_empty) (s : PrintEnv) →
    field_pattern s c.field-item.result ++ after_last s (c.args.rest || not c.is_empty.result)
    ++ field_patterns s c.args.rest (take (length c.loop-left.left.now - 1) (drop 1 c.loop-left.left.now))
    ≡ field_patterns s c.args.rest c.loop-left.left.now
field_added c s =
    let left = c.loop-left.left.now in
    rw c.is_empty.ensures (field_step s c.args.rest c.field-item.result (take (length left - 1) (drop 1 left))
    ∙ ap (field_patterns s c.args.rest) (sym (parts left c.field-item.result c.in-len1-up.len_at_least c.field-item.is)))

pub loop-left-preserved-then-rest-is_empty : goal.loop-left-preserved-then-rest-is_empty
loop-left-preserved-then-rest-is_empty c =
    left_goes_on c.loop-left.invariant (adds_then (adds c.add-in-len1-up.ensures (λ s. refl))
    (adds c.add-then-rest-is_empty.ensures (λ s. ap (after_last s) (sym c.if-rest-is_empty.true))))
    (field_added (goal.at.loop-left-preserved-then-rest-is_empty c).After-is_empty)

pub loop-left-preserved : goal.loop-left-preserved
loop-left-preserved c =
    left_goes_on c.loop-left.invariant (adds_then (adds c.add-in-len1-up.ensures (λ s. refl))
    (adds c.add-else-rest-is_empty.ensures (λ s. ap (after_last s) (sym c.if-rest-is_empty.false))))
    (field_added (goal.at.loop-left-preserved c).After-is_empty)

pub returns : goal.returns
returns c =
    let dots : Adds c.loop-left.self.stack (λ s. when c.args.rest (text (codes "..") ++ br)) c.if-rest.self.stack = grind (arith, adding) in
    adds_more (adds_then (adds_then (adds_more c.add_path.ensures c.add.ensures)
    (left_ends c.loop-left.invariant (λ s. no_fields s c.args.rest c.loop-left.left.now (omega arith)))) dots) c.add-2.ensures
