use Rattle.hir_pretty_docs.proofs.Common.{◌-◌, codes, drop, length, take, adds_then, adds_more, left_begins, left_goes_on}
use Rattle.hir_pretty_docs.proofs.Common.{left_ends, text, params, following_joined, parts, param_step, no_args, no_types}
use Rattle.hir_pretty_docs.proofs.tokens.Tokens.add_params.Goals as goal

pub loop-arg-init : goal.loop-arg-init
loop-arg-init c = left_begins (λ s. following_joined (text (codes ", ")) (params c.args.args.now c.args.types.now))

pub returns-in_default : goal.returns-in_default
returns-in_default c = left_ends c.loop-arg.invariant (λ s. no_types c.loop-arg.after (drop c.loop-arg.arg-index c.args.args.now)
    c.loop-arg.types.now c.in_default.len_below)

pub loop-arg-preserved : goal.loop-arg-preserved
loop-arg-preserved c =
    let types = c.loop-arg.types.now in
    left_goes_on c.loop-arg.invariant (adds_then (adds_more c.add_if.ensures c.add.ensures) c.add_after.ensures)
    (λ s. param_step c.loop-arg.after c.args.args.now c.loop-arg.arg-index c.arg-item.result types
    (take (length types - 1) (drop 1 types)) c.type_ref-item.result c.loop-arg-test.true c.arg-item.is
    (parts types c.type_ref-item.result c.in-len1-up.len_at_least c.type_ref-item.is))

pub returns : goal.returns
returns c = left_ends c.loop-arg.invariant (λ s. no_args c.loop-arg.after c.args.args.now c.loop-arg.arg-index c.loop-arg.types.now c.loop-arg-test.false)
