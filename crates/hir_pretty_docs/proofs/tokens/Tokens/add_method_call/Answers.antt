use Rattle.hir_pretty_docs.proofs.Common.{◌≡◌, option_copied, refl, adds, adds_then}
use Rattle.std.proofs.Common.{rules}
use Rattle.hir_pretty_docs.proofs.tokens.Tokens.add_method_call.Goals as goal

pub returns : goal.returns
returns c =
    let args : option_copied c.map.result ≡ c.args.generic_args.now = search rules in
    adds_then (adds_then (adds (rw c.as_str.ensures at c.add.ensures) (λ s. refl)) (rw args at c.add_turbofish.ensures)) c.add_arguments.ensures
