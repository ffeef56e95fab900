use Rattle.hir_node.proofs.ArgsCalls.{args_calls_is}
use Rattle.hir_node.proofs.laws.calls_of_generic_args.Goals as goal

pub returns : goal.returns
returns c = args_calls_is c.args.args.now
