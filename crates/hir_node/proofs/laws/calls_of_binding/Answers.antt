use Rattle.hir_node.proofs.ArgsCalls.{binding_calls_is}
use Rattle.hir_node.proofs.laws.calls_of_binding.Goals as goal

pub returns : goal.returns
returns c = binding_calls_is c.args.binding.now
