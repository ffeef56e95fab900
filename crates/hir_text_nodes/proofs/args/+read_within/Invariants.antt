use Rattle.std.proofs.Common.{◌+◌, ◌*◌}
use Rattle.hir_text_nodes.proofs.args.+read_within.Given as goal

-- each call in a binding may nest one less, by way of the three that read the bindings
abbrev pub decreases-read_within : goal.decreases-read_within
decreases-read_within l = 4 * l.depth + 3

abbrev pub decreases-read_bindings : goal.decreases-read_bindings
decreases-read_bindings l = 4 * l.depth + 2

abbrev pub decreases-read_binding : goal.decreases-read_binding
decreases-read_binding l = 4 * l.depth + 1

abbrev pub decreases-opt_args : goal.decreases-opt_args
decreases-opt_args l = 4 * l.depth
