use Rattle.std.proofs.Common.{◌∙◌}
use Rattle.std.proofs.Math.Bool.{or-false}
use Rattle.hir_store_core.proofs.ConstLemmas.{run_found}
use Rattle.hir_store_core.proofs.anon_consts.args_have_const.Goals as goal

pub returns : goal.returns
returns c = run_found c.visit_generic_args.ensures ∙ or-false _
