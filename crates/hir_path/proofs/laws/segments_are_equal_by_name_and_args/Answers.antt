use Rattle.hir_path.specs.same.Fields.{and_decides}
use Rattle.hir_path.specs.same.Leaves.{names_decide}
use Rattle.hir_path.specs.same.SameArgs.{args_decides}
use Rattle.hir_path.proofs.ReadOptions.{read_options_decide}
use Rattle.hir_path.proofs.laws.segments_are_equal_by_name_and_args.Goals as goal

pub returns : goal.returns
returns c x y =
    and_decides _ _ (names_decide x.name.now y.name.now) (read_options_decide (λ a. a.now) args_decides x.args_and_bindings y.args_and_bindings)
    (λ n a i. record { name = n i; args = a i }) (λ e i. (e i).name) (λ e i. (e i).args)
