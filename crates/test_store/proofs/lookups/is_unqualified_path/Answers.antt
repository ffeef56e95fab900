use Rattle.std.specs.Prelude.{Some}
use Rattle.std.specs.Option.{option_copied}
use mathlib.Core.Path.{sym, ap, ◌∙◌}
use Rattle.test_store.proofs.lookups.is_unqualified_path.Goals as goal

pub qualifier-requires : goal.qualifier-requires
qualifier-requires c = record {
  one_list_each = c.paths_that_fit_have_one_list_each.ensures c.args.store.now.nodes c.in-Some-Path.path
      (c.paths_of_nodes_fit.ensures.exprs c.args.store.now c.has_no_fault.ensures c.args.id c.in-Some-Path.path
      (sym c.get.ensures ∙ ap option_copied c.in-Some-Path.is ∙ ap (λ x. Some x) c.in-Some-Path.field-0-is));
}
