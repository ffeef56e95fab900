-- The labels along a chain: those of its frames, innermost first.
use Rattle.std.specs.Option.{option_to_list}
use Rattle.hir_path.specs.NodeIds.{LabelId}
use Rattle.hir_scope.specs.Scopes.{label_of}
use Rattle.hir_usages.specs.Prelude.{flat_map, List, Chain}

abbrev pub labels_along : Chain → List LabelId
labels_along chain = flat_map (λ f. option_to_list (label_of f.kind)) chain
