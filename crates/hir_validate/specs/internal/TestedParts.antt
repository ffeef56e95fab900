-- Beside TestedParts.antt: what only contracts within this crate cite.
use Rattle.hir_validate.specs.Prelude.{Bool, List, TypeRefId, AssociatedTypeBinding, fold-AssociatedTypeBinding}
use Rattle.hir_validate.specs.TestedParts.{args_paths_layer, args_self_layer, binding_paths_layer, binding_self_layer}

abbrev pub binding_paths : AssociatedTypeBinding → List TypeRefId
binding_paths = fold-AssociatedTypeBinding (List TypeRefId)
    (List TypeRefId) binding_paths_layer args_paths_layer

abbrev pub binding_gives_self : AssociatedTypeBinding → Bool
binding_gives_self = fold-AssociatedTypeBinding Bool Bool binding_self_layer args_self_layer
