-- Proofs that `==` of bodies decides whether they are the same, part by part, and that `==` of their source
-- maps does whether the compared parts are.
use Rattle.std.specs.Prelude.{◌≡◌, ◌&&◌, Option}
use Rattle.std.specs.Bool.{Decides}
use Rattle.std.specs.Cmp.Lexicographic.{pointwise_decides}
use Rattle.std.specs.Option.{option_eq}
use Rattle.hir_collections.specs.Exact.{exact, options_decide}
use Rattle.hir_collections.specs.contracts.idx.IdxPartialEq.TheImpl as id
use Rattle.hir_path.specs.NodeIds.{PatId, BindingId}
use Rattle.hir_path.specs.same.Fields.{and_decides, both}
use Rattle.hir_path.specs.contracts.ids.PatKind as pat
use Rattle.hir_path.specs.contracts.ids.BindingKind as binding
use Rattle.hir_source_map.specs.ComparedPart.{compared_part}
use Rattle.hir_source_map.specs.same.SameMaps.{maps_decide}
use Rattle.hir_store_core.specs.same.SameStores.{stores_decide}
use Rattle.hir_body.specs.declared.body_source_map.BodySourceMap.{BodySourceMap}
use Rattle.hir_body.specs.declared.formals.Param.{Param}
use Rattle.hir_body.specs.contracts.body.BodyPartialEq.TheImpl as body
use Rattle.hir_body.specs.contracts.body_source_map.BodySourceMapPartialEq.TheImpl as body_maps
use Rattle.hir_body.specs.Bodies.{BodyContents}

params_decide : (x y : Param PatId) → Decides ((id.ghosts pat.the_row).eq x.formal y.formal
    && (id.ghosts pat.the_row).eq x.user_written y.user_written) (x ≡ y)
params_decide x y = search exact

self_decides : (x y : Param BindingId) → Decides ((id.ghosts binding.the_row).eq x.formal y.formal
    && (id.ghosts binding.the_row).eq x.user_written y.user_written) (x ≡ y)
self_decides x y = search exact

selves_decide : (x y : Option (Param BindingId)) → Decides
    (option_eq (λ x y. (id.ghosts binding.the_row).eq x.formal y.formal
    && (id.ghosts binding.the_row).eq x.user_written y.user_written) x y) (x ≡ y)
selves_decide x y = search (exact, self_decides)

pub bodies_decide : (x y : BodyContents) → Decides (body.ghosts.eq x y) (x ≡ y)
bodies_decide x y =
    and_decides _ _ (stores_decide x.store y.store)
    (both _ _ (pointwise_decides params_decide x.params y.params) (selves_decide x.self_param y.self_param))
    (λ e r i. record { store = e i; params = r.0 i; self_param = r.1 i })
    (λ e i. (e i).store)
    (λ e. (λ i. (e i).params, λ i. (e i).self_param))

-- source maps of stores are compared by a part
pub body_maps_decide : (x y : BodySourceMap) → Decides (body_maps.ghosts.eq x y)
    ((compared_part x.store ≡ compared_part y.store) × (x.self_param_syntax ≡ y.self_param_syntax))
body_maps_decide x y = both _ _ (maps_decide x.store y.store)
    (options_decide (λ p q. search exact) x.self_param_syntax y.self_param_syntax)
