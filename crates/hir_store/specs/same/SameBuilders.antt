-- Proof that `==` of builders decides whether they have the same, part by part.
use Rattle.std.specs.Prelude.{◌≡◌, true}
use Rattle.std.specs.Bool.{Decides}
use Rattle.std.specs.Cmp.Lexicographic.{nat_list_cmp_total, pointwise_decides}
use Rattle.std.proofs.Common.{refl}
use Rattle.hir_collections.specs.Exact.{exact, options_decide}
use Rattle.hir_collections.specs.Maps.{same_maps_decides}
use Rattle.hir_collections.specs.Table.{by_code-IsAntisymmetric}
use Rattle.hir_path.specs.same.Fields.{and_decides, both}
use Rattle.hir_node.specs.same.SameExprs.{exprs_decide}
use Rattle.hir_node.specs.same.SamePats.{pats_decide}
use Rattle.hir_node.specs.same.SameTypes.{types_decide}
use Rattle.hir_node.specs.same.SameStructs.{bindings_decide}
use Rattle.hir_node.specs.contracts.binding.LabelExactEq.TheImpl.Laws as labels_law
use Rattle.hir_node.specs.contracts.type_ref.LifetimeRefExactEq.TheImpl.Laws as lifetimes_law
use Rattle.hir_source_map.specs.same.SameBuilders.{builders_decide as source_maps_decide}
use Rattle.hir_store_core.specs.same.SameRoots.{root_lists_decide}
use Rattle.hir_store.specs.declared.builder.ExpressionStoreBuilder.{ExpressionStoreBuilder}
use Rattle.hir_store.specs.contracts.builder.ExpressionStoreBuilderPartialEq.TheImpl as builders
use Rattle.hir_store.specs.Building.{HasTheSame}

-- two handles to the memory are always equal
handles_decide : Decides true (true ≡ true)
handles_decide = (λ h. refl, λ e. refl)

pub builders_decide : (x y : ExpressionStoreBuilder) → Decides (builders.ghosts.eq x y) (HasTheSame x y)
builders_decide x y =
    and_decides _ _ (pointwise_decides exprs_decide x.exprs y.exprs)
    (both _ _ (pointwise_decides pats_decide x.pats y.pats)
    (both _ _ (pointwise_decides bindings_decide x.bindings y.bindings)
    (both _ _ (pointwise_decides labels_law.lawful.eq_decides x.labels y.labels)
    (both _ _ (pointwise_decides lifetimes_law.lawful.eq_decides x.lifetimes y.lifetimes)
    (both _ _ (pointwise_decides types_decide x.types y.types)
    (both _ _ (same_maps_decides nat_list_cmp_total _ by_code-IsAntisymmetric
    (search exact) x.binding_owners y.binding_owners)
    (both _ _ (same_maps_decides nat_list_cmp_total _ by_code-IsAntisymmetric
    (search exact) x.hygiene y.hygiene)
    (both _ _ (pointwise_decides (search exact) x.block_scopes y.block_scopes)
    (both _ _ (source_maps_decide x.source_map y.source_map)
    (both _ _ (options_decide root_lists_decide x.roots y.roots) handles_decide))))))))))
    (λ exprs (
      pats,
      (
        bindings,
        (
          labels,
          (
            lifetimes,
            (types, (owners, (hygiene, (blocks, (sources, (roots, handle)))))),
          ),
        ),
      ),
    ). (
      λ i. record {
        nodes = record {
          exprs = exprs i;
          pats = pats i;
          types = types i;
          bindings = bindings i;
          labels = labels i;
          lifetimes = lifetimes i;
        };
        roots = roots i;
        side_tables = record { owners = owners i; hygiene = hygiene i; blocks = blocks i };
      },
      sources,
    ))
    (λ h i. (h.0 i).nodes.exprs)
    (λ h. (
      λ i. (h.0 i).nodes.pats,
      (
        λ i. (h.0 i).nodes.bindings,
        (
          λ i. (h.0 i).nodes.labels,
          (
            λ i. (h.0 i).nodes.lifetimes,
            (
              λ i. (h.0 i).nodes.types,
              (
                λ i. (h.0 i).side_tables.owners,
                (
                  λ i. (h.0 i).side_tables.hygiene,
                  (
                    λ i.
                        (h.0 i).side_tables.blocks,
                    (h.1, (λ i. (h.0 i).roots, refl)),
                  ),
                ),
              ),
            ),
          ),
        ),
      ),
    ))
