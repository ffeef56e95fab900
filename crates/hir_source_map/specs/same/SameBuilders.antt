-- That `==` of builders of source maps decides whether they have the same maps.
use Rattle.std.specs.Prelude.{◌≡◌, true, Bool}
use Rattle.std.specs.Bool.{Decides}
use Rattle.std.specs.FinMap as map
use Rattle.std.specs.Cmp.Lexicographic.{nat_list_cmp_total, pointwise_decides, bytes_decides}
use Rattle.std.proofs.Common.{refl}
use Rattle.hir_collections.specs.Exact.{exact}
use Rattle.hir_collections.specs.Maps.{same_maps, same_maps_decides}
use Rattle.hir_collections.specs.Table.{by_code, by_code-IsAntisymmetric}
use Rattle.hir_path.specs.same.Fields.{and_decides, both}
use Rattle.hir_source_map.specs.declared.sources.ExprSources.{ExprSources}
use Rattle.hir_source_map.specs.declared.sources.TypeSources.{TypeSources}
use Rattle.hir_source_map.specs.declared.source_map_builder.SourceMapBuilder.{SourceMapBuilder}
use Rattle.hir_source_map.specs.contracts.sources.ExprSourcesPartialEq.TheImpl as exprs
use Rattle.hir_source_map.specs.contracts.sources.TypeSourcesPartialEq.TheImpl as types
use Rattle.hir_source_map.specs.contracts.source_map_builder.SourceMapBuilderPartialEq.TheImpl as builders
use Rattle.hir_source_map.specs.Additions.{HasSameMaps}
use Rattle.hir_source_map.specs.same.SameDiagnostics.{diagnostics_decide}

tables_decide : {X : Type 0} {E : X → X → Bool} → ((x y : X) → Decides (E x y) (x ≡ y))
    → (m n : map.FinMap by_code X) → Decides (same_maps by_code E m n) (m ≡ n)
tables_decide {E = E} decides = same_maps_decides nat_list_cmp_total E by_code-IsAntisymmetric decides

exprs_decide : (p q : ExprSources) → Decides (exprs.ghosts.eq p q) (p ≡ q)
exprs_decide p q =
    and_decides _ _ (tables_decide (search exact) p.expr_map q.expr_map)
    (both _ _ (tables_decide (search exact) p.expr_map_back q.expr_map_back)
    (both _ _ (tables_decide (search exact) p.pat_map q.pat_map)
    (both _ _ (tables_decide (search exact) p.pat_map_back q.pat_map_back)
    (both _ _ (tables_decide (search exact) p.label_map q.label_map)
    (both _ _ (tables_decide (search exact) p.label_map_back q.label_map_back)
    (both _ _ (tables_decide bytes_decides p.definitions q.definitions)
    (both _ _ (tables_decide (search exact) p.field_map_back q.field_map_back)
    (both _ _ (tables_decide (search exact) p.pat_field_map_back q.pat_field_map_back)
    (both _ _ (tables_decide (search exact) p.expansions q.expansions)
    (pointwise_decides diagnostics_decide p.diagnostics q.diagnostics))))))))))
    (λ e r i. record {
      expr_map = e i;
      expr_map_back = r.0 i;
      pat_map = r.1.0 i;
      pat_map_back = r.1.1.0 i;
      label_map = r.1.1.1.0 i;
      label_map_back = r.1.1.1.1.0 i;
      definitions = r.1.1.1.1.1.0 i;
      field_map_back = r.1.1.1.1.1.1.0 i;
      pat_field_map_back = r.1.1.1.1.1.1.1.0 i;
      expansions =
          r.1.1.1.1.1.1.1.1.0 i;
      diagnostics = r.1.1.1.1.1.1.1.1.1 i;
    })
    (λ e i. (e i).expr_map)
    (λ e. (
      λ i. (e i).expr_map_back,
      (
        λ i. (e i).pat_map,
        (
          λ i. (e i).pat_map_back,
          (
            λ i. (e i).label_map,
            (
              λ i. (e i).label_map_back,
              (
                λ i. (e i).definitions,
                (
                  λ i. (e i).field_map_back,
                  (
                    λ i. (e i).pat_field_map_back,
                    (λ i. (e i).expansions, λ i. (e i).diagnostics),
                  ),
                ),
              ),
            ),
          ),
        ),
      ),
    ))

types_decide : (p q : TypeSources) → Decides (types.ghosts.eq p q) (p ≡ q)
types_decide p q =
    and_decides _ _ (tables_decide (search exact) p.type_map q.type_map)
    (both _ _ (tables_decide (search exact) p.type_map_back q.type_map_back)
    (both _ _ (tables_decide (search exact) p.lifetime_map q.lifetime_map)
    (tables_decide (search exact) p.lifetime_map_back q.lifetime_map_back)))
    (λ e r i. record {
      type_map = e i;
      type_map_back = r.0 i;
      lifetime_map = r.1.0 i;
      lifetime_map_back = r.1.1 i;
    })
    (λ e i. (e i).type_map)
    (λ e. (λ i. (e i).type_map_back, (λ i. (e i).lifetime_map, λ i. (e i).lifetime_map_back)))

-- two handles to the memory always compare as equal
handles_decide : Decides true (true ≡ true)
handles_decide = (λ h. refl, λ e. refl)

pub builders_decide : (x y : SourceMapBuilder) → Decides (builders.ghosts.eq x y) (HasSameMaps x y)
builders_decide x y =
    and_decides _ _ (exprs_decide x.exprs y.exprs) (both _ _ (types_decide x.types y.types) handles_decide)
    (λ e r. (e, r.0))
    (λ h. h.0)
    (λ h. (h.1, refl))
