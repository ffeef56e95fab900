use Rattle.std.specs.Prelude.{◌||◌}
use Rattle.std.proofs.Common.{refl}
use Rattle.hir_source_map.specs.Additions.{finish_sources, with_expr, with_pat, with_label, with_type, with_lifetime}
use Rattle.hir_source_map.specs.Sources.{has_news}
use Rattle.hir_source_map.specs.same.SameMaps.{maps_decide}
use Rattle.hir_source_map.proofs.ComparedLemmas.{kept_alike}
use Rattle.hir_source_map.proofs.laws.forward_maps_may_differ.Goals as goal

pub returns-clause-exprs : goal.returns-clause-exprs
returns-clause-exprs c = λ b keeps_nodes source id.
    let alike = kept_alike (with_expr b source id).exprs b.exprs refl (keeps_nodes || has_news b.exprs) in
    (maps_decide (finish_sources keeps_nodes (with_expr b source id)) (finish_sources keeps_nodes b)).1 (λ i. record { kept = alike i; types = b.types.type_map_back; lifetimes = b.types.lifetime_map_back })

pub returns-clause-pats : goal.returns-clause-pats
returns-clause-pats c = λ b keeps_nodes source id.
    let alike = kept_alike (with_pat b source id).exprs b.exprs refl (keeps_nodes || has_news b.exprs) in
    (maps_decide (finish_sources keeps_nodes (with_pat b source id)) (finish_sources keeps_nodes b)).1 (λ i. record { kept = alike i; types = b.types.type_map_back; lifetimes = b.types.lifetime_map_back })

pub returns-clause-labels : goal.returns-clause-labels
returns-clause-labels c = λ b keeps_nodes source id.
    let alike = kept_alike (with_label b source id).exprs b.exprs refl (keeps_nodes || has_news b.exprs) in
    (maps_decide (finish_sources keeps_nodes (with_label b source id)) (finish_sources keeps_nodes b)).1 (λ i. record { kept = alike i; types = b.types.type_map_back; lifetimes = b.types.lifetime_map_back })

pub returns-clause-types : goal.returns-clause-types
returns-clause-types c = λ b keeps_nodes source id. (maps_decide (finish_sources keeps_nodes (with_type b source id)) (finish_sources keeps_nodes b)).1 refl

pub returns-clause-lifetimes : goal.returns-clause-lifetimes
returns-clause-lifetimes c = λ b keeps_nodes source id. (maps_decide (finish_sources keeps_nodes (with_lifetime b source id)) (finish_sources keeps_nodes b)).1 refl
