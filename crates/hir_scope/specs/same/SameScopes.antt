-- Proof that `==` of scopes decides whether they are the same: their kinds, entries and parents, and the
-- scope of each expression.
use Rattle.std.specs.Bool.{Decides}
use Rattle.std.specs.Cmp.{IsEquivalence, IsPartialEquivalence, decided, partial_equiv_from_equiv, nat_cmp_total, unsigned_Decides}
use Rattle.std.specs.{Cmp.Lexicographic.pointwise, Cmp.Lexicographic.pointwise_decides, Option.option_eq}
use Rattle.std.specs.FinMap as map
use Rattle.std.specs.{Ordering.nat_cmp, Prelude.◌≡◌, Prelude.Bool, Prelude.◌&&◌, Prelude.eqb}
use Rattle.hir_collections.specs.{Exact.optional_numbers_decide, Maps.same_maps, Maps.same_maps_decides}
use Rattle.hir_path.specs.same.Fields.{and_decides, both}
use Rattle.hir_scope.specs.Scopes.{Scope, Scopes}
use Rattle.hir_scope.specs.contracts.scope.ScopeEntryExactEq.TheImpl.Laws as entry_law
use Rattle.hir_scope.specs.contracts.scope.ScopeEntryPartialEq.TheImpl as entry
use Rattle.hir_scope.specs.contracts.scope.ScopeKindExactEq.TheImpl.Laws as kind_law
use Rattle.hir_scope.specs.contracts.scope.ScopeKindPartialEq.TheImpl as kind

abbrev pub same_scope : Scope → Scope → Bool
same_scope x y =
    option_eq eqb x.parent y.parent
    && (kind.ghosts.eq x.kind y.kind && pointwise entry.ghosts.eq x.entries y.entries)

abbrev pub same_scopes : Scopes → Scopes → Bool
same_scopes x y =
    pointwise same_scope x.scopes y.scopes && same_maps nat_cmp eqb x.scope_by_expr y.scope_by_expr

pub scope_decides : (x y : Scope) → Decides (same_scope x y) (x ≡ y)
scope_decides x y =
    and_decides _ _ (optional_numbers_decide x.parent y.parent)
    (both _ _ (kind_law.lawful.eq_decides x.kind y.kind)
    (pointwise_decides entry_law.lawful.eq_decides x.entries y.entries))
    (λ p r i. record { parent = p i; kind = r.0 i; entries = r.1 i })
    (λ e i. (e i).parent)
    (λ e. (λ i. (e i).kind, λ i. (e i).entries))

pub scopes_decide : (x y : Scopes) → Decides (same_scopes x y) (x ≡ y)
scopes_decide x y =
    and_decides _ _ (pointwise_decides scope_decides x.scopes y.scopes)
    (same_maps_decides nat_cmp_total eqb map.nat_cmp-IsAntisymmetric unsigned_Decides
    x.scope_by_expr y.scope_by_expr)
    (λ s m i. record { scopes = s i; scope_by_expr = m i })
    (λ e i. (e i).scopes)
    (λ e i. (e i).scope_by_expr)

pub scopes_equiv : IsEquivalence same_scopes
scopes_equiv = decided same_scopes scopes_decide

pub scopes_per : IsPartialEquivalence same_scopes
scopes_per = partial_equiv_from_equiv scopes_equiv
