-- That `==` of paths decides whether they are the same.
use Rattle.std.specs.Prelude.{◌≡◌}
use Rattle.std.proofs.Common.{ap}
use Rattle.std.specs.Bool.{Decides}
use Rattle.hir_collections.specs.Exact.{optional_numbers_decide}
use Rattle.hir_path.specs.same.Fields.{and_decides, both}
use Rattle.hir_path.specs.same.Leaves.{mod_paths_decide, targets_decide, given_lists_decide, optional_names_decide}
use Rattle.hir_path.specs.declared.path.NormalPath.{NormalPath}
use Rattle.hir_path.specs.declared.path.Path.{Path}
use Rattle.hir_path.specs.declared.path.Path.TheVariants.{BarePath, Normal, LangItem}
use Rattle.hir_path.specs.contracts.path.NormalPathPartialEq.TheImpl as normal
use Rattle.hir_path.specs.contracts.path.PathPartialEq.TheImpl as paths

pub normals_decide : (x y : NormalPath) → Decides (normal.ghosts.eq x y) (x ≡ y)
normals_decide x y =
    and_decides _ _ (given_lists_decide x.generic_args y.generic_args)
    (both _ _ (optional_numbers_decide x.type_anchor y.type_anchor) (mod_paths_decide x.mod_path y.mod_path))
    (λ g r i. record { generic_args = g i; type_anchor = r.0 i; mod_path = r.1 i })
    (λ e i. (e i).generic_args) (λ e. (λ i. (e i).type_anchor, λ i. (e i).mod_path))

-- variant by variant
pub paths_decide : (x y : Path) → Decides (paths.ghosts.eq x y) (x ≡ y)
paths_decide (BarePath x) (BarePath y) = (
  λ h. ap BarePath ((mod_paths_decide x y).0 h),
  λ e.
      (mod_paths_decide x y).1 (cc),
)
paths_decide (BarePath x) (Normal y) = (λ h. absurd (cc), λ e. absurd (cc))
paths_decide (BarePath x) (LangItem y n) = (λ h. absurd (cc), λ e. absurd (cc))
paths_decide (Normal x) (BarePath y) = (λ h. absurd (cc), λ e. absurd (cc))
paths_decide (Normal x) (Normal y) = (
  λ h. ap Normal ((normals_decide x y).0 h),
  λ e.
      (normals_decide x y).1 (cc),
)
paths_decide (Normal x) (LangItem y n) = (λ h. absurd (cc), λ e. absurd (cc))
paths_decide (LangItem x m) (BarePath y) = (λ h. absurd (cc), λ e. absurd (cc))
paths_decide (LangItem x m) (Normal y) = (λ h. absurd (cc), λ e. absurd (cc))
paths_decide (LangItem x m) (LangItem y n) = and_decides _ _ (targets_decide x y) (optional_names_decide m n)
    (λ p q i. LangItem (p i) (q i)) (λ e. cc) (λ e. cc)
