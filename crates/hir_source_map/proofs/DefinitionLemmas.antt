-- Definitions with one more, and definitions in which a list was put back.
use Rattle.std.proofs.Common.{◌≡◌, ℕ, List, [], ◌∷◌, ◌++◌, true, false, cond, refl, ap, sym, ◌∙◌, subst}
use Rattle.std.specs.Prelude.{Option, Some, OnSome}
use Rattle.std.specs.Ordering.{eq_by_cmp}
use Rattle.std.specs.Cmp.Lexicographic.{nat_list_cmp_total}
use Rattle.std.specs.FinMap as map
use Rattle.hir_collections.specs.Table.{by_code, by_code-IsAntisymmetric, by_code_decides}
use Rattle.hir_source_map.specs.Sources.{id_key, list_or_none, and_definition}

-- what follows from a value that is present
pub of_some : {A P : Type 0} {o : Option A} {x : A} → o ≡ Some x → OnSome o P → P
of_some {A} {P} {o} {x} e h = subst (λ r. OnSome r P) e h

pub one_more : (m n : map.FinMap by_code (List ℕ)) (binding pat : ℕ) (list w : List ℕ)
    → Some list ≡ map.get m (id_key binding) → w ≡ list ++ pat ∷ [] → n ≡ map.insert m (id_key binding) w → n ≡ and_definition m binding pat
one_more m n binding pat list w found grown put =
    put ∙ ap (map.insert m (id_key binding)) grown ∙ ap (λ o. map.insert m (id_key binding) (list_or_none o ++ pat ∷ [])) found

pub put_back : (m n : map.FinMap by_code (List ℕ)) (key : List ℕ) (list w : List ℕ)
    → Some list ≡ map.get m key → w ≡ list → n ≡ map.insert m key w → n ≡ m
put_back m n key list w found same put =
    put ∙ map.same_map nat_list_cmp_total by_code-IsAntisymmetric _ _ (λ c.
    map.get-insert nat_list_cmp_total m key w c
    ∙ elim (eq_by_cmp by_code c key) as (λ b. eq_by_cmp by_code c key ≡ b → cond b (Some w) (map.get m c) ≡ map.get m c) [
      | true ↦ λ h. ap Some same ∙ found ∙ ap (map.get m) (sym ((by_code_decides c key).0 h))
      | false ↦ λ h. refl
    ] refl)
