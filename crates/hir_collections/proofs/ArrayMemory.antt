-- An array in memory is its elements side by side, and back.
use mathlib.Core.Path.{◌≡◌}
use Prim.Native.Nat.{ℕ}
use mathlib.Core.List.{List, [], ◌∷◌}
use lib.ListN.{length}
use seplogic.Ra.Ura.{Ura}
use mir.Syntax.{Args, a_type, a_number}
use base.Logic.{ent, guard}
use base.Fraction.{full_share}
use base.Fml.{fsep, feq}
use types.Logic.{Logic, sem}
use types.SemTy.{cells}
use types.Kit.{‵, ◌$◌, ◌∵◌, !, qed, fsplit, fjoin, use1, done, feq_l, feq_i, check}
use denote.Array.{Array}
use denote.ArrayMemory.{Array-apart, Array-whole}
use denote.Index.{row, whole_in, whole_out}
use denote.Memory.{mem, part_at}
use denote.Param.{param, number, layouts, ArrayAt}
use denote.RattleType.{RattleType}

module _ (X : RattleType) (n : ℕ) where
  abbrev pub args : Args
  args = layouts (a_type ∷ a_number ∷ []) (X, (number n, tt))

  -- the type of an element, the length, and the array
  abbrev pub R : RattleType
  R = param 0 X

  abbrev pub N : RattleType
  N = param 1 (number n)

  abbrev pub S : RattleType
  S = ArrayAt R N

  module _ {M : Type 1} {𝓤 : Ura M} (𝓛 : Logic 𝓤) (b o : ℕ) where
    pub elements_out : (xs : List X.Denot) → ent 𝓤 (sem 𝓛 ((mem S).own_at xs b o))
        (guard 𝓤 (length xs ≡ n) (sem 𝓛 (cells (mem R) xs b o)))
    elements_out xs =
        qed 𝓛 (‵ (part_at (Array R n) full_share xs b o) ∷ []) ∵
        use1 𝓛 (‵ (fsep (feq ℕ (length xs) n) (row R full_share xs b o)))
        (Array-apart 𝓛 R full_share tt n xs b o) $ fsplit ! $ feq_l ! (λ long.
        use1 𝓛 (‵ (cells (mem R) xs b o)) (whole_in 𝓛 R xs b o) $
        check ! long $ done !)

    pub elements_in : (xs : List X.Denot) → length xs ≡ n
        → ent 𝓤 (sem 𝓛 (cells (mem R) xs b o)) (sem 𝓛 ((mem S).own_at xs b o))
    elements_in xs long =
        qed 𝓛 (‵ (cells (mem R) xs b o) ∷ []) ∵
        use1 𝓛 (‵ (row R full_share xs b o)) (whole_out 𝓛 R xs b o) $
        feq_i ! ℕ (length xs) n long $ fjoin ! $
        use1 𝓛 (‵ (part_at (Array R n) full_share xs b o))
        (Array-whole 𝓛 R full_share n xs b o) $ done !
