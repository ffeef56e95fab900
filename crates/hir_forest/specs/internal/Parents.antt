-- Beside Parents.antt: what only contracts within this crate cite.
use Rattle.std.specs.Prelude.{ℕ, zero, suc, ◌≤◌, ◌↔◌, Bool, List, Option, Some, None, map, length, slice_index_or}
use Rattle.hir_forest.specs.declared.parent_table.Numbers.{Numbers}
use Rattle.hir_forest.specs.declared.parent_table.Numbers.TheVariants.{Narrow, Wide}
use Rattle.hir_forest.specs.Forest.{Climbs, Marks, LiesUnderMarked}

-- the parent that a number of the table encodes: 0 encodes none
abbrev pub parent_of : ℕ → Option ℕ
parent_of zero = None
parent_of (suc p) = Some p

abbrev pub parents_in : Numbers → List (Option ℕ)
parents_in (Narrow numbers) = map parent_of numbers.items
parents_in (Wide numbers) = map parent_of numbers.items

-- each number is one more than a node's, or 0
abbrev pub NameNodes : List ℕ → Type 0
NameNodes numbers = (n : ℕ) → slice_index_or numbers n 0 ≤ length numbers

abbrev pub AreSound : Numbers → Type 0
AreSound (Narrow numbers) = (length numbers.items ≤ 4294967295) × NameNodes numbers.items
AreSound (Wide numbers) = NameNodes numbers.items

-- r is on the chain of parents from c, which begins with c
abbrev pub IsOnChain : List (List ℕ) → ℕ → ℕ → Type 0
IsOnChain g c r = (k : ℕ) × Climbs g k c r

-- a marked node is on the chain of parents from c
abbrev pub MeetsMarked : List (List ℕ) → List Bool → ℕ → Type 0
MeetsMarked g marked c = (r : ℕ) × Marks marked r × IsOnChain g c r

-- no marked node is on the chain of a clear node
abbrev pub AreClear : List (List ℕ) → List Bool → List Bool → Type 0
AreClear g marked clear = (c : ℕ) → Marks clear c → MeetsMarked g marked c → ⊥

-- the table under says of each known node whether it is a descendant of a marked one
abbrev pub AreKnown : List (List ℕ) → List Bool → List Bool → List Bool → Type 0
AreKnown g marked known under = (c : ℕ) → Marks known c → Marks under c ↔ LiesUnderMarked g marked c
