-- Defines the height of a node: the number of nodes on the longest path down from it. In a forest it
-- decreases from a node to its children.
use Rattle.std.specs.Prelude.{ℕ, zero, suc, List, [], ◌∷◌, length, map, slice_index_or}
use Rattle.std.proofs.Common.{max}

-- the largest number of a list, or 0
abbrev pub largest : List ℕ → ℕ
largest [] = 0
largest (x ∷ xs) = max x (largest xs)

-- the number of nodes on the longest path down from a node, cut off at a depth
abbrev pub height_within : List (List ℕ) → ℕ → ℕ → ℕ
height_within g zero n = 0
height_within g (suc depth) n = suc (largest (map (height_within g depth) (slice_index_or g n [])))

-- the height of a node; in a forest no path down has more nodes than there are
unfoldable pub height : List (List ℕ) → ℕ → ℕ
height g n = height_within g (length g) n
