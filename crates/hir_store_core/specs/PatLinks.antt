-- The links of patterns: from each child of a pattern to the next one, and from the last one back to the
-- pattern.
use Rattle.std.specs.Prelude.{◌≡◌, ◌<◌, ◌∷◌}
use Rattle.hir_store_core.specs.Prelude.{List, [], ⊤, length, slice_index_or, Contains, flat_map, PatId, Pat, pat_of_call, pat_calls, calls_at}
use Rattle.hir_store_core.specs.declared.pat_links.PatLink.{PatLink}
use Rattle.hir_store_core.specs.declared.pat_links.PatLink.TheVariants.{Next, Last, Alone}

-- the children of the pattern of this number, none where it doesn't exist
abbrev pub children_at : List Pat → PatId → List PatId
children_at pats m = flat_map pat_of_call (calls_at pat_calls pats m)

-- nothing occurs twice in the list
abbrev pub IsOnce : {X : Type 0} → List X → Type 0
IsOnce [] = ⊤
IsOnce (x ∷ xs) = (Contains xs x → ⊥) × IsOnce xs

-- each child exists, and is the child of one pattern, once
pub record EachHasOnePlace (pats : List Pat) : Type 0 where
  pub in_range : (m k : PatId) → Contains (children_at pats m) k → k < length pats
  pub one_parent : (m n k : PatId) → Contains (children_at pats m) k → Contains (children_at pats n) k → m ≡ n
  pub once : (m : PatId) → IsOnce (children_at pats m)

-- the link of a pattern
abbrev pub link_at : List PatLink → PatId → PatLink
link_at links p = slice_index_or links p Alone

-- each of these children of a pattern is linked to the next one, and the last one to the pattern
abbrev pub AreLinked : List PatLink → PatId → List PatId → Type 0
AreLinked links m [] = ⊤
AreLinked links m (k ∷ []) = link_at links k ≡ Last m
AreLinked links m (k ∷ q ∷ more) = (link_at links k ≡ Next q) × AreLinked links m (q ∷ more)

-- each pattern has a link, and the children of each are linked
pub record HasPatLinks (pats : List Pat) (links : List PatLink) : Type 0 where
  pub each : length links ≡ length pats
  pub children : (m : PatId) → m < length pats → AreLinked links m (children_at pats m)
