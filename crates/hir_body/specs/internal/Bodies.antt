-- Beside Bodies.antt: what only contracts within this crate cite.
use Rattle.std.specs.Prelude.{◌≡◌, ◌⊎◌, ◌↔◌}
use Rattle.hir_body.specs.Prelude.{List, Contains, NodeId, HasNode, MarkedNodes, IsIn}

-- the set gains these nodes, and no other
abbrev pub GainsAll : MarkedNodes → List NodeId → MarkedNodes → Type 0
GainsAll old added new =
    (new.sizes ≡ old.sizes)
    × ((n : NodeId) → HasNode old.sizes n → IsIn new n ↔ (IsIn old n ⊎ Contains added n))
