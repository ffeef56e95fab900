-- Defines how a write through a `&mut` to one value changes a table.
use Rattle.std.specs.Prelude.{◌≡◌, ℕ, Bool, List, Option, OnSome}
use Rattle.std.specs.Borrow.{LendsSo, MutBor, Fml, RattleType}
use Rattle.std.specs.FinMap as map
use Rattle.hir_collections.specs.Table.{by_code}
use Rattle.hir_collections.specs.contracts.table.Table.{the_row}

-- the type of what a clause writes as K.HasCode
abbrev pub KeyMembers : Type 0 → Type 0
KeyMembers K = record { hash_input : K → List (List ℕ); eq : K → K → Bool; code : K → List ℕ }

-- once the borrow ends, the value at the key of this code is the last one written through r, and nothing
-- else in the table has changed
abbrev pub lends_value : (K V : RattleType) → KeyMembers K.Denot → MutBor (map.FinMap by_code V.Denot)
    → List ℕ → Option (MutBor V.Denot) → Fml
lends_value K V g table code r =
    LendsSo (the_row K V (record { code = g.code }) (record { eq = g.eq })
    (record { hash_input = g.hash_input })) V table r
    (λ n value. OnSome r (n ≡ map.insert table.now code value)) (λ n. n ≡ table.now)
