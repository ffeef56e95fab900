use Rattle.hir_store_core.proofs.KeptLemmas.{none_shared}
use Rattle.hir_store_core.proofs.kept_parts.KeptPartsEmpty.empty_value.Goals as goal

pub returns : goal.returns
returns c =
    let shared = none_shared c.none.result c.none.ensures.none in
    λ i. record {
      parents = record { rows = c.none.ensures.none.rows i; parents = c.none.ensures.room i; shared = shared i };
      links = c.none-2.ensures i;
    }
