use Rattle.std.proofs.Common.{◌-◌, ◌++◌, replicate, vec_len, arith, sym}
use Rattle.std.specs.Prelude.{None}
use Rattle.std.proofs.lemmas.List.{length-set}
use Rattle.hir_collections.proofs.PlacesLemmas.{ends_full-set, ends_full-push, none_past}
use Rattle.hir_collections.proofs.arena_map.ArenaMap.insert.Goals as goal

pub invariant_of-self : goal.invariant_of-self
invariant_of-self g c =
    let xs = c.self.inside.places.items in
    let at = c.into_raw-at.result in (
      rw c.replace.ensures.after (ends_full-set xs at c.args.value c.self.invariant.0),
      omega (arith, length-set xs at c.replace.new.self, c.self.invariant.1),
    )

pub invariant_of-self-2 : goal.invariant_of-self-2
invariant_of-self-2 g c =
    let xs = c.self.inside.places.items in
    let empty = replicate (c.into_raw-at.result - vec_len c.self.inside.places) None in
    let put = c.in_ok-put_past_the_end.ensures.ok in (
      rw put (ends_full-push (xs ++ empty) c.args.value),
      omega (arith, c.put_past_the_end.new.places.ok.0, c.in_ok-put_past_the_end.ensures.len, c.into_raw-at.type_inv),
    )

pub returns-clause-old : goal.returns-clause-old
returns-clause-old g c =
    rw (← c.self.view_is, ← c.into_raw-at.ensures)
    (sym (none_past c.self.inside.places.items c.into_raw-at.result (omega (arith, c.self.inside.places.ok.0, c.len.ensures, c.if-at-len.false))))
