use Rattle.std.proofs.Common.{◌≡◌, ◌++◌, false, length, ◌∙◌, ap, take, drop, ℕ, arith, vec_len}
use Rattle.std.specs.Prelude.{is_some, reverse}
use Rattle.std.specs.Vec.{with_items}
use Rattle.std.proofs.Math.Seq.{take-append_seam}
use Rattle.hir_collections.proofs.DeferredLemmas.{turned}
use Rattle.hir_collections.proofs.stack.Stack.push_deferred.Goals as goal

pub returns-then-below-len-clause-ok : goal.returns-then-below-len-clause-ok
returns-then-below-len-clause-ok g c = λ before pushed n defers.
    let row = c.self.inside.items in
    let now = c.reverse_from.new.items in
    let has_room : is_some c.self.inside.refused ≡ false = ap is_some c.in-None.is in
    let on_them = rw (← c.self.view_is) at defers in
    let same = turned c.args.below row.items before.items pushed (on_them has_room).1 n in
    let long : vec_len row ≡ length now = omega arith in
    let written : (with_items row now).items ≡ now = ap (λ (k : ℕ). take k (now ++ drop (length now) row.items)) long ∙ take-append_seam now (drop (length now) row.items) in
    let reversed : now ≡ take c.args.below row.items ++ reverse (drop c.args.below row.items) = rw (← c.deref_mut.ensures.value) c.reverse_from.ensures in
    λ i. record { items = (ap reverse (written ∙ reversed) ∙ same) i; refused = has_room i }
