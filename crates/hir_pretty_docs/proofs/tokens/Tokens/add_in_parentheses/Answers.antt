use Rattle.hir_pretty_docs.proofs.Common.{arith, map, refl, p, comma_joined, with_rest, adds, adds_then, adds_more, adds_as, Adds, rest_is}
use Rattle.hir_pretty_docs.proofs.tokens.Tokens.add_in_parentheses.Goals as goal
use Rattle.hir_pretty_docs.proofs.tokens.Tokens.add_in_parentheses.Goals.{in-None, in-Some}

pub returns : goal.returns
returns c =
    let inside : Adds c.add.new.self.stack (λ s. comma_joined (with_rest c.args.rest (map p c.args.pats.now))) c.match-rest.self.stack = elim c.match-rest.branch [
      | in-None w ↦ rw (w.self-is, w.in-None.is) w.add_joined.ensures
      | in-Some w ↦ rw (w.self-is, w.in-Some.is) (adds_as (adds_then (adds_more (adds_then w.add_joined-in-Some.ensures
          (rw w.is_empty.ensures at w.add_if.ensures)) w.add-in-Some.ensures) w.add_list.ensures)
          (λ s. rest_is c.args.pats.now w.split_at.result.0.now w.split_at.result.1.now w.in-Some.at _ (omega arith) w.split_at.ensures.front w.split_at.ensures.back))
    ] in
    adds_more (adds_then (adds c.add.ensures (λ s. refl)) inside) c.add-2.ensures
