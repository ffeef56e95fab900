use Rattle.std.proofs.Common.{ap, sym, ◌∙◌, Some}
use Rattle.std.specs.Option.{option_map}
use Rattle.std.proofs.lemmas.Map.Iter.{rest_more, rest_all}
use Rattle.hir_signature.specs.Generics.{is_const_named, of_parent}
use Rattle.hir_signature.proofs.GenericLists.{position_of_first, no_position}
use Rattle.hir_signature.proofs.generic_params.GenericParams.find_const_by_name.Goals as goal

pub returns-then-is_const_named : goal.returns-then-is_const_named
returns-then-is_const_named c =
    let first = rest_more (λ e. (e.0, e.1.now)) c.loop-local_id.local_id-iterator c.next.new.self c.next.result (c.in-Some.local_id, c.in-Some.param) c.in-Some.is c.next.ensures.steps in
    let place = position_of_first (is_const_named c.args.name.now) c.args.self.now.type_or_consts c.loop-local_id.local_id-iterator c.in-Some.local_id c.in-Some.param.now c.next.new.self c.loop-local_id.invariant first (sym c.is_const_named.ensures ∙ c.if-is_const_named.true) in
    ap Some c.from_unchecked.ensures ∙ sym (ap (option_map (of_parent c.args.parent)) place)

pub returns : goal.returns
returns c =
    let none = rest_all (λ e. (e.0, e.1.now)) c.loop-local_id.local_id-iterator c.next.new.self c.next.result c.in-None.is c.next.ensures.steps in
    let place = no_position (is_const_named c.args.name.now) c.args.self.now.type_or_consts c.loop-local_id.local_id-iterator c.loop-local_id.invariant none in
    sym (ap (option_map (of_parent c.args.parent)) place)
