use Rattle.std.proofs.Common.{◌≡◌, [], rules}
use Rattle.std.specs.Option.{option_to_list, option_map}
use Rattle.hir_usages.specs.internal.{Reading.lists_of}
use Rattle.hir_usages.proofs.FindLemmas.{all_usages, all_bound}
use Rattle.hir_usages.proofs.usages.find.Goals.{in-Some+in_ok-push, in_default}
use Rattle.hir_usages.proofs.usages.find.Goals as goal

pub returns-clause-usages : goal.returns-clause-usages
returns-clause-usages c =
    let none : c.match-self_param.found.usages.items ≡ [] =
    elim c.match-self_param.branch [ in-Some+in_ok-push w ↦ search rules | in_default w ↦ search rules ] in
    all_usages c.args.body.now c.args.walk.now c.requires (lists_of c.match-self_param.found)
    (lists_of c.run.new.found) c.in_ok-unread.unread.stack.items
    c.in_ok-unread.ensures.ahead c.in_ok-run.ensures none

pub returns-clause-bound : goal.returns-clause-bound
returns-clause-bound c =
    let own : c.match-self_param.found.bound.items ≡ option_to_list (option_map (λ p. p.formal) c.args.body.now.self_param) =
    elim c.match-self_param.branch [ in-Some+in_ok-push w ↦ search rules | in_default w ↦ search rules ] in
    all_bound c.args.body.now c.args.walk.now c.requires (lists_of c.match-self_param.found)
    (lists_of c.run.new.found) c.in_ok-unread.unread.stack.items
    c.in_ok-unread.ensures.ahead c.in_ok-run.ensures own
