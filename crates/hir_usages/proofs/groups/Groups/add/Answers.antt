use Rattle.std.proofs.Common.{rules}
use Rattle.hir_usages.proofs.GroupLemmas.{one_more_of, unwrapped}
use Rattle.hir_usages.proofs.groups.Groups.add.Goals as goal

pub returns : goal.returns
returns c = λ before are.
    one_more_of before c.args.usage c.args.self.now.by_binding c.insert-2.new.self c.args.self.now.unresolved.items
    c.in-Some.binding c.new.result c.push-2.new.self are c.in-Some.is (search rules) (search (rules, unwrapped))
