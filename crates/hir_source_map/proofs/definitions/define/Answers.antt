use Rattle.hir_source_map.specs.Sources.{id_key}
use Rattle.hir_source_map.proofs.DefinitionLemmas.{of_some, one_more, put_back}
use Rattle.hir_source_map.proofs.definitions.define.Goals as goal

pub returns-in-Ok-clause-ok : goal.returns-in-Ok-clause-ok
returns-in-Ok-clause-ok c =
    one_more c.args.definitions.now _ c.args.binding c.args.pat c.in-Some.list.now c.push.new.self c.in-Some.ensures.value c.in-Ok.ensures.ok (of_some c.in-Some.is (c.get_mut.follows.holds c.push.new.self))

pub returns-in-Err-clause-err : goal.returns-in-Err-clause-err
returns-in-Err-clause-err c =
    put_back c.args.definitions.now _ (id_key c.args.binding) c.in-Some.list.now c.push.new.self c.in-Some.ensures.value c.in-Err.ensures.err (of_some c.in-Some.is (c.get_mut.follows.holds c.push.new.self))
