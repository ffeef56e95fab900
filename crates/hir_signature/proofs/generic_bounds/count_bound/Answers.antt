use Rattle.std.proofs.Common.{rules}
use borrow.Author.Tests.{tests}
use Rattle.std.proofs.lemmas.Iterator.{YieldsList-from_slice}
use Rattle.std.proofs.lemmas.Iterator.Consumers.{count_from_yields_List, YieldsList-from_filter}
use Rattle.hir_signature.specs.Params.{is_bound}
use Rattle.hir_signature.proofs.generic_bounds.count_bound.Goals as goal

pub returns : goal.returns
returns c = count_from_yields_List c.filter.result _ c.count.ensures.ran (YieldsList-from_filter _ (is_bound c.args.bound_type.now) (YieldsList-from_slice c.args.lifetimes.now cc) c.filter.ensures.closure (λ x r q k. search (rules, tests)))
