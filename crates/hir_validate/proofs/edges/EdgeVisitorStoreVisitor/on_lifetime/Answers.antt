use Rattle.std.proofs.Common.{◌≡◌, ◌&&◌, nat_lt, rules, arith, refl}
use Rattle.std.proofs.lemmas.Grind.{common_steps}
use Rattle.hir_validate.proofs.EdgeLemmas.{noted_test}
use Rattle.hir_validate.proofs.edges.EdgeVisitorStoreVisitor.on_lifetime.Goals as goal

pub returns : goal.returns
returns c =
    let in_range : c.if-self.self ≡ (c.args.self.now.all_in_range && nat_lt c.args.id c.args.self.now.sizes.lifetimes) = first_of (search rules, grind (arith, common_steps)) in
    noted_test c.args.self.now record { sizes = c.args.self.now.sizes; parents = c.args.self.now.parents; all_in_range = c.if-self.self } _ refl refl in_range
