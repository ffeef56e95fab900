use Rattle.hir_pretty_docs.proofs.Common.{adds_as, map, text, following_joined}
use Rattle.hir_pretty_docs.proofs.tokens.Tokens.add_joined.Goals as goal

pub returns : goal.returns
returns g c = adds_as c.add_list.ensures (λ s. following_joined (text c.args.between.now) (map (g.T.Part.docs s) c.args.members.now))
