use Rattle.std.proofs.Common.{◌≡◌, replicate, rules}
use Rattle.hir_forest.proofs.ParentLemmas.{all_zero}
use Rattle.hir_forest.proofs.parent_table.ParentTable.new.Goals as goal

pub returns-then-nodes : goal.returns-then-nodes
returns-then-nodes c = let zeros : c.in_ok-vec.field-0.items ≡ replicate c.args.nodes 0 = search rules in rw zeros (all_zero c.args.nodes)

pub returns : goal.returns
returns c = let zeros : c.in_ok-vec-2.field-0.items ≡ replicate c.args.nodes 0 = search rules in rw zeros (all_zero c.args.nodes)
