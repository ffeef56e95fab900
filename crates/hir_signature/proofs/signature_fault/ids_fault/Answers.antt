use Rattle.hir_signature.proofs.SignatureLemmas.{not_in_range, not_paths, no_fault}
use Rattle.hir_signature.proofs.signature_fault.ids_fault.Goals as goal

pub returns-then-not-in_range : goal.returns-then-not-in_range
returns-then-not-in_range c = not_in_range c.args.in_range c.args.paths c.if-not-in_range.true

pub returns-then-not-paths : goal.returns-then-not-paths
returns-then-not-paths c = not_paths c.args.in_range c.args.paths c.if-not-in_range.false c.if-not-paths.true

pub returns : goal.returns
returns c = no_fault c.args.in_range c.args.paths c.if-not-in_range.false c.if-not-paths.false
