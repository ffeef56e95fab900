use Rattle.hir_signature.specs.Signatures.{root_entry_nodes}
use Rattle.hir_signature.proofs.signature_laws.what_a_signature_reaches_is_listed.Goals as goal

pub returns-clause-listed : goal.returns-clause-listed
returns-clause-listed c = λ store sound. c.reached_is_listed.ensures store sound (root_entry_nodes store)

pub returns-clause-once : goal.returns-clause-once
returns-clause-once c = λ store sound. c.reached_is_listed_once.ensures store sound (root_entry_nodes store) (c.roots_are_disjoint.ensures store sound)

pub returns-clause-decided : goal.returns-clause-decided
returns-clause-decided c = λ store sound. c.reached_is_decided.ensures store sound (root_entry_nodes store)
