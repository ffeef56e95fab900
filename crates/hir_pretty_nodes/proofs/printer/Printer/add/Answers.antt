use Rattle.hir_pretty_nodes.proofs.Common.{docs_one_by_one, adds, on_ok_weaker, added_to}
use Rattle.std.proofs.Common.{refl}
use Rattle.hir_pretty_nodes.proofs.printer.Printer.add.Goals as goal

pub returns-clause-ok : goal.returns-clause-ok
returns-clause-ok g c = on_ok_weaker c.check.result (λ h. added_to c.args.self.now
    (adds {is = λ s. docs_one_by_one s c.args.tokens.now} c.add.ensures (λ s. refl)) h refl) c.check.ensures.ok
