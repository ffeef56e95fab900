use Rattle.std.proofs.Common.{◌≡◌, refl, sym, ap, ◌∙◌}
use Rattle.std.proofs.lemmas.Result.{on_ok_weaker}
use Rattle.hir_scope.specs.BodyScopes.{AreBodyScopes}
use Rattle.hir_show_run.specs.Answer.{captures_answer, chain_answer, resolve_answer}
use Rattle.hir_show_run.specs.Printing.{tables_of, print_text}
use Rattle.hir_show_run.specs.internal.Answer.{chain_by}
use Rattle.hir_show_run.specs.internal.Printing.{name_of}
use Rattle.hir_show_run.proofs.BodyLemmas.{chain_is}
use Rattle.hir_show_run.proofs.PrintingLemmas.{name_is}
use Rattle.hir_show_run.proofs.body_of_lines.BodyOfLines.answer_body.Goals as goal

pub returns-in_ok-make_scopes-in-Chain-clause-ok : goal.returns-in_ok-make_scopes-in-Chain-clause-ok
returns-in_ok-make_scopes-in-Chain-clause-ok g c =
    let scopes = c.made.result.now in
    let are : AreBodyScopes c.self.inside.body scopes = rw c.made.ensures at c.make_scopes.ensures.are in
    let known = chain_by scopes c.in-Chain.id in
    rw (c.in-Chain.is, ← c.self.view_is) (chain_answer c.in-Chain.id known, (known, chain_is c.self.inside.body scopes are c.in-Chain.id, refl), c.answer_chain.ensures)

pub returns-in_ok-make_scopes-in-Resolve-clause-ok : goal.returns-in_ok-make_scopes-in-Resolve-clause-ok
returns-in_ok-make_scopes-in-Resolve-clause-ok g c =
    let scopes = c.made-in-Resolve.result.now in
    let are : AreBodyScopes c.self.inside.body scopes = rw c.made-in-Resolve.ensures at c.make_scopes-in-Resolve.ensures.are in
    let known = chain_by scopes c.in-Resolve.id in
    rw (c.in-Resolve.is, ← c.self.view_is) (resolve_answer c.in-Resolve.id c.in-Resolve.name c.in-Resolve.hygiene known, (known, chain_is c.self.inside.body scopes are c.in-Resolve.id, refl), c.answer_resolve.ensures)

pub answer_print-requires-clause-name_alone : goal.answer_print-requires-clause-name_alone
answer_print-requires-clause-name_alone g c =
    let are : c.made-in-Print.result.now ≡ tables_of c.self.inside.name = rw c.made-in-Print.ensures at c.make_tables.ensures.are in
    are ∙ ap tables_of (sym (name_is c.made-in-Print.result.now c.self.inside.name are))

pub returns-in_ok-make_tables-in-Print-clause-ok : goal.returns-in_ok-make_tables-in-Print-clause-ok
returns-in_ok-make_tables-in-Print-clause-ok g c =
    let are : c.made-in-Print.result.now ≡ tables_of c.self.inside.name = rw c.made-in-Print.ensures at c.make_tables.ensures.are in
    let named = name_is c.made-in-Print.result.now c.self.inside.name are in
    rw (c.in-Print.is, ← c.self.view_is) (on_ok_weaker c.answer_print.result (λ ok. (print_text c.self.inside.name c.self.inside.body, refl, rw named at ok)) c.answer_print.ensures.ok)

pub answer_captures-requires : goal.answer_captures-requires
answer_captures-requires g c = rw c.made-in-Captures.ensures at c.make_scopes-in-Captures.ensures.are

pub returns-in_ok-make_scopes-in-Captures-clause-ok : goal.returns-in_ok-make_scopes-in-Captures-clause-ok
returns-in_ok-make_scopes-in-Captures-clause-ok g c =
    rw (c.in-Captures.is, ← c.self.view_is) (on_ok_weaker c.answer_captures.result (λ ok. (captures_answer c.in-Captures.id ok.0, (ok.0, ok.1, refl), ok.2)) c.answer_captures.ensures.ok)
