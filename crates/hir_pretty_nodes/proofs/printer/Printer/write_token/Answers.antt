use Rattle.hir_pretty_nodes.proofs.Common.{ap, refl, sym, ◌∙◌, doc_list_pieces, env_of, plain_pieces, plain_printed, found_pieces, found_printed, written}
use Rattle.hir_pretty_nodes.proofs.printer.Printer.write_token.Goals as goal

pub returns-then-is_plain-clause-ok : goal.returns-then-is_plain-clause-ok
returns-then-is_plain-clause-ok g c =
    let p = c.args.self.now in
    written (plain_pieces p.words.now p.one_line c.args.token.now) refl
    (plain_printed (env_of p) c.args.token.now (sym c.is_plain.ensures ∙ c.if-is_plain.true)) c.in_ok-write_plain.ensures

pub returns-in_ok-write_found-in-Ok-clause-ok : goal.returns-in_ok-write_found-in-Ok-clause-ok
returns-in_ok-write_found-in-Ok-clause-ok g c =
    let p = c.args.self.now in
    let s = env_of p in
    let is = (c.in-Ok.ensures p.words.now p.one_line).found in
    rw c.in-LookUp.is (written (found_pieces p.words.now c.in-Ok.found) refl
    (ap (doc_list_pieces s) (sym is) ∙ found_printed s c.in-Ok.found) c.in_ok-write_found-in-Ok.ensures)
