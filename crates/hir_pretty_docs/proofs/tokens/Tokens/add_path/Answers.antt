use Rattle.hir_pretty_docs.proofs.Common.{arith, adding, ◌++◌, codes, refl, text, opt, name_docs, adds, adds_then, adds_more, Adds, start_docs}
use Rattle.hir_pretty_docs.proofs.tokens.Tokens.add_path.Goals as goal

pub returns-in-BarePath : goal.returns-in-BarePath
returns-in-BarePath c = rw c.in-BarePath.is (adds_then (rw c.kind.ensures at c.add_kind.ensures)
    (rw (c.colons_first.ensures, c.kind-in-BarePath.ensures, c.segments.ensures) at c.add_segments.ensures))

pub returns-after-path-2 : goal.returns-after-path-2
returns-after-path-2 c =
    let path = c.get-path.result.now in
    let start : Adds c.args.self.now.stack (λ s. start_docs s path.type_anchor path.mod_path.kind) c.match-path-2.self.stack = grind (arith, adding) in
    rw (c.in-Normal.is, ← c.get-path.ensures) (adds_then start (rw (c.colons_first-in-Normal.ensures, c.kind-in-Normal.ensures, c.segments-in-Normal.ensures, c.as_slice.ensures) at c.add_segments-in-Normal.ensures))

pub returns-after-name : goal.returns-after-name
returns-after-name c =
    let named : Adds c.add_target.new.self.stack (λ s. opt (λ n. text (codes "::") ++ name_docs s n) c.in-LangItem.name)
    c.match-name.self.stack = grind (arith, adding) in
    rw c.in-LangItem.is (adds_more (adds_then (adds_then (adds c.add-in-LangItem.ensures (λ s. refl)) c.add_target.ensures) named) c.add-in-LangItem-2.ensures)
