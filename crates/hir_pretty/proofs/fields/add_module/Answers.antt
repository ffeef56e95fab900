use Rattle.hir_pretty_docs.proofs.Common.{refl, map, codes, text, join, name_docs, adds, adds_none, adds_then, adds_as}
use Rattle.hir_pretty_nodes.specs.Prelude.{Adds}
use Rattle.std.proofs.Common.{rules}
use Rattle.hir_pretty.specs.Variants.{kind_word}
use Rattle.hir_pretty.proofs.ListLemmas.{module_is}
use Rattle.hir_pretty.proofs.fields.add_module.Goals as goal
use Rattle.hir_pretty.proofs.fields.add_module.Goals.{in-Plain, in-Super, in-Crate, in-DollarCrate}

pub returns : goal.returns
returns c =
    let path = c.args.path.now in
    let kind : Adds c.args.tokens.now.stack (λ s. join (text (codes "::")) (kind_word s c.kind.result)) c.match-kind.tokens.stack = elim c.match-kind.branch [
      | in-Plain w ↦ search (rules, adds_none)
      | in-Super w ↦ rw (w.tokens-is, w.in-Super.is) w.add_supers.ensures
      | in-Crate w ↦ rw (w.tokens-is, w.in-Crate.is) (adds w.add.ensures (λ s. refl))
      | in-DollarCrate w ↦ rw (w.tokens-is, w.in-DollarCrate.is) (adds w.add-in-DollarCrate.ensures (λ s. refl))
    ] in
    adds_as (adds_then (rw c.kind.ensures at kind) (rw (c.colons_first.ensures, c.kind-2.ensures, c.segments.ensures) at c.add_list.ensures))
    (λ s. module_is s path.kind (map (name_docs s) path.segments))
