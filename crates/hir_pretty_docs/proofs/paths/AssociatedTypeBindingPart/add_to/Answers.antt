use Rattle.hir_pretty_docs.proofs.Common.{refl, sym, adds, adds_then, adds_as, assoc_docs_is, bounds_is}
use Rattle.hir_path.specs.declared.path.AssociatedTypeBinding.{out-AssociatedTypeBinding}
use Rattle.hir_pretty_docs.proofs.paths.AssociatedTypeBindingPart.add_to.Goals as goal

pub returns : goal.returns
returns c =
    let bounds = (out-AssociatedTypeBinding c.args.self.now).bounds in
    let after = adds_as (adds_then c.add_if.ensures (rw c.as_slice.ensures at c.add_joined.ensures)) (λ s. bounds_is s bounds c.is_empty.result c.is_empty.ensures) in
    adds_as (adds_then (adds_then (adds_then (adds (rw c.as_str.ensures at c.add.ensures) (λ s. refl))
    (rw c.as_ref.ensures.value at c.add_turbofish.ensures)) after) c.add_after.ensures)
    (λ s. sym (assoc_docs_is s c.args.self.now))
