use Rattle.hir_pretty_docs.proofs.Common.{arith, adds_none, refl, adds, adds_then, adds_more, adds_as, Adds, extern_docs, signature_is}
use Rattle.hir_pretty_docs.proofs.tokens.Tokens.add_fn.Goals as goal
use Rattle.hir_pretty_docs.proofs.tokens.Tokens.add_fn.Goals.{in-Rust, in-C}

pub returns : goal.returns
returns c =
    let cut = c.split_at.ensures in
    let abi : Adds c.add_if.new.self.stack (λ s. extern_docs c.args.function.now.abi) c.match-function.self.stack =
    elim c.match-function.branch [
      | in-Rust w ↦ rw (w.self-is, w.in-Rust.is) (adds_none (λ s. refl))
      | in-C
          w ↦ rw w.self-is (adds w.add.ensures (λ s. let h = w.in-C.is in grind (arith, w.as_str.ensures)))
    ] in
    let signature = adds_as
    (adds_then (adds_more (adds_then (adds_then (adds_then (adds c.add-2.ensures (λ s. refl)) c.add_joined.ensures)
    (rw c.is_empty.ensures at c.add_if-2.ensures)) c.add_if-3.ensures)
    c.add-3.ensures) c.add_each.ensures)
    (λ s. signature_is c.args.function.now.is_varargs c.as_slice-params.result.now c.split_at.result.0.now c.split_at.result.1.now
    cut.by_index.0 (rw c.saturating_sub.ensures at cut.front_len)) in
    adds_then (adds_then (adds_then c.add_binder.ensures c.add_if.ensures) abi) (rw c.as_slice-params.ensures at signature)
