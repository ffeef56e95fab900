use Rattle.std.proofs.lemmas.Result.{err_from_is_err_and}
use Rattle.hir_signature.specs.Signatures.{struct_fault}
use Rattle.hir_make.specs.Parts.{struct_of}
use Rattle.hir_make.proofs.RefusalLemmas.{signature_refused}
use Rattle.hir_make.proofs.signatures.struct_.Goals as goal

pub returns-in_err-store-clause-err : goal.returns-in_err-store-clause-err
returns-in_err-store-clause-err c =
    let p = err_from_is_err_and c.from_residual-in_err-store.result c.from_residual-in_err-store.ensures.1 in
    let first = struct_fault (struct_of c.args.builder c.args.name.now c.args.shape) in
    rw (p.1, p.2, c.in_err-store.ensures.err.0) (signature_refused c.args.builder first _ c.in_err-store.ensures.err.1)
