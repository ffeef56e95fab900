use Rattle.hir_pretty_docs.proofs.Common.{◌++◌, codes, map, ap, ◌∙◌, ◌&&◌, text, when, join, arg_docs, assoc_docs, following, adds_then, adds_as, filled, args_is}
use Rattle.hir_path.specs.declared.path.GenericArgs.{out-GenericArgs}
use Rattle.hir_pretty_docs.proofs.tokens.Tokens.add_args.Goals as goal

pub returns : goal.returns
returns c =
    let x = c.args.args.now in
    let sep = text (codes ", ") in
    adds_as (adds_then (adds_then c.add_if.ensures (rw c.as_slice.ensures at c.add_joined.ensures)) (rw c.as_slice-2.ensures at c.add_list.ensures))
    (λ s. ap (λ h. when (h && (out-GenericArgs x).has_self_type) (text (codes "Self="))
    ++ join sep (map (arg_docs s) (out-GenericArgs x).args) ++ following sep h (map (assoc_docs s) (out-GenericArgs x).bindings))
    (filled (out-GenericArgs x).args c.is_empty-has_args.result c.is_empty-has_args.ensures) ∙ args_is s x)
