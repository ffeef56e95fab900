use Rattle.std.proofs.Common.{◌≡◌, ◌<◌, ◌∙◌, ap, arith, Some, ℕ, length}
use Rattle.std.proofs.lemmas.List.Elements.{recursion_from_All}
use Rattle.hir_scope.specs.Paths.{path, chain}
use Rattle.hir_captures.proofs.AskLemmas.{as_many}
use Rattle.hir_captures.proofs.captured_binding.depth.Goals as goal

-- a chain has at most as many scopes as there are
pub loop-init : goal.loop-init
loop-init c =
    let scopes = c.args.scopes.now.scopes in
    let along = path scopes (Some c.args.scope) in
    let earlier = c.parents_stand_earlier.ensures.parents in
    let in_range = c.a_chain_goes_outward.ensures.in_range scopes earlier (Some c.args.scope) c.requires in
    let short = c.chains_are_short.ensures scopes earlier (Some c.args.scope) c.requires in
    let frames : length (chain scopes (Some c.args.scope)) ≡ length along =
    as_many scopes along (recursion_from_All (λ (s : ℕ). s < length scopes) along in_range) in
    let all : length c.into_iter-iterator.result ≡ length along =
    ap (length {A = ℕ}) (c.into_iter-iterator.ensures.into_iter_gives ∙ c.scope_chain-items.ensures.is) in
    (tt, tt, omega (arith, all, frames), omega (arith, short, frames, c.scope_count.ensures.count, c.scope_count.ensures.most))
