use Rattle.std.proofs.Common.{◌≡◌, ◌<◌, List, ℕ, Some, length, map-id, subst, sym, ◌∙◌, arith, All}
use Rattle.std.proofs.lemmas.Iterator.Consumers.{YieldsList-end, YieldsList-from_first, YieldsList-turn}
use Rattle.std.proofs.lemmas.List.Elements.{All-get_or}
use Rattle.hir_scope.specs.Paths.{path, frame_at}
use Rattle.hir_scope.specs.Resolution.{entries_of}
use Rattle.hir_show_run.specs.Answer.{names_text}
use Rattle.hir_show_run.proofs.WritingLemmas.{put_none, put_then, names_along, along_more}
use Rattle.hir_show_run.proofs.scope_answers.put_chain.Goals as goal

pub loop-around-init : goal.loop-around-init
loop-around-init g c = put_none g.W.Sink c.args.output.now

pub loop-around-preserved : goal.loop-around-preserved
loop-around-preserved g c =
    rw (along_more c.args.scopes.now.scopes c.loop-around.yielded c.in-Some.around) (put_then g.W.Sink c.args.output.now c.loop-around.output c.put_scope.new.output (names_along c.args.scopes.now.scopes c.loop-around.yielded) (names_text (entries_of (frame_at c.args.scopes.now.scopes c.in-Some.around))) c.loop-around.invariant c.put_scope.ensures)

-- a scope that the chain gives is in range
pub put_scope-requires : goal.put_scope-requires
put_scope-requires g c =
    let around : List ℕ = path c.args.scopes.now.scopes (Some c.args.scope) in
    let same : c.into_iter-around-iterator.result ≡ around = grind (arith, c.into_iter-around-iterator.ensures.into_iter_gives, c.scope_chain-around-items.ensures.is) in
    let turn = YieldsList-turn (YieldsList-from_first (λ x. x) (λ rest. rest) {s = c.into_iter-around-iterator.result} around same) c.loop-around.yielded c.loop-around.around-iterator c.loop-around.yielded_by c.next.result c.next.new.self c.in-Some.around c.in-Some.is c.next.ensures.steps in
    let in_range : All (λ (a : ℕ). a < length c.args.scopes.now.scopes) around = rw c.scope_chain-around-items.ensures.is at c.scope_chain-around-items.ensures.in_range in
    subst (λ (a : ℕ). a < length c.args.scopes.now.scopes) (sym turn.1) (All-get_or (λ (a : ℕ). a < length c.args.scopes.now.scopes) around (length c.loop-around.yielded) c.in-Some.around turn.0 in_range)

pub returns : goal.returns
returns g c =
    let around : List ℕ = path c.args.scopes.now.scopes (Some c.args.scope) in
    let same : c.into_iter-around-iterator.result ≡ around = grind (arith, c.into_iter-around-iterator.ensures.into_iter_gives, c.scope_chain-around-items.ensures.is) in
    let end = YieldsList-end (YieldsList-from_first (λ x. x) (λ rest. rest) {s = c.into_iter-around-iterator.result} around same) c.loop-around.yielded c.loop-around.around-iterator c.loop-around.yielded_by c.next.result c.next.new.self c.in-None.is c.next.ensures.steps in
    rw (sym (map-id c.loop-around.yielded) ∙ end.0) at c.loop-around.invariant
