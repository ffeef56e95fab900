use Rattle.hir_pretty_docs.proofs.Common.{◌≡◌, ◌++◌, option_copied, Adds, refl, sp, label_before, unsafe_docs, inside_block, adds}
use Rattle.hir_pretty_docs.proofs.Common.{adds_then, adds_more, adds_as, braces_after}
use Rattle.std.proofs.Common.{rules}
use Rattle.hir_pretty_docs.proofs.tokens.Tokens.add_expr.Goals as goal

pub returns-in-OffsetOf : goal.returns-in-OffsetOf
returns-in-OffsetOf c = rw c.in-OffsetOf.is (adds_more (adds_then (adds c.add-in-OffsetOf.ensures (λ s. refl))
    (rw c.as_slice.ensures at c.add_joined.ensures)) c.add-in-OffsetOf-2.ensures)

pub returns-in-If : goal.returns-in-If
returns-in-If c = rw c.in-If.is (adds_then (adds c.add-in-If.ensures (λ s. refl)) c.add_after.ensures)

pub returns-in-Loop : goal.returns-in-Loop
returns-in-Loop c = rw c.in-Loop.is (adds_more c.add_before.ensures c.add-in-Loop.ensures)

pub returns-in-Call : goal.returns-in-Call
returns-in-Call c = rw c.in-Call.is (adds_then (adds c.add-in-Call.ensures (λ s. refl)) (rw c.as_slice-in-Call.ensures at c.add_arguments.ensures))

pub returns-in-Match : goal.returns-in-Match
returns-in-Match c = rw c.in-Match.is (rw c.as_slice-in-Match.ensures at c.add_match.ensures)

pub returns-in-Continue : goal.returns-in-Continue
returns-in-Continue c = rw c.in-Continue.is (adds_then (adds c.add-in-Continue.ensures (λ s. refl)) c.add_after-in-Continue.ensures)

pub returns-in-Break : goal.returns-in-Break
returns-in-Break c = rw c.in-Break.is (adds_then (adds_then (adds c.add-in-Break.ensures (λ s. refl)) c.add_after-in-Break.ensures) c.add_operand.ensures)

pub returns-in-Yeet : goal.returns-in-Yeet
returns-in-Yeet c = rw c.in-Yeet.is (adds_then (adds c.add-in-Yeet.ensures (λ s. refl)) c.add_keyword-in-Yeet.ensures)

pub returns-in-Tuple : goal.returns-in-Tuple
returns-in-Tuple c = rw c.in-Tuple.is (adds_more (adds_then (adds c.add-in-Tuple.ensures (λ s. refl))
    (rw c.as_slice-in-Tuple.ensures at c.add_exprs.ensures)) c.add-in-Tuple-2.ensures)

pub returns-in-Const : goal.returns-in-Const
returns-in-Const c = rw c.in-Const.is (adds_more (adds_then (adds c.add-in-Const.ensures (λ s. refl))
    (rw c.into_raw.ensures at c.add_numbered.ensures)) c.add-in-Const-2.ensures)

pub returns-in-Block : goal.returns-in-Block
returns-in-Block c =
    let unsafety : Adds c.add_before-in-Block.new.self.stack (λ s. unsafe_docs c.in-Block.unsafe_) c.add_if.new.self.stack =
    adds_as c.add_if.ensures (λ s. let h = c.eq.ensures in search rules) in
    rw c.in-Block.is (adds_as (adds_then (adds_then (adds_then (adds c.add-in-Block.ensures (λ s. refl))
    c.add_before-in-Block.ensures) unsafety) (rw c.as_slice-in-Block.ensures at c.add_braces.ensures))
    (λ s. braces_after (sp ++ label_before s c.in-Block.label ++ unsafe_docs c.in-Block.unsafe_) (inside_block c.in-Block.statements c.in-Block.tail)))

pub returns-in-Return : goal.returns-in-Return
returns-in-Return c = rw c.in-Return.is c.add_keyword.ensures

pub returns-in-Become : goal.returns-in-Become
returns-in-Become c = rw c.in-Become.is c.add_keyword-in-Become.ensures

pub returns-in-Yield : goal.returns-in-Yield
returns-in-Yield c = rw c.in-Yield.is c.add_keyword-in-Yield.ensures

pub returns-in-Array : goal.returns-in-Array
returns-in-Array c = rw c.in-Array.is c.add_array.ensures
