-- These goals close with no answer too, in several times the time.
use Rattle.std.proofs.Common.{rules}
use Rattle.hir_node.proofs.expr.ExprClone.clone.Goals as goal

pub returns-in-Missing : goal.returns-in-Missing
returns-in-Missing c = search rules

pub returns-in-Underscore : goal.returns-in-Underscore
returns-in-Underscore c = search rules

pub returns-in-IncludeBytes : goal.returns-in-IncludeBytes
returns-in-IncludeBytes c = search rules

pub returns-in-Const : goal.returns-in-Const
returns-in-Const c = search rules

pub returns-in-Let : goal.returns-in-Let
returns-in-Let c = search rules

pub returns-in-Loop : goal.returns-in-Loop
returns-in-Loop c = search rules

pub returns-in-Continue : goal.returns-in-Continue
returns-in-Continue c = search rules

pub returns-in-Break : goal.returns-in-Break
returns-in-Break c = search rules

pub returns-in-Return : goal.returns-in-Return
returns-in-Return c = search rules

pub returns-in-Yield : goal.returns-in-Yield
returns-in-Yield c = search rules

pub returns-in-Yeet : goal.returns-in-Yeet
returns-in-Yeet c = search rules

pub returns-in-Become : goal.returns-in-Become
returns-in-Become c = search rules

pub returns-in-Await : goal.returns-in-Await
returns-in-Await c = search rules

pub returns-in-Cast : goal.returns-in-Cast
returns-in-Cast c = search rules

pub returns-in-Ref : goal.returns-in-Ref
returns-in-Ref c = search rules

pub returns-in-UnaryOp : goal.returns-in-UnaryOp
returns-in-UnaryOp c = search rules

pub returns-in-BinaryOp : goal.returns-in-BinaryOp
returns-in-BinaryOp c = search rules

pub returns-in-Assignment : goal.returns-in-Assignment
returns-in-Assignment c = search rules

pub returns-in-Index : goal.returns-in-Index
returns-in-Index c = search rules

pub returns-in-MethodCall : goal.returns-in-MethodCall
returns-in-MethodCall c = search rules

pub returns-in-RecordLit : goal.returns-in-RecordLit
returns-in-RecordLit c = search rules

pub returns-in_ok-try_clone-in-Path : goal.returns-in_ok-try_clone-in-Path
returns-in_ok-try_clone-in-Path c = search rules

pub returns-in_ok-try_clone-in-Literal : goal.returns-in_ok-try_clone-in-Literal
returns-in_ok-try_clone-in-Literal c = search rules

pub returns-in_ok-try_clone-in-Array : goal.returns-in_ok-try_clone-in-Array
returns-in_ok-try_clone-in-Array c = search rules

pub returns-in_ok-try_clone-in-OffsetOf : goal.returns-in_ok-try_clone-in-OffsetOf
returns-in_ok-try_clone-in-OffsetOf c = search rules

pub returns-in_ok-try_clone-in-Block : goal.returns-in_ok-try_clone-in-Block
returns-in_ok-try_clone-in-Block c = search rules

pub returns-in_ok-try_clone-in-Call : goal.returns-in_ok-try_clone-in-Call
returns-in_ok-try_clone-in-Call c = search rules

pub returns-in_ok-try_clone-in-Match : goal.returns-in_ok-try_clone-in-Match
returns-in_ok-try_clone-in-Match c = search rules

pub returns-in_ok-try_clone-in-Field : goal.returns-in_ok-try_clone-in-Field
returns-in_ok-try_clone-in-Field c = search rules

pub returns-in_ok-try_clone-in-Tuple : goal.returns-in_ok-try_clone-in-Tuple
returns-in_ok-try_clone-in-Tuple c = search rules
