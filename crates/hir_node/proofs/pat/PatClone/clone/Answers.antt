-- These goals close with no answer too, in several times the time.
use Rattle.std.proofs.Common.{rules}
use Rattle.hir_node.proofs.pat.PatClone.clone.Goals as goal

pub returns-in-Missing : goal.returns-in-Missing
returns-in-Missing c = search rules

pub returns-in-Rest : goal.returns-in-Rest
returns-in-Rest c = search rules

pub returns-in-Wild : goal.returns-in-Wild
returns-in-Wild c = search rules

pub returns-in-NotNull : goal.returns-in-NotNull
returns-in-NotNull c = search rules

pub returns-in-Range : goal.returns-in-Range
returns-in-Range c = search rules

pub returns-in-Lit : goal.returns-in-Lit
returns-in-Lit c = search rules

pub returns-in-Expr : goal.returns-in-Expr
returns-in-Expr c = search rules

pub returns-in-Bind : goal.returns-in-Bind
returns-in-Bind c = search rules

pub returns-in-Ref : goal.returns-in-Ref
returns-in-Ref c = search rules

pub returns-in-Box : goal.returns-in-Box
returns-in-Box c = search rules

pub returns-in-Deref : goal.returns-in-Deref
returns-in-Deref c = search rules

pub returns-in_ok-try_clone-in-Tuple : goal.returns-in_ok-try_clone-in-Tuple
returns-in_ok-try_clone-in-Tuple c = search rules

pub returns-in_ok-try_clone-in-Or : goal.returns-in_ok-try_clone-in-Or
returns-in_ok-try_clone-in-Or c = search rules

pub returns-in_ok-try_clone-in-Path : goal.returns-in_ok-try_clone-in-Path
returns-in_ok-try_clone-in-Path c = search rules
