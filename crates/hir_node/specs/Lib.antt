-- the child calls of a node, which are its children in order
pub mod ChildCalls
-- the bindings and labels that a node names
pub mod OtherIds
-- runs of calls to a visitor
pub mod Runs
-- negated literals
pub mod Literals
-- how tightly each expression binds
pub mod Precedence
-- the words before the name of a binding
pub mod Annotations
-- the keywords of mutability
pub mod Keywords
-- the text of a node's id
pub mod NodeText
-- proofs alone, of equality
pub mod same
