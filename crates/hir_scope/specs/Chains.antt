-- The chain of an expression: the lexical frames around it, innermost first, found from the entry nodes
-- downward.
--
-- The frames of the running example (hir_node/specs/ChildCalls.antt) are R, with the parameter `x`; B, of the body's
-- block; C, with the `z` of the closure; Y, with the `y` of the statement; I, of the `if`; X, with the `x` of its
-- `let`; T and E, of the blocks of its branches. B, I, T and E have no entries. The chains are
--     of 0, the `x` in the closure: C B R             of 4, the `y` of the condition: I Y B R
--     of 8, the `x` of `then`: T X I Y B R            of 10, the `x` of `else`: E Y B R
-- So `x` resolves to binding 0 at 0 and 10, and to binding 3 at 8.
use Rattle.std.specs.Prelude.{◌≡◌, ◌∷◌, ◌++◌}
use Rattle.hir_scope.specs.Prelude.{List, map, Contains, ExprId, NodeId, Nodes}
use Rattle.hir_scope.specs.ScopingForms.{ScopingForm, form_of}
use Rattle.hir_scope.specs.Frames.{Chain}
use Rattle.hir_scope.specs.ScopingForms as form
use Rattle.hir_scope.specs.ChildContexts.{Base, Scope, ConstScope, ChildContext, child_contexts, own_frame}

-- a context: a node with the frames around it, and those around the constants in it
pub record InContext : Type 0 where
  pub node : NodeId
  pub scope : Chain
  pub const_scope : Chain

abbrev pub on_base : Base → Chain → Chain → Chain
on_base Scope scope const_scope = scope
on_base ConstScope scope const_scope = const_scope

-- a child in its context, by these chains of its parent
abbrev pub child_in_context : Chain → Chain → ChildContext → InContext
child_in_context scope const_scope child_context =
    let const_frames = child_context.const_frames ++ const_scope in
    record {
      node = child_context.child;
      scope = child_context.frames
          ++ on_base child_context.base scope const_frames;
      const_scope = const_frames;
    }

-- the children of a node in their contexts
abbrev pub children_in_context : Nodes → InContext → List InContext
children_in_context s at = map (child_in_context at.scope at.const_scope) (child_contexts s at.node)

-- A node *occurs* in a context: it is an entry node in that context, or the child in it of a node that occurs
-- in its own.
pub data Occurs (s : Nodes) (entry_nodes : List InContext) : InContext → Type 0 where
  entry_node : {at : InContext} → Contains entry_nodes at → Occurs s entry_nodes at
  child : {parent at : InContext} → Occurs s entry_nodes parent → Contains (children_in_context s parent) at
      → Occurs s entry_nodes at

-- the chain of an expression is that within its own frame where it is a block, else that of its context
abbrev pub within_own : ScopingForm → Chain → Chain
within_own (form.Block id label statements tail) scope = own_frame id label ∷ scope
within_own x scope = scope

-- an expression has a chain: that of a context in which it occurs, with its own frame on it where it is a
-- block
pub record HasChain (s : Nodes) (entry_nodes : List InContext) (expr : ExprId) (chain : Chain) : Type 0 where
  pub at : InContext
  pub occurs : Occurs s entry_nodes at
  pub is_node : at.node ≡ NodeId.Expr expr
  pub is_chain : chain ≡ within_own (form_of s (NodeId.Expr expr)) at.scope
