-- The contexts of a node's children: for each child the frames that are put on a chain, and on which one.
-- Children come in the order in which scopes are made: an expression before the pattern that it is matched
-- with, a guard before the body, arguments before the body, a target before the value.
use Rattle.std.specs.Prelude.{◌∷◌, ◌++◌}
use Rattle.hir_scope.specs.Prelude.{flat_map, List, [], Option, Some, None, BlockId, ExprId, LabelId, Call, OnExpr, OnAnonConst, OnPat, OnType, OnLifetime, e, p, t, opt, Item, MatchArm, Statement, NodeId, Nodes}
use Rattle.hir_scope.specs.ScopingForms.{ScopingForm, form_of}
use Rattle.hir_scope.specs.ScopingForms as form
use Rattle.hir_scope.specs.Frames.{Frame, Chain, frame, of_kind, empty}
use Rattle.hir_scope.specs.OpenFrames.{open_frames_of_call, open_frames_of_calls, open_frames}
use Rattle.hir_scope.specs.declared.scope.ScopeKind.{ScopeKind}

-- the chain on which a child's frames are put: that around its parent, or that around the constants in its
-- parent
pub data Base : Type 0 where
  Scope : Base
  ConstScope : Base

pub record ChildContext : Type 0 where
  pub child : NodeId
  pub base : Base
  -- the frames put on the base
  pub frames : Chain
  -- the frames put on the chain of constants
  pub const_frames : Chain

abbrev pub child_context_of : NodeId → Base → Chain → Chain → ChildContext
child_context_of child base frames const_frames =
    record { child = child; base = base; frames = frames; const_frames = const_frames }

-- the context of a call's child: a type or an anonymous constant is on the chain of constants, without the
-- frames added
abbrev pub call_child_context : Chain → Chain → Call → List ChildContext
call_child_context const_frames frames (OnExpr id) =
    child_context_of (NodeId.Expr id) Scope frames const_frames ∷ []
call_child_context const_frames frames (OnPat id) =
    child_context_of (NodeId.Pat id) Scope frames const_frames ∷ []
call_child_context const_frames frames (OnAnonConst id) =
    child_context_of (NodeId.Expr id) ConstScope [] const_frames ∷ []
call_child_context const_frames frames (OnType id) =
    child_context_of (NodeId.TypeRef id) ConstScope [] const_frames ∷ []
call_child_context const_frames frames (OnLifetime id) = []

-- the child of a context, or of a call, with the chain that it is on
abbrev pub child_with_base : ChildContext → NodeId × Base
child_with_base child_context = (child_context.child, child_context.base)

abbrev pub children_with_base : Call → List (NodeId × Base)
children_with_base (OnExpr id) = (NodeId.Expr id, Scope) ∷ []
children_with_base (OnPat id) = (NodeId.Pat id, Scope) ∷ []
children_with_base (OnAnonConst id) = (NodeId.Expr id, ConstScope) ∷ []
children_with_base (OnType id) = (NodeId.TypeRef id, ConstScope) ∷ []
children_with_base (OnLifetime id) = []

-- the contexts of children in turn: each has these frames added, and on them what the children before it
-- leave open
abbrev pub in_turn : Nodes → Chain → Chain → List Call → List ChildContext
in_turn s const_frames frames [] = []
in_turn s const_frames frames (c ∷ cs) =
    call_child_context const_frames frames c ++ in_turn s const_frames
    (open_frames_of_call (open_frames s) c ++ frames) cs

-- 1. Blocks

-- the kind of a loop's frame, and of the frame of a block without an id
abbrev pub loop_kind : Option LabelId → ScopeKind
loop_kind None = ScopeKind.None
loop_kind (Some label) = ScopeKind.Label label

-- the kind of a block's own frame
abbrev pub kind_of_block : Option BlockId → Option LabelId → ScopeKind
kind_of_block (Some id) label = ScopeKind.Block id label
kind_of_block None label = loop_kind label

-- a block's own frame
abbrev pub own_frame : Option BlockId → Option LabelId → Frame
own_frame id label = of_kind (kind_of_block id label)

-- a block with an id puts a frame on the chain of its constants too
abbrev pub block_const_frames : Option BlockId → Chain
block_const_frames None = []
block_const_frames (Some id) = of_kind (ScopeKind.Block id None) ∷ []

-- a macro's definition puts a frame on both chains
abbrev pub item_frames : Item → Chain
item_frames (Item.MacroDef id) = of_kind (ScopeKind.MacroDef id) ∷ []
item_frames Item.Other = []

-- the frames that a statement opens for the later ones
abbrev pub frames_after : Nodes → Statement → Chain
frames_after s (Statement.Let pat type_ref initializer else_branch) =
    open_frames s (NodeId.Pat pat) ++ (frame s (pat ∷ [])
    ∷ open_frames_of_calls (open_frames s) (opt e initializer ++ opt e else_branch))
frames_after s (Statement.Expr expr has_semi) = open_frames s (NodeId.Expr expr)
frames_after s (Statement.Item item) = item_frames item

-- the frames that a statement opens for the constants in the later ones
abbrev pub const_frames_after : Statement → Chain
const_frames_after (Statement.Let pat type_ref initializer else_branch) = []
const_frames_after (Statement.Expr expr has_semi) = []
const_frames_after (Statement.Item item) = item_frames item

-- the contexts of a statement's children: the type, the initializer and the else branch are not within what
-- the pattern binds
abbrev pub statement_child_contexts : Nodes → Chain → Chain → Statement → List ChildContext
statement_child_contexts s const_frames frames (Statement.Let pat type_ref initializer else_branch) =
    let before = open_frames_of_calls (open_frames s) (opt e initializer ++ opt e else_branch) ++ frames in
    in_turn s const_frames frames (opt t type_ref ++ opt e initializer ++ opt e else_branch)
    ++ in_turn s const_frames (frame s (pat ∷ []) ∷ before) (p pat)
statement_child_contexts s const_frames frames (Statement.Expr expr has_semi) =
    in_turn s const_frames frames (e expr)
statement_child_contexts s const_frames frames (Statement.Item item) = []

-- the contexts of a block's children: each statement is within what those before it opened, and the tail
-- within what all opened
abbrev pub block_child_contexts : Nodes → Chain → Chain → List Statement → Option ExprId → List ChildContext
block_child_contexts s const_frames frames [] tail = in_turn s const_frames frames (opt e tail)
block_child_contexts s const_frames frames (x ∷ xs) tail =
    statement_child_contexts s const_frames frames x
    ++ block_child_contexts s (const_frames_after x ++ const_frames) (frames_after s x ++ frames) xs tail

-- 2. Other forms

-- the contexts of an arm's children: the pattern, the guard and the body are within what the pattern binds
abbrev pub arm_child_contexts : Nodes → Chain → MatchArm → List ChildContext
arm_child_contexts s frames arm = in_turn s [] (frame s (arm.pat ∷ []) ∷ frames)
    (p arm.pat ++ opt e arm.guard ++ e arm.expr)

abbrev pub child_contexts_of_form : Nodes → ScopingForm → List ChildContext
child_contexts_of_form s (form.If condition then_branch else_branch) =
    in_turn s [] (empty ∷ []) (e condition ++ e then_branch) ++ in_turn s [] [] (opt e else_branch)
child_contexts_of_form s (form.Let pat expr) =
    in_turn s [] [] (e expr) ++ in_turn s [] (frame s (pat ∷ []) ∷ open_frames s (NodeId.Expr expr)) (p pat)
child_contexts_of_form s (form.Block id label statements tail) =
    block_child_contexts s (block_const_frames id) (own_frame id label ∷ []) statements tail
child_contexts_of_form s (form.Loop label body) = in_turn s [] (of_kind (loop_kind label) ∷ []) (e body)
child_contexts_of_form s (form.Closure arg_types ret_type args body) =
    in_turn s [] [] (flat_map (opt t) arg_types ++ opt t ret_type)
    ++ in_turn s [] (frame s args ∷ []) (flat_map p args ++ e body)
child_contexts_of_form s (form.Match scrutinee arms) =
    in_turn s [] [] (e scrutinee) ++ flat_map (arm_child_contexts s
    (open_frames s (NodeId.Expr scrutinee))) arms
child_contexts_of_form s (form.Assignment target value) =
    in_turn s [] (frame s (target ∷ []) ∷ []) (p target) ++ in_turn s [] [] (e value)
child_contexts_of_form s (form.PatternType type pat) =
    in_turn s [] [] (t type) ++ in_turn s [] (frame s (pat ∷ []) ∷ []) (p pat)
child_contexts_of_form s (form.InTurn calls) = in_turn s [] [] calls

-- the contexts of a node's children
unfoldable pub child_contexts : Nodes → NodeId → List ChildContext
child_contexts s n = child_contexts_of_form s (form_of s n)
