-- The frames of the scopes that the nodes of a body or a signature open, and the counts of scopes and entries.
use Rattle.std.specs.Prelude.{◌+◌, ◌∷◌, ◌++◌}
use Rattle.hir_scope.specs.Prelude.{flat_map, sum_by, ℕ, List, [], Option, Some, None, length, map, Item, Statement, NodeId, Nodes, bindings_at}
use Rattle.hir_scope.specs.ScopingForms.{ScopingForm, form_of}
use Rattle.hir_scope.specs.ScopingForms as form
use Rattle.hir_scope.specs.Frames.{Frame, frame, of_kind, empty}
use Rattle.hir_scope.specs.Scopes.{Scope, frame_of}
use Rattle.hir_scope.specs.ChildContexts.{loop_kind, own_frame, block_const_frames, item_frames}

-- 1. Frames

-- the frames of the scopes that a statement opens: a `let` one with what its pattern binds, a macro's
-- definition one for what follows and one for the constants in it
abbrev pub statement_frames : Nodes → Statement → List Frame
statement_frames s (Statement.Let pat type_ref initializer else_branch) = frame s (pat ∷ []) ∷ []
statement_frames s (Statement.Expr expr has_semi) = []
statement_frames s (Statement.Item item) = item_frames item ++ item_frames item

-- the frames of the scopes that a node opens: a block its own, with an id one more for the constants in it,
-- and those of its statements; a match one for each arm
abbrev pub frames_opened : Nodes → ScopingForm → List Frame
frames_opened s (form.Block id label statements tail) =
    own_frame id label ∷ (block_const_frames id ++ flat_map (statement_frames s) statements)
frames_opened s (form.Match scrutinee arms) = map (λ arm. frame s (arm.pat ∷ [])) arms
frames_opened s (form.If condition then_branch else_branch) = empty ∷ []
frames_opened s (form.Let pat expr) = frame s (pat ∷ []) ∷ []
frames_opened s (form.Loop label body) = of_kind (loop_kind label) ∷ []
frames_opened s (form.Closure arg_types ret_type args body) = frame s args ∷ []
frames_opened s (form.Assignment target value) = frame s (target ∷ []) ∷ []
frames_opened s (form.PatternType type pat) = frame s (pat ∷ []) ∷ []
frames_opened s (form.InTurn calls) = []

-- the frames of the scopes that these nodes open
abbrev pub frames_of_nodes : Nodes → List NodeId → List Frame
frames_of_nodes s nodes = flat_map (λ n. frames_opened s (form_of s n)) nodes

-- the frames of scopes
abbrev pub frames_of_scopes : List Scope → List Frame
frames_of_scopes scopes = map frame_of scopes

-- 2. Counts

abbrev pub count_if_some : {X : Type 0} → Option X → ℕ
count_if_some None = 0
count_if_some (Some x) = 1

-- a macro's definition opens a scope for what follows, and one for the constants in it
abbrev pub item_scopes : Item → ℕ
item_scopes (Item.MacroDef id) = 2
item_scopes Item.Other = 0

abbrev pub statement_scopes : Statement → ℕ
statement_scopes (Statement.Let pat type_ref initializer else_branch) = 1
statement_scopes (Statement.Expr expr has_semi) = 0
statement_scopes (Statement.Item item) = item_scopes item

-- the scopes that a node opens: a block one, with an id one more, and those of its statements; a match one
-- for each arm
abbrev pub form_scopes : ScopingForm → ℕ
form_scopes (form.Block id label statements tail) = 1 + count_if_some id + sum_by statement_scopes statements
form_scopes (form.Match scrutinee arms) = length arms
form_scopes (form.If condition then_branch else_branch) = 1
form_scopes (form.Let pat expr) = 1
form_scopes (form.Loop label body) = 1
form_scopes (form.Closure arg_types ret_type args body) = 1
form_scopes (form.Assignment target value) = 1
form_scopes (form.PatternType type pat) = 1
form_scopes (form.InTurn calls) = 0

-- the entries that a node adds: a `Bind` pattern one
abbrev pub node_entries : Nodes → NodeId → ℕ
node_entries s (NodeId.Pat id) = length (bindings_at s id)
node_entries s (NodeId.Expr id) = 0
node_entries s (NodeId.TypeRef id) = 0

-- the scopes of a body that reaches these nodes: the root scope, and those that the nodes open
abbrev pub body_scope_count : Nodes → List NodeId → ℕ
body_scope_count s reached = 1 + sum_by (λ n. form_scopes (form_of s n)) reached

-- the entries of a body that reaches these nodes: that of `self`, where it has one, and those of the nodes
abbrev pub body_entry_count : {Self : Type 0} → Nodes → Option Self → List NodeId → ℕ
body_entry_count s self_param reached = count_if_some self_param + sum_by (node_entries s) reached

-- the scopes of a signature with this many roots that reaches these nodes: the root scope, one for each root,
-- and those that the nodes open
abbrev pub signature_scope_count : Nodes → ℕ → List NodeId → ℕ
signature_scope_count s roots reached = 1 + roots + sum_by (λ n. form_scopes (form_of s n)) reached

abbrev pub signature_entry_count : Nodes → List NodeId → ℕ
signature_entry_count s reached = sum_by (node_entries s) reached
