-- The frames that a node leaves open: they outlive it, and are around what is visited after it.
use Rattle.std.specs.Prelude.{◌∷◌, ◌++◌}
use Rattle.hir_scope.specs.Prelude.{List, [], Call, OnExpr, OnAnonConst, OnPat, OnType, OnLifetime, e, opt, NodeId, fold_down, Nodes}
use Rattle.hir_scope.specs.ScopingForms.{ScopingForm, form_of}
use Rattle.hir_scope.specs.Frames.{Chain, frame}
use Rattle.hir_scope.specs.ScopingForms as form

-- the frames that the child of a call leaves open: an expression or a pattern its own, an anonymous constant
-- or a type none
abbrev pub open_frames_of_call : (NodeId → Chain) → Call → Chain
open_frames_of_call open_frames (OnExpr id) = open_frames (NodeId.Expr id)
open_frames_of_call open_frames (OnPat id) = open_frames (NodeId.Pat id)
open_frames_of_call open_frames (OnAnonConst id) = []
open_frames_of_call open_frames (OnType id) = []
open_frames_of_call open_frames (OnLifetime id) = []

-- the frames that the children of calls leave open: the later ones first, as their frames are further in
abbrev pub open_frames_of_calls : (NodeId → Chain) → List Call → Chain
open_frames_of_calls open_frames [] = []
open_frames_of_calls open_frames (c ∷ cs) = open_frames_of_calls open_frames cs
    ++ open_frames_of_call open_frames c

-- A `let` in a condition leaves its own frame open: the frames that its pattern leaves open are within it,
-- those of its expression around it. An `if` leaves open what its else branch does, a match what its
-- scrutinee does, an assignment what its value does. A block, a loop, a closure and a type leave nothing
-- open. Any other node leaves open what its children do.
abbrev pub open_frames_of_form : Nodes → (NodeId → Chain) → ScopingForm → Chain
open_frames_of_form s open_frames (form.Let pat expr) =
    open_frames (NodeId.Pat pat) ++ (frame s (pat ∷ []) ∷ open_frames (NodeId.Expr expr))
open_frames_of_form s open_frames (form.If condition then_branch else_branch) =
    open_frames_of_calls open_frames (opt e else_branch)
open_frames_of_form s open_frames (form.Match scrutinee arms) = open_frames (NodeId.Expr scrutinee)
open_frames_of_form s open_frames (form.Assignment target value) = open_frames (NodeId.Expr value)
open_frames_of_form s open_frames (form.Block id label statements tail) = []
open_frames_of_form s open_frames (form.Loop label body) = []
open_frames_of_form s open_frames (form.Closure arg_types ret_type args body) = []
open_frames_of_form s open_frames (form.PatternType type pat) = []
open_frames_of_form s open_frames (form.InTurn calls) = open_frames_of_calls open_frames calls

-- the frames that a node leaves open, by those that its children do
abbrev pub open_frames_step : Nodes → (NodeId → Chain) → NodeId → Chain
open_frames_step s open_frames n = open_frames_of_form s open_frames (form_of s n)

-- the frames that a node leaves open
-- open_frames s n = open_frames_of_form s (open_frames s) (form_of s n): theorem open_frames_unfold
unfoldable pub open_frames : Nodes → NodeId → Chain
open_frames s n = fold_down s (open_frames_step s) [] n
