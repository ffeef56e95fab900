-- The order in which scopes are made: a node's child calls, where a type and what is matched come before the
-- pattern, a guard before the body of its arm, the types of a closure before its arguments and these before
-- its body.
use Rattle.std.specs.Prelude.{◌++◌}
use Rattle.hir_scope.specs.Prelude.{flat_map, List, [], Option, ExprId, PatId, TypeRefId, Call, e, p, t, opt, MatchArm, Statement}
use Rattle.hir_scope.specs.ScopingForms.{ScopingForm}
use Rattle.hir_scope.specs.ScopingForms as form

abbrev pub met_in_statement : Statement → List Call
met_in_statement (Statement.Let pat type_ref initializer else_branch) =
    (opt t type_ref ++ opt e initializer ++ opt e else_branch) ++ p pat
met_in_statement (Statement.Expr expr has_semi) = e expr
met_in_statement (Statement.Item item) = []

abbrev pub met_in_arm : MatchArm → List Call
met_in_arm arm = p arm.pat ++ opt e arm.guard ++ e arm.expr

abbrev pub met_in_closure : List (Option TypeRefId) → Option TypeRefId → List PatId → ExprId → List Call
met_in_closure arg_types ret_type args body =
    (flat_map (opt t) arg_types ++ opt t ret_type) ++ (flat_map p args ++ e body)

abbrev pub met_in_form : ScopingForm → List Call
met_in_form (form.If condition then_branch else_branch) = (e condition ++ e then_branch) ++ opt e else_branch
met_in_form (form.Let pat expr) = e expr ++ p pat
met_in_form (form.Block id label statements tail) = flat_map met_in_statement statements ++ opt e tail
met_in_form (form.Loop label body) = e body
met_in_form (form.Closure arg_types ret_type args body) = met_in_closure arg_types ret_type args body
met_in_form (form.Match scrutinee arms) = e scrutinee ++ flat_map met_in_arm arms
met_in_form (form.Assignment target value) = p target ++ e value
met_in_form (form.PatternType type pat) = t type ++ p pat
met_in_form (form.InTurn calls) = calls
