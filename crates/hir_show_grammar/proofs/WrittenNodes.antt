-- Patterns, types and expressions are read as they are written, and written as they are read.
use Rattle.std.proofs.Common.{refl}
use Rattle.std.specs.Prelude.{List, map, None}
use Rattle.hir_node.specs.declared.pat.Pat.{Pat}
use Rattle.hir_node.specs.declared.pat.Pat.TheVariants.{Wild, Missing as MissingPat, Rest}
use Rattle.hir_node.specs.declared.type_ref.TypeRef.{TypeRef}
use Rattle.hir_node.specs.declared.type_ref.TypeRef.TheVariants.{Never}
use Rattle.hir_node.specs.declared.expr.Expr.{Expr}
use Rattle.hir_node.specs.declared.expr.Expr.TheVariants.{Missing, Match, Block}
use Rattle.hir_node.specs.declared.expr_types.Unsafe.TheVariants.{No as Safe}
use Rattle.hir_node.specs.declared.expr_types.MatchArm.{MatchArm}
use Rattle.hir_node.specs.declared.expr_types.Statement.{Statement}
use Rattle.hir_show_grammar.specs.Readings.{◌>>=◌, gives, each}
use Rattle.hir_show_grammar.specs.ArmsAndStatements.{arm_of, statement_of}
use Rattle.hir_show_grammar.specs.Pats.{pat, pat_forms, bind_pat, tuple_pat, or_pat as or_reading, tuple_struct_pat, range_pat, lit_pat, expr_pat}
use Rattle.hir_show_grammar.specs.PatGrammar.{IsPat, wild, missing as no_pat, rest, bind, tuple as tuple_of_pats, or_pat, tuple_struct, range, lit, expr as expr_as_pat}
use Rattle.hir_show_grammar.specs.Types.{type_ref, type_forms, path_type, tuple_type, array_type, pattern_type}
use Rattle.hir_show_grammar.specs.TypeGrammar.{IsType, path as path_as_type, tuple as tuple_of_types, array as array_as_type, pattern, never}
use Rattle.hir_show_grammar.specs.Exprs.{expr, expr_forms, path_expr, int_expr, call_expr, tuple_expr, array_expr, repeat_expr, ref_expr, bin_expr, let_expr as let_reading, if_expr as if_reading, loop_expr as loop_reading, assign_expr, const_expr, match_expr as match_reading, closure_expr, block_expr}
use Rattle.hir_show_grammar.specs.ExprGrammar.{IsExpr, missing, path, int, call, tuple, array, repeat, reference, binary, let_expr, if_expr, loop_expr, assign, constant, match_expr, closure, block}
use Rattle.hir_show_grammar.specs.Tokens.{Token, Arm, Stmt}
use Rattle.hir_show_grammar.proofs.Colons.{arm_reads, arm_spells, statement_reads, statement_spells}
use Rattle.hir_show_grammar.proofs.Forms.{Accepts, accept_head, accept_each, Sound, sound_one_of, sound_each, no_form, form}
use Rattle.hir_show_grammar.proofs.Takes.{accepting, accept_number, accept_optional, sounding}

pub accepts_pat : {p : Pat} {tokens : List Token} → IsPat p tokens → Accepts tokens pat p
unfolding pat
accepts_pat wild = accept_head pat_forms _ (gives Wild) refl (search accepting)
accepts_pat no_pat = accept_head pat_forms _ (gives MissingPat) refl (search accepting)
accepts_pat rest = accept_head pat_forms _ (gives Rest) refl (search accepting)
accepts_pat bind = accept_head pat_forms _ bind_pat refl (search accepting)
accepts_pat tuple_of_pats = accept_head pat_forms _ tuple_pat refl (search accepting)
accepts_pat or_pat = accept_head pat_forms _ or_reading refl (search accepting)
accepts_pat tuple_struct = accept_head pat_forms _ tuple_struct_pat refl (search accepting)
accepts_pat range = accept_head pat_forms _ range_pat refl (search accepting)
accepts_pat lit = accept_head pat_forms _ lit_pat refl (search accepting)
accepts_pat expr_as_pat = accept_head pat_forms _ expr_pat refl (search accepting)

ruleset pat_written = (sounding, wild, no_pat, rest, bind, tuple_of_pats, or_pat, tuple_struct, range, lit, expr_as_pat)

pub sound_pat : Sound IsPat pat
unfolding pat
sound_pat = sound_one_of IsPat pat_forms
    (form (search pat_written) (form (search pat_written) (form (search pat_written) (form (search pat_written) (form (search pat_written)
    (form (search pat_written) (form (search pat_written) (form (search pat_written) (form (search pat_written) (form (search pat_written) no_form))))))))))

pub accepts_type : {t : TypeRef} {tokens : List Token} → IsType t tokens → Accepts tokens type_ref t
unfolding type_ref
accepts_type path_as_type = accept_head type_forms _ path_type refl (search accepting)
accepts_type tuple_of_types = accept_head type_forms _ tuple_type refl (search accepting)
accepts_type array_as_type = accept_head type_forms _ array_type refl (search accepting)
accepts_type pattern = accept_head type_forms _ pattern_type refl (search accepting)
accepts_type never = accept_head type_forms _ (gives Never) refl (search accepting)

ruleset type_written = (sounding, path_as_type, tuple_of_types, array_as_type, pattern, never)

pub sound_type : Sound IsType type_ref
unfolding type_ref
sound_type = sound_one_of IsType type_forms
    (form (search type_written) (form (search type_written) (form (search type_written) (form (search type_written) (form (search type_written) no_form)))))

accept_arms : {Y : Type 0} {arms : List MatchArm} (make : List MatchArm → Y) → Accepts (map Arm arms) (each arm_of >>= λ all. gives (make all)) (make arms)
accept_arms {arms = arms} make = accept_each arm_of Arm arms make arm_reads

accept_statements : {Y : Type 0} {statements : List Statement} (make : List Statement → Y) → Accepts (map Stmt statements) (each statement_of >>= λ all. gives (make all)) (make statements)
accept_statements {statements = statements} make = accept_each statement_of Stmt statements make statement_reads

pub accepts_expr : {e : Expr} {tokens : List Token} → IsExpr e tokens → Accepts tokens expr e
unfolding expr
accepts_expr missing = accept_head expr_forms _ (gives Missing) refl (search accepting)
accepts_expr path = accept_head expr_forms _ path_expr refl (search accepting)
accepts_expr int = accept_head expr_forms _ int_expr refl (search accepting)
accepts_expr call = accept_head expr_forms _ call_expr refl (search accepting)
accepts_expr tuple = accept_head expr_forms _ tuple_expr refl (search accepting)
accepts_expr array = accept_head expr_forms _ array_expr refl (search accepting)
accepts_expr repeat = accept_head expr_forms _ repeat_expr refl (search accepting)
accepts_expr reference = accept_head expr_forms _ ref_expr refl (search accepting)
accepts_expr binary = accept_head expr_forms _ bin_expr refl (search accepting)
accepts_expr let_expr = accept_head expr_forms _ let_reading refl (search accepting)
accepts_expr if_expr = accept_head expr_forms _ if_reading refl (search accepting)
accepts_expr loop_expr = accept_head expr_forms _ loop_reading refl (search accepting)
accepts_expr assign = accept_head expr_forms _ assign_expr refl (search accepting)
accepts_expr constant = accept_head expr_forms _ const_expr refl (search accepting)
accepts_expr (match_expr {expr = e}) = accept_head expr_forms _ match_reading refl (accept_number _ (accept_arms (λ arms. Match e arms)))
accepts_expr closure = accept_head expr_forms _ closure_expr refl (search accepting)
accepts_expr (block {id = id} {tail = tail}) = accept_head expr_forms _ block_expr refl (accept_optional _ (accept_optional _ (accept_statements (λ statements. Block id statements tail None Safe))))

sound_arms : {Y : Type 0} (Is : Y → List Token → Type 0) (make : List MatchArm → Y) → ((arms : List MatchArm) → Is (make arms) (map Arm arms)) → Sound Is (each arm_of >>= λ all. gives (make all))
sound_arms Is make = sound_each arm_of Arm Is make arm_spells

sound_statements : {Y : Type 0} (Is : Y → List Token → Type 0) (make : List Statement → Y) → ((statements : List Statement) → Is (make statements) (map Stmt statements)) → Sound Is (each statement_of >>= λ all. gives (make all))
sound_statements Is make = sound_each statement_of Stmt Is make statement_spells

ruleset expr_written = (sounding, sound_arms, sound_statements, missing, path, int, call, tuple, array, repeat, reference, binary, let_expr, if_expr, loop_expr, assign, constant, match_expr, closure, block)

pub sound_expr : Sound IsExpr expr
unfolding expr
sound_expr = sound_one_of IsExpr expr_forms
    (form (search expr_written) (form (search expr_written) (form (search expr_written) (form (search expr_written) (form (search expr_written)
    (form (search expr_written) (form (search expr_written) (form (search expr_written) (form (search expr_written) (form (search expr_written) (form (search expr_written)
    (form (search expr_written) (form (search expr_written) (form (search expr_written) (form (search expr_written) (form (search expr_written) (form (search expr_written) no_form)))))))))))))))))
