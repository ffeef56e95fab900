use Rattle.std.proofs.Common.{◌≡◌, ◌∷◌, length, refl, sym, ap, ◌∙◌, arith}
use Rattle.std.specs.Prelude.{codes}
use Rattle.std.proofs.lemmas.Bool.{false≢true}
use Rattle.std.proofs.lemmas.Bool.Decides.{nat_tests}
use Rattle.hir_show_grammar.specs.Line.{bind, expr_hygiene, expr_maker, fn_name, maker_forms, param, pat_hygiene, pat_maker, root, roots, self_param, type_maker}
use Rattle.hir_show_grammar.specs.Exprs.{expr}
use Rattle.hir_show_grammar.specs.Makers as make
use Rattle.hir_show_grammar.specs.Pats.{pat}
use Rattle.hir_show_grammar.specs.Readings.{split_parts}
use Rattle.hir_show_grammar.specs.LineEffects.{with_line}
use Rattle.hir_show_grammar.specs.Types.{type_ref}
use Rattle.hir_show_grammar.proofs.Tables.{NoneFirst, empty_line, inner_put, left_line, takes_by, tried}
use Rattle.hir_show_grammar.proofs.maker_lines.make.Goals as goal

pub returns-then-is_empty : goal.returns-then-is_empty
returns-then-is_empty g c =
    let B = g.B.Builder in
    let none : length c.args.text.now ≡ 0 = grind (arith, nat_tests) in
    record {
      makes = (
        λ _. ap (with_line B.has_self B.has_name B.add c.args.builder.now) (empty_line c.args.text.now none),
        λ wrong. absurd (false≢true (sym wrong)),
      );
    }

pub returns-then-skip : goal.returns-then-skip
returns-then-skip g c =
    let B = g.B.Builder in
    let words : split_parts 32 c.args.text.now ≡ codes "expr" ∷ c.skip.new.self = sym c.new-words.ensures ∙ c.skip.ensures.yes c.if-skip.true in
    record { makes = takes_by B.has_self B.has_name B.add c.args.builder.now c.expr.new.builder c.args.text.now (codes "expr") expr_maker c.skip.new.self (λ none. grind (arith, nat_tests)) refl refl words c.expr.result c.unless_refused.result (inner_put B.has_self B.has_name B.add c.args.builder.now c.expr.new.builder make.Expr expr c.skip.new.self c.expr.result c.expr.ensures) c.unless_refused.ensures }

pub returns-then-skip-2 : goal.returns-then-skip-2
returns-then-skip-2 g c =
    let B = g.B.Builder in
    let words : split_parts 32 c.args.text.now ≡ codes "pat" ∷ c.skip-else-skip.new.self = sym c.new-words.ensures ∙ sym (c.skip.ensures.no c.if-skip.false).0 ∙ c.skip-else-skip.ensures.yes c.if-skip-2.true in
    record { makes = takes_by B.has_self B.has_name B.add c.args.builder.now c.pat.new.builder c.args.text.now (codes "pat") pat_maker c.skip-else-skip.new.self (λ none. grind (arith, nat_tests)) refl refl words c.pat.result c.unless_refused-then-skip-2.result (inner_put B.has_self B.has_name B.add c.args.builder.now c.pat.new.builder make.Pat pat c.skip-else-skip.new.self c.pat.result c.pat.ensures) c.unless_refused-then-skip-2.ensures }

pub returns-then-skip-3 : goal.returns-then-skip-3
returns-then-skip-3 g c =
    let B = g.B.Builder in
    let words : split_parts 32 c.args.text.now ≡ codes "bind" ∷ c.skip-else-skip-2.new.self = sym c.new-words.ensures ∙ sym (c.skip.ensures.no c.if-skip.false).0 ∙ sym (c.skip-else-skip.ensures.no c.if-skip-2.false).0 ∙ c.skip-else-skip-2.ensures.yes c.if-skip-3.true in
    record { makes = takes_by B.has_self B.has_name B.add c.args.builder.now c.bind.new.builder c.args.text.now (codes "bind") bind c.skip-else-skip-2.new.self (λ none. grind (arith, nat_tests)) refl refl words c.bind.result c.unless_refused-then-skip-3.result c.bind.ensures c.unless_refused-then-skip-3.ensures }

pub returns-then-skip-4 : goal.returns-then-skip-4
returns-then-skip-4 g c =
    let B = g.B.Builder in
    let words : split_parts 32 c.args.text.now ≡ codes "type" ∷ c.skip-else-skip-3.new.self = sym c.new-words.ensures ∙ sym (c.skip.ensures.no c.if-skip.false).0 ∙ sym (c.skip-else-skip.ensures.no c.if-skip-2.false).0 ∙ sym (c.skip-else-skip-2.ensures.no c.if-skip-3.false).0 ∙ c.skip-else-skip-3.ensures.yes c.if-skip-4.true in
    record { makes = takes_by B.has_self B.has_name B.add c.args.builder.now c.make_type.new.builder c.args.text.now (codes "type") type_maker c.skip-else-skip-3.new.self (λ none. grind (arith, nat_tests)) refl refl words c.make_type.result c.unless_refused-then-skip-4.result (inner_put B.has_self B.has_name B.add c.args.builder.now c.make_type.new.builder make.TypeRef type_ref c.skip-else-skip-3.new.self c.make_type.result c.make_type.ensures) c.unless_refused-then-skip-4.ensures }

pub returns-then-skip-5 : goal.returns-then-skip-5
returns-then-skip-5 g c =
    let B = g.B.Builder in
    let words : split_parts 32 c.args.text.now ≡ codes "hygiene" ∷ c.skip-else-skip-4.new.self = sym c.new-words.ensures ∙ sym (c.skip.ensures.no c.if-skip.false).0 ∙ sym (c.skip-else-skip.ensures.no c.if-skip-2.false).0 ∙ sym (c.skip-else-skip-2.ensures.no c.if-skip-3.false).0 ∙ sym (c.skip-else-skip-3.ensures.no c.if-skip-4.false).0 ∙ c.skip-else-skip-4.ensures.yes c.if-skip-5.true in
    record { makes = takes_by B.has_self B.has_name B.add c.args.builder.now c.expr_hygiene.new.builder c.args.text.now (codes "hygiene") expr_hygiene c.skip-else-skip-4.new.self (λ none. grind (arith, nat_tests)) refl refl words c.expr_hygiene.result c.unless_refused-then-skip-5.result c.expr_hygiene.ensures c.unless_refused-then-skip-5.ensures }

pub returns-then-skip-6 : goal.returns-then-skip-6
returns-then-skip-6 g c =
    let B = g.B.Builder in
    let words : split_parts 32 c.args.text.now ≡ codes "pat-hygiene" ∷ c.skip-else-skip-5.new.self = sym c.new-words.ensures ∙ sym (c.skip.ensures.no c.if-skip.false).0 ∙ sym (c.skip-else-skip.ensures.no c.if-skip-2.false).0 ∙ sym (c.skip-else-skip-2.ensures.no c.if-skip-3.false).0 ∙ sym (c.skip-else-skip-3.ensures.no c.if-skip-4.false).0 ∙ sym (c.skip-else-skip-4.ensures.no c.if-skip-5.false).0 ∙ c.skip-else-skip-5.ensures.yes c.if-skip-6.true in
    record { makes = takes_by B.has_self B.has_name B.add c.args.builder.now c.pat_hygiene.new.builder c.args.text.now (codes "pat-hygiene") pat_hygiene c.skip-else-skip-5.new.self (λ none. grind (arith, nat_tests)) refl refl words c.pat_hygiene.result c.unless_refused-then-skip-6.result c.pat_hygiene.ensures c.unless_refused-then-skip-6.ensures }

pub returns-then-skip-7 : goal.returns-then-skip-7
returns-then-skip-7 g c =
    let B = g.B.Builder in
    let words : split_parts 32 c.args.text.now ≡ codes "self" ∷ c.skip-else-skip-6.new.self = sym c.new-words.ensures ∙ sym (c.skip.ensures.no c.if-skip.false).0 ∙ sym (c.skip-else-skip.ensures.no c.if-skip-2.false).0 ∙ sym (c.skip-else-skip-2.ensures.no c.if-skip-3.false).0 ∙ sym (c.skip-else-skip-3.ensures.no c.if-skip-4.false).0 ∙ sym (c.skip-else-skip-4.ensures.no c.if-skip-5.false).0 ∙ sym (c.skip-else-skip-5.ensures.no c.if-skip-6.false).0 ∙ c.skip-else-skip-6.ensures.yes c.if-skip-7.true in
    record { makes = takes_by B.has_self B.has_name B.add c.args.builder.now c.self_param.new.builder c.args.text.now (codes "self") self_param c.skip-else-skip-6.new.self (λ none. grind (arith, nat_tests)) refl refl words c.self_param.result c.unless_refused-then-skip-7.result c.self_param.ensures c.unless_refused-then-skip-7.ensures }

pub returns-then-skip-8 : goal.returns-then-skip-8
returns-then-skip-8 g c =
    let B = g.B.Builder in
    let words : split_parts 32 c.args.text.now ≡ codes "param" ∷ c.skip-else-skip-7.new.self = sym c.new-words.ensures ∙ sym (c.skip.ensures.no c.if-skip.false).0 ∙ sym (c.skip-else-skip.ensures.no c.if-skip-2.false).0 ∙ sym (c.skip-else-skip-2.ensures.no c.if-skip-3.false).0 ∙ sym (c.skip-else-skip-3.ensures.no c.if-skip-4.false).0 ∙ sym (c.skip-else-skip-4.ensures.no c.if-skip-5.false).0 ∙ sym (c.skip-else-skip-5.ensures.no c.if-skip-6.false).0 ∙ sym (c.skip-else-skip-6.ensures.no c.if-skip-7.false).0 ∙ c.skip-else-skip-7.ensures.yes c.if-skip-8.true in
    record { makes = takes_by B.has_self B.has_name B.add c.args.builder.now c.param.new.builder c.args.text.now (codes "param") param c.skip-else-skip-7.new.self (λ none. grind (arith, nat_tests)) refl refl words c.param.result c.unless_refused-then-skip-8.result c.param.ensures c.unless_refused-then-skip-8.ensures }

pub returns-then-skip-9 : goal.returns-then-skip-9
returns-then-skip-9 g c =
    let B = g.B.Builder in
    let words : split_parts 32 c.args.text.now ≡ codes "fn" ∷ c.skip-else-skip-8.new.self = sym c.new-words.ensures ∙ sym (c.skip.ensures.no c.if-skip.false).0 ∙ sym (c.skip-else-skip.ensures.no c.if-skip-2.false).0 ∙ sym (c.skip-else-skip-2.ensures.no c.if-skip-3.false).0 ∙ sym (c.skip-else-skip-3.ensures.no c.if-skip-4.false).0 ∙ sym (c.skip-else-skip-4.ensures.no c.if-skip-5.false).0 ∙ sym (c.skip-else-skip-5.ensures.no c.if-skip-6.false).0 ∙ sym (c.skip-else-skip-6.ensures.no c.if-skip-7.false).0 ∙ sym (c.skip-else-skip-7.ensures.no c.if-skip-8.false).0 ∙ c.skip-else-skip-8.ensures.yes c.if-skip-9.true in
    record { makes = takes_by B.has_self B.has_name B.add c.args.builder.now c.fn_name.new.builder c.args.text.now (codes "fn") fn_name c.skip-else-skip-8.new.self (λ none. grind (arith, nat_tests)) refl refl words c.fn_name.result c.unless_refused-then-skip-9.result c.fn_name.ensures c.unless_refused-then-skip-9.ensures }

pub returns-then-skip-10 : goal.returns-then-skip-10
returns-then-skip-10 g c =
    let B = g.B.Builder in
    let words : split_parts 32 c.args.text.now ≡ codes "roots" ∷ c.skip-else-skip-9.new.self = sym c.new-words.ensures ∙ sym (c.skip.ensures.no c.if-skip.false).0 ∙ sym (c.skip-else-skip.ensures.no c.if-skip-2.false).0 ∙ sym (c.skip-else-skip-2.ensures.no c.if-skip-3.false).0 ∙ sym (c.skip-else-skip-3.ensures.no c.if-skip-4.false).0 ∙ sym (c.skip-else-skip-4.ensures.no c.if-skip-5.false).0 ∙ sym (c.skip-else-skip-5.ensures.no c.if-skip-6.false).0 ∙ sym (c.skip-else-skip-6.ensures.no c.if-skip-7.false).0 ∙ sym (c.skip-else-skip-7.ensures.no c.if-skip-8.false).0 ∙ sym (c.skip-else-skip-8.ensures.no c.if-skip-9.false).0 ∙ c.skip-else-skip-9.ensures.yes c.if-skip-10.true in
    record { makes = takes_by B.has_self B.has_name B.add c.args.builder.now c.roots.new.builder c.args.text.now (codes "roots") roots c.skip-else-skip-9.new.self (λ none. grind (arith, nat_tests)) refl refl words c.roots.result c.unless_refused-then-skip-10.result c.roots.ensures c.unless_refused-then-skip-10.ensures }

pub returns-then-skip-11 : goal.returns-then-skip-11
returns-then-skip-11 g c =
    let B = g.B.Builder in
    let words : split_parts 32 c.args.text.now ≡ codes "root" ∷ c.skip-else-skip-10.new.self = sym c.new-words.ensures ∙ sym (c.skip.ensures.no c.if-skip.false).0 ∙ sym (c.skip-else-skip.ensures.no c.if-skip-2.false).0 ∙ sym (c.skip-else-skip-2.ensures.no c.if-skip-3.false).0 ∙ sym (c.skip-else-skip-3.ensures.no c.if-skip-4.false).0 ∙ sym (c.skip-else-skip-4.ensures.no c.if-skip-5.false).0 ∙ sym (c.skip-else-skip-5.ensures.no c.if-skip-6.false).0 ∙ sym (c.skip-else-skip-6.ensures.no c.if-skip-7.false).0 ∙ sym (c.skip-else-skip-7.ensures.no c.if-skip-8.false).0 ∙ sym (c.skip-else-skip-8.ensures.no c.if-skip-9.false).0 ∙ sym (c.skip-else-skip-9.ensures.no c.if-skip-10.false).0 ∙ c.skip-else-skip-10.ensures.yes c.if-skip-11.true in
    record { makes = takes_by B.has_self B.has_name B.add c.args.builder.now c.root.new.builder c.args.text.now (codes "root") root c.skip-else-skip-10.new.self (λ none. grind (arith, nat_tests)) refl refl words c.root.result c.unless_refused-then-skip-11.result c.root.ensures c.unless_refused-then-skip-11.ensures }

pub returns-else-skip-11 : goal.returns-else-skip-11
returns-else-skip-11 g c =
    let t0 = tried (codes "expr") (sym c.new-words.ensures) (c.skip.ensures.no c.if-skip.false) in
    let t1 = tried (codes "pat") t0.0 (c.skip-else-skip.ensures.no c.if-skip-2.false) in
    let t2 = tried (codes "bind") t1.0 (c.skip-else-skip-2.ensures.no c.if-skip-3.false) in
    let t3 = tried (codes "type") t2.0 (c.skip-else-skip-3.ensures.no c.if-skip-4.false) in
    let t4 = tried (codes "hygiene") t3.0 (c.skip-else-skip-4.ensures.no c.if-skip-5.false) in
    let t5 = tried (codes "pat-hygiene") t4.0 (c.skip-else-skip-5.ensures.no c.if-skip-6.false) in
    let t6 = tried (codes "self") t5.0 (c.skip-else-skip-6.ensures.no c.if-skip-7.false) in
    let t7 = tried (codes "param") t6.0 (c.skip-else-skip-7.ensures.no c.if-skip-8.false) in
    let t8 = tried (codes "fn") t7.0 (c.skip-else-skip-8.ensures.no c.if-skip-9.false) in
    let t9 = tried (codes "roots") t8.0 (c.skip-else-skip-9.ensures.no c.if-skip-10.false) in
    let t10 = tried (codes "root") t9.0 (c.skip-else-skip-10.ensures.no c.if-skip-11.false) in
    let nothing : NoneFirst maker_forms (split_parts 32 c.args.text.now) = (t2.1, (t1.1, (t3.1, (t0.1, (t4.1, (t5.1, (t6.1, (t7.1, (t8.1, (t9.1, (t10.1, tt))))))))))) in
    record { makes = (λ wrong. absurd (false≢true wrong), λ _. (refl, left_line c.args.text.now (λ none. grind (arith, nat_tests)) nothing)) }
