-- Lines are read as they are written, and written as they are read.
use Rattle.std.proofs.Common.{◌≡◌, ◌≢◌, ℕ, true, ◌&&◌, List, [], ◌∷◌, Option, None, Some, refl, sym, ap, ◌∙◌, subst}
use Rattle.std.specs.Prelude.{map, codes}
use Rattle.std.specs.List.{AllZip, join_with_byte, list_all}
use Rattle.std.proofs.lemmas.List.Splits.{join_with_byte-slice_split}
use Rattle.hir_node.specs.declared.expr.Expr.{Expr}
use Rattle.hir_node.specs.declared.pat.Pat.{Pat}
use Rattle.hir_node.specs.declared.type_ref.TypeRef.{TypeRef}
use Rattle.hir_show_grammar.specs.Line.{Line, Blank, Make, Ask, Bad, line_of, by_words, maker, maker_forms, bind, pat_maker, type_maker, expr_maker, expr_hygiene, pat_hygiene, self_param, param, fn_name, roots, root, question, question_forms, children, root_of, chain, resolve, print, captures}
use Rattle.hir_show_grammar.specs.Makers.{Maker, Pat as MakePat, TypeRef as MakeType, Expr as MakeExpr}
use Rattle.hir_show_grammar.specs.declared.question.Question.{Question}
use Rattle.hir_show_grammar.specs.Readings.{Reading, look_up, whole, split_parts}
use Rattle.hir_show_grammar.specs.Words.{by, one_of}
use Rattle.hir_show_grammar.specs.Pats.{pat}
use Rattle.hir_show_grammar.specs.Types.{type_ref}
use Rattle.hir_show_grammar.specs.Exprs.{expr}
use Rattle.hir_show_grammar.specs.Tokens.{Token, Word, Arm, Stmt, IsWord, IsText}
use Rattle.hir_show_grammar.specs.PatGrammar.{IsPat, wild}
use Rattle.hir_show_grammar.specs.TypeGrammar.{IsType, never}
use Rattle.hir_show_grammar.specs.ExprGrammar.{IsExpr, match_expr, block}
use Rattle.hir_show_grammar.specs.Grammar.{IsMaker, bind as by_bind, bind_expanded, pat as by_pat, type_ref as by_type, expr as by_expr, expr_hygiene as by_expr_hygiene, pat_hygiene as by_pat_hygiene, self_param as by_self, param as by_param, fn_name as by_name, roots as by_roots, root as by_root, IsQuestion, children as by_children, root_of as by_root_of, chain as by_chain, resolve as by_resolve, resolve_expanded, print as by_print, captures as by_captures, IsLine}
use Rattle.hir_show_grammar.proofs.Forms.{Accepts, accept_head, accept_inner, whole_read, whole_found, Sound, sound_one_of, sound_inner, AllSound, no_form, form}
use Rattle.hir_show_grammar.proofs.Separators.{split_parts-join}
use Rattle.hir_show_grammar.proofs.Spaces.{AllPlain, is_plain, words_lack}
use Rattle.hir_show_grammar.proofs.Takes.{accepting, sounding}
use Rattle.hir_show_grammar.proofs.WrittenNodes.{accepts_expr, accepts_pat, accepts_type, sound_expr, sound_pat, sound_type}

accepts_maker : {m : Maker} {tokens : List Token} → IsMaker m tokens → Accepts tokens (one_of maker_forms) m
accepts_maker by_bind = accept_head maker_forms _ bind refl (search accepting)
accepts_maker bind_expanded = accept_head maker_forms _ bind refl (search accepting)
accepts_maker (by_pat is) = accept_head maker_forms _ pat_maker refl (accept_inner pat _ _ (λ made. MakePat made) (accepts_pat is))
accepts_maker (by_type is) = accept_head maker_forms _ type_maker refl (accept_inner type_ref _ _ (λ made. MakeType made) (accepts_type is))
accepts_maker (by_expr is) = accept_head maker_forms _ expr_maker refl (accept_inner expr _ _ (λ made. MakeExpr made) (accepts_expr is))
accepts_maker by_expr_hygiene = accept_head maker_forms _ expr_hygiene refl (search accepting)
accepts_maker by_pat_hygiene = accept_head maker_forms _ pat_hygiene refl (search accepting)
accepts_maker by_self = accept_head maker_forms _ self_param refl (search accepting)
accepts_maker by_param = accept_head maker_forms _ param refl (search accepting)
accepts_maker by_name = accept_head maker_forms _ fn_name refl (search accepting)
accepts_maker by_roots = accept_head maker_forms _ roots refl (search accepting)
accepts_maker by_root = accept_head maker_forms _ root refl (search accepting)

accepts_question : {q : Question} {tokens : List Token} → IsQuestion q tokens → Accepts tokens (one_of question_forms) q
accepts_question by_children = accept_head question_forms _ children refl (search accepting)
accepts_question by_root_of = accept_head question_forms _ root_of refl (search accepting)
accepts_question by_chain = accept_head question_forms _ chain refl (search accepting)
accepts_question by_resolve = accept_head question_forms _ resolve refl (search accepting)
accepts_question resolve_expanded = accept_head question_forms _ resolve refl (search accepting)
accepts_question by_print = accept_head question_forms _ print refl (search accepting)
accepts_question by_captures = accept_head question_forms _ captures refl (search accepting)

ruleset written = (sounding, by_bind, bind_expanded, by_expr_hygiene, by_pat_hygiene, by_self, by_param, by_name, by_roots, by_root, by_children, by_root_of, by_chain, by_resolve, resolve_expanded, by_print, by_captures)

pats_sound : Sound (λ maker tokens. IsMaker maker (Word (codes "pat") ∷ tokens)) pat_maker
pats_sound = sound_inner IsPat _ pat (λ made. MakePat made) sound_pat (λ p tokens is. by_pat is)

types_sound : Sound (λ maker tokens. IsMaker maker (Word (codes "type") ∷ tokens)) type_maker
types_sound = sound_inner IsType _ type_ref (λ made. MakeType made) sound_type (λ t tokens is. by_type is)

exprs_sound : Sound (λ maker tokens. IsMaker maker (Word (codes "expr") ∷ tokens)) expr_maker
exprs_sound = sound_inner IsExpr _ expr (λ made. MakeExpr made) sound_expr (λ e tokens is. by_expr is)

makers_sound : AllSound IsMaker maker_forms
makers_sound = form (search written) (form pats_sound (form types_sound (form exprs_sound (form (search written) (form (search written)
    (form (search written) (form (search written) (form (search written) (form (search written) (form (search written) no_form))))))))))

questions_sound : AllSound IsQuestion question_forms
questions_sound = form (search written) (form (search written) (form (search written) (form (search written) (form (search written) (form (search written) no_form)))))

-- the tokens of a line are plain
plain_pat : {p : Pat} {tokens : List Token} → IsPat p tokens → AllPlain tokens
plain_pat wild = refl
plain_pat _ = refl

plain_type : {t : TypeRef} {tokens : List Token} → IsType t tokens → AllPlain tokens
plain_type never = refl
plain_type _ = refl

plain_map : {X : Type 0} (token : X → Token) → ((x : X) → is_plain (token x) ≡ true) → (xs : List X) → AllPlain (map token xs)
plain_map token plain [] = refl
plain_map token plain (x ∷ xs) = ap (λ b. b && list_all is_plain (map token xs)) (plain x) ∙ plain_map token plain xs

plain_expr : {e : Expr} {tokens : List Token} → IsExpr e tokens → AllPlain tokens
plain_expr (match_expr {arms = arms}) = plain_map Arm (λ arm. refl) arms
plain_expr (block {statements = statements}) = plain_map Stmt (λ statement. refl) statements
plain_expr _ = refl

plain_maker : {m : Maker} {tokens : List Token} → IsMaker m tokens → AllPlain tokens
plain_maker (by_pat is) = plain_pat is
plain_maker (by_type is) = plain_type is
plain_maker (by_expr is) = plain_expr is
plain_maker _ = refl

plain_question : {q : Question} {tokens : List Token} → IsQuestion q tokens → AllPlain tokens
plain_question by_children = refl
plain_question _ = refl

-- what a text says whose words make something
makes_so : (m : Maker) (text : List ℕ) → whole maker (split_parts 32 text) ≡ Some m → line_of text ≡ Make m
unfolding line_of maker
makes_so m [] e = cc
makes_so m (b ∷ bs) e = ap (λ found. by_words found (whole question (split_parts 32 (b ∷ bs)))) e

-- or ask
asks_so : (q : Question) (text : List ℕ) → whole maker (split_parts 32 text) ≡ None → whole question (split_parts 32 text) ≡ Some q → line_of text ≡ Ask q
unfolding line_of question
asks_so q [] none e = cc
asks_so q (b ∷ bs) none e = ap (λ found. by_words found (whole question (split_parts 32 (b ∷ bs)))) none ∙ ap (λ found. by_words None found) e

-- no question makes anything
no_maker : (head : List ℕ) (tokens : List Token) (words : List (List ℕ)) → look_up maker_forms head ≡ None → AllZip IsWord (Word head ∷ tokens) words → whole maker words ≡ None
unfolding maker
no_maker head tokens [] none zip = absurd zip
no_maker head tokens (word ∷ words) none zip =
    ap (λ (first : List ℕ). whole (by (look_up maker_forms first)) words) zip.0 ∙ ap (λ found. whole (by found) words) none

-- a question begins with a word with which nothing that makes begins
question_begins : {q : Question} {tokens : List Token} → IsQuestion q tokens → (head : List ℕ) × (others : List Token) × (look_up maker_forms head ≡ None) × (tokens ≡ Word head ∷ others)
question_begins by_children = (codes "children", _, refl, refl)
question_begins by_root_of = (codes "root-of", _, refl, refl)
question_begins by_chain = (codes "chain", _, refl, refl)
question_begins by_resolve = (codes "resolve", _, refl, refl)
question_begins resolve_expanded = (codes "resolve", _, refl, refl)
question_begins by_print = (codes "print", _, refl, refl)
question_begins by_captures = (codes "captures", _, refl, refl)

asks_alone : {q : Question} {tokens : List Token} → IsQuestion q tokens → (words : List (List ℕ)) → AllZip IsWord tokens words → whole maker words ≡ None
asks_alone is words zip =
    let first = question_begins is in
    no_maker first.0 first.1 words first.2 (subst (λ (ts : List Token). AllZip IsWord ts words) first.3 zip)

question_tokens : (words : List (List ℕ)) (q : Question) → whole question words ≡ Some q → (tokens : List Token) × IsQuestion q tokens × AllZip IsWord tokens words
unfolding question
question_tokens words q e = (sound_one_of IsQuestion question_forms questions_sound).written words q (whole_found (one_of question_forms words) q e)

-- what the words of a text ask
pub asks_it : (text : List ℕ) (q : Question) → whole question (split_parts 32 text) ≡ Some q → line_of text ≡ Ask q
asks_it text q e = let found = question_tokens (split_parts 32 text) q e in asks_so q text (asks_alone found.1 (split_parts 32 text) found.2) e

-- the words of a text that is written so
parts_are_tokens : {Y : Type 0} (forms : List (List ℕ × Reading Y)) (y : Y) (tokens : List Token) (text : List ℕ) → Accepts tokens (one_of forms) y → AllPlain tokens → (h : IsText tokens text) →
    split_parts 32 text ≡ h.0
parts_are_tokens forms y tokens text accepts plain h = by_text h.0 h.1 h.2 where
  by_text : (words : List (List ℕ)) → AllZip IsWord tokens words → text ≡ join_with_byte 32 words → split_parts 32 text ≡ words
  by_text [] zip joined = let none : one_of forms [] ≡ Some (y, []) = accepts.reads [] zip in cc
  by_text (word ∷ words) zip joined = ap (split_parts 32) joined ∙ split_parts-join 32 word words (words_lack tokens (word ∷ words) zip plain)

maker_reads : (m : Maker) (tokens : List Token) (text : List ℕ) → IsMaker m tokens → IsText tokens text → line_of text ≡ Make m
unfolding maker
maker_reads m tokens text is h =
    makes_so m text (ap (whole (one_of maker_forms)) (parts_are_tokens maker_forms m tokens text (accepts_maker is) (plain_maker is) h)
    ∙ whole_read (one_of maker_forms) h.0 m ((accepts_maker is).reads h.0 h.1))

question_reads : (q : Question) (tokens : List Token) (text : List ℕ) → IsQuestion q tokens → IsText tokens text → line_of text ≡ Ask q
unfolding question
question_reads q tokens text is h =
    let words : split_parts 32 text ≡ h.0 = parts_are_tokens question_forms q tokens text (accepts_question is) (plain_question is) h in
    asks_so q text (ap (whole maker) words ∙ asks_alone is h.0 h.1)
    (ap (whole (one_of question_forms)) words ∙ whole_read (one_of question_forms) h.0 q ((accepts_question is).reads h.0 h.1))

-- what is written as a line is read as it
pub reads : (line : Line) (text : List ℕ) → IsLine line text → line ≢ Bad → line_of text ≡ line
unfolding line_of
reads Blank text h good = ap line_of h
reads (Make m) text h good = maker_reads m h.0 text h.1 h.2
reads (Ask q) text h good = question_reads q h.0 text h.1 h.2
reads Bad text h good = absurd (good refl)

maker_written : (m : Maker) (text : List ℕ) → whole maker (split_parts 32 text) ≡ Some m → IsLine (Make m) text
unfolding maker
maker_written m text e =
    let found = (sound_one_of IsMaker maker_forms makers_sound).written (split_parts 32 text) m (whole_found (one_of maker_forms (split_parts 32 text)) m e) in
    (found.0, found.1, (split_parts 32 text, found.2, sym (join_with_byte-slice_split 32 text)))

question_written : (q : Question) (text : List ℕ) → whole question (split_parts 32 text) ≡ Some q → IsLine (Ask q) text
question_written q text e =
    let found = question_tokens (split_parts 32 text) q e in
    (found.0, found.1, (split_parts 32 text, found.2, sym (join_with_byte-slice_split 32 text)))

-- what is read is written so
pub is_written : (text : List ℕ) → IsLine (line_of text) text
unfolding line_of
is_written [] = refl
is_written (b ∷ bs) = by_found (whole maker (split_parts 32 (b ∷ bs))) (whole question (split_parts 32 (b ∷ bs))) refl refl where
  by_found : (made : Option Maker) (asked : Option Question) → whole maker (split_parts 32 (b ∷ bs)) ≡ made → whole question (split_parts 32 (b ∷ bs)) ≡ asked →
      IsLine (by_words made asked) (b ∷ bs)
  by_found (Some m) asked e f = maker_written m (b ∷ bs) e
  by_found None (Some q) e f = question_written q (b ∷ bs) f
  by_found None None e f = tt
