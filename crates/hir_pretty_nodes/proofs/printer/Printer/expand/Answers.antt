use Rattle.hir_pretty_nodes.proofs.Common.{◌∷◌, [], ◌++◌, map, ap, sym, ◌∙◌, refl, codes, slice_get, ExprDoc, text, p}
use Rattle.hir_pretty_nodes.proofs.Common.{when, name_docs, name_parts, pat_docs, type_docs, docs_of, enclose, env_of, lookups_of}
use Rattle.hir_pretty_nodes.proofs.Common.{adds, adds_at, at_none, at_as, at_then, at_found, at_absent, not_there}
use Rattle.hir_pretty_nodes.proofs.Common.{written_then, name_printed, name_size, expr_gives, first_gives, under_gives}
use Rattle.hir_pretty_nodes.proofs.Common.{pattern_gives, type_gives}
use Rattle.std.proofs.Common.{not}
use Rattle.hir_node.specs.declared.node_id.NodeId.TheVariants as node
use Rattle.hir_pretty_layout.specs.Layouts.{Text}
use Rattle.hir_pretty_nodes.proofs.printer.Printer.expand.Goals as goal

pub returns-in-Expr : goal.returns-in-Expr
returns-in-Expr g c =
    let p = c.args.self.now in rw c.in-Expr.is (expr_gives c.requires.fall refl c.in-Expr.id refl (c.add_expr.ensures (lookups_of p.tables.now) p.words.now p.one_line))

pub returns-in-ExprIn : goal.returns-in-ExprIn
returns-in-ExprIn g c =
    let p = c.args.self.now in
    let s = env_of p in
    let id = c.in-ExprIn.id in
    rw c.in-ExprIn.is (under_gives c.requires.fall refl id c.in-ExprIn.parent
    (at_as (ap (λ b. enclose b (docs_of s (node.Expr id))) c.stands_in_parentheses-is_enclosed.ensures)
    (at_then (at_then (adds_at c.add_if.ensures s) (c.add_expr-in-ExprIn.ensures (lookups_of p.tables.now) p.words.now p.one_line))
    (adds_at c.add_if-in-ExprIn.ensures s))))

pub returns-in-ExprList : goal.returns-in-ExprList
returns-in-ExprList g c =
    let p = c.args.self.now in
    rw c.in-ExprList.is (first_gives c.requires.fall refl c.in-ExprList.first _ refl
    (at_then (c.add_expr-in-ExprList.ensures (lookups_of p.tables.now) p.words.now p.one_line) (adds_at c.add_others.ensures (env_of p))))

pub returns-in-CoroutineBody : goal.returns-in-CoroutineBody
returns-in-CoroutineBody g c =
    let p = c.args.self.now in
    rw c.in-CoroutineBody.is (expr_gives c.requires.fall refl c.coroutine_body-body.result (ap (λ id. ExprDoc id ∷ []) (sym c.coroutine_body-body.ensures))
    (c.add_expr-in-CoroutineBody.ensures (lookups_of p.tables.now) p.words.now p.one_line))

pub returns-in-Pattern : goal.returns-in-Pattern
returns-in-Pattern g c =
    let pats = c.args.self.now.store.now.nodes.pats in
    rw c.in-Pattern.is (pattern_gives c.requires.fall refl c.in-Pattern.id
    (at_found pat_docs (slice_get pats c.in-Pattern.id) c.index.result.now c.index.ensures c.add_pat.ensures))

pub returns-in-Pattern-2 : goal.returns-in-Pattern-2
returns-in-Pattern-2 g c =
    let s = env_of c.args.self.now in
    let id = c.in-Pattern.id in
    rw c.in-Pattern.is (pattern_gives c.requires.fall refl id (at_absent (pat_docs s) (slice_get s.nodes.pats id)
    (not_there s.nodes.pats id c.has_pat.result c.has_pat.ensures c.if-has_pat.false)))

pub returns-in-Type : goal.returns-in-Type
returns-in-Type g c =
    let types = c.args.self.now.store.now.nodes.types in
    rw c.in-Type.is (type_gives c.requires.fall refl c.in-Type.id
    (at_found type_docs (slice_get types c.in-Type.id) c.index-in-Type.result.now c.index-in-Type.ensures c.add_type.ensures))

pub returns-in-Type-2 : goal.returns-in-Type-2
returns-in-Type-2 g c =
    let s = env_of c.args.self.now in
    let id = c.in-Type.id in
    rw c.in-Type.is (type_gives c.requires.fall refl id (at_absent (type_docs s) (slice_get s.nodes.types id)
    (not_there s.nodes.types id c.has_type.result c.has_type.ensures c.if-has_type.false)))

pub returns-then-is_short : goal.returns-then-is_short
returns-then-is_short g c =
    let s = env_of c.args.self.now in
    let f = c.in-FieldPat.field.now in
    rw c.in-FieldPat.is (written_then (name_docs s f.name) (map Text (name_parts s.words f.name)) (name_printed s f.name)
    (rw c.as_str.ensures at c.in_ok-write_name-in-FieldPat.ensures) refl at_none
    (ap (λ b. name_docs s f.name ++ when (not b) (text (codes ": ") ++ p f.pat)) (sym (c.is_short.ensures s refl refl) ∙ c.if-is_short.true)) (name_size s f.name))

pub returns-else-is_short : goal.returns-else-is_short
returns-else-is_short g c =
    let s = env_of c.args.self.now in
    let f = c.in-FieldPat.field.now in
    rw c.in-FieldPat.is (written_then (name_docs s f.name) (map Text (name_parts s.words f.name)) (name_printed s f.name)
    (rw c.as_str.ensures at c.in_ok-write_name-in-FieldPat.ensures) refl
    (adds_at (adds {is = λ t. text (codes ": ") ++ p f.pat} c.add.ensures (λ t. refl)) s)
    (ap (λ b. name_docs s f.name ++ when (not b) (text (codes ": ") ++ p f.pat)) (sym (c.is_short.ensures s refl refl) ∙ c.if-is_short.false)) (name_size s f.name))
