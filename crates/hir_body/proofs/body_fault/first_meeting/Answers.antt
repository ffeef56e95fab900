use Rattle.std.proofs.Common.{None, Some, sym, ◌∙◌}
use Rattle.std.proofs.lemmas.Bool.{false≢true}
use Rattle.hir_body.proofs.BodySound.{under_told, root_told, apart_repeated, apart_under, apart_root, apart_none, none_under, root_not_under}
use Rattle.hir_body.proofs.body_fault.first_meeting.Goals as goal

pub returns-in-Some : goal.returns-in-Some
returns-in-Some c = apart_repeated c.args.store.now.nodes c.args.params.now c.args.root c.in-Some.fault c.in-Some.ensures.fault

pub returns-then-no_child_is_in : goal.returns-then-no_child_is_in
returns-then-no_child_is_in c =
    let s = c.args.store.now.nodes in
    let params = c.args.params.now in
    let falls = c.rank_decreases.ensures c.args.store.now c.has_no_fault.ensures in
    let apart = c.no_child_is_in.ensures.0 c.if-no_child_is_in.true in
    let under = none_under s params c.args.root c.in_ok-entry_nodes.entry_nodes c.add_formals.new.set c.add_expr.new.self c.in_ok-entry_nodes.ensures.sizes c.in_ok-entry_nodes.ensures.none c.in_default.ensures.added c.add_expr.ensures falls apart c.requires.formals in
    apart_none s params c.args.root c.in_default.ensures.fault under
    (root_not_under s params c.args.root c.in_ok-entry_nodes.entry_nodes c.add_formals.new.set c.add_expr.new.self c.in_ok-entry_nodes.ensures.sizes c.in_ok-entry_nodes.ensures.none c.in_default.ensures.added c.add_expr.ensures falls apart c.requires.root)

pub returns-in-Some-first_under : goal.returns-in-Some-first_under
returns-in-Some-first_under c =
    let s = c.args.store.now.nodes in
    let params = c.args.params.now in
    let under = under_told s params c.args.root c.in_ok-entry_nodes.entry_nodes c.add_formals.new.set c.add_expr.new.self c.in_ok-under.under c.in_ok-entry_nodes.ensures.sizes c.in_ok-entry_nodes.ensures.none c.in_default.ensures.added c.add_expr.ensures c.in_ok-under.ensures.under c.requires.formals (Some c.in-Some-first_under.fault) c.in-Some-first_under.ensures in
    apart_under s params c.args.root c.in-Some-first_under.fault c.in_default.ensures.fault under

pub returns-then-has_expr : goal.returns-then-has_expr
returns-then-has_expr c =
    let s = c.args.store.now.nodes in
    let params = c.args.params.now in
    let under = under_told s params c.args.root c.in_ok-entry_nodes.entry_nodes c.add_formals.new.set c.add_expr.new.self c.in_ok-under.under c.in_ok-entry_nodes.ensures.sizes c.in_ok-entry_nodes.ensures.none c.in_default.ensures.added c.add_expr.ensures c.in_ok-under.ensures.under c.requires.formals None c.in_default-first_under.ensures in
    let told = root_told s params c.args.root c.in_ok-entry_nodes.entry_nodes c.add_formals.new.set c.add_expr.new.self c.in_ok-under.under c.in_ok-entry_nodes.ensures.sizes c.in_ok-entry_nodes.ensures.none c.in_default.ensures.added c.add_expr.ensures c.in_ok-under.ensures.under c.requires.root in
    apart_root s params c.args.root c.in_default.ensures.fault under (told.0 (c.has_expr.ensures.0 c.if-has_expr.true))

pub returns : goal.returns
returns c =
    let s = c.args.store.now.nodes in
    let params = c.args.params.now in
    let under = under_told s params c.args.root c.in_ok-entry_nodes.entry_nodes c.add_formals.new.set c.add_expr.new.self c.in_ok-under.under c.in_ok-entry_nodes.ensures.sizes c.in_ok-entry_nodes.ensures.none c.in_default.ensures.added c.add_expr.ensures c.in_ok-under.ensures.under c.requires.formals None c.in_default-first_under.ensures in
    let told = root_told s params c.args.root c.in_ok-entry_nodes.entry_nodes c.add_formals.new.set c.add_expr.new.self c.in_ok-under.under c.in_ok-entry_nodes.ensures.sizes c.in_ok-entry_nodes.ensures.none c.in_default.ensures.added c.add_expr.ensures c.in_ok-under.ensures.under c.requires.root in
    apart_none s params c.args.root c.in_default.ensures.fault under (λ l. false≢true (sym c.if-has_expr.false ∙ c.has_expr.ensures.1 (told.1 l)))
