-- The names that proofs of printing cite, passed on from one place. Declares nothing.
pub use Rattle.std.proofs.Common.{refl, sym, subst, ◌≡◌, [], ◌∙◌, arith, ◌∷◌, map, slice_get, ap, codes, ◌++◌, Err, length}
pub use Rattle.std.proofs.lemmas.Result.{on_ok_weaker, err_from_is_err_and}
pub use Rattle.hir_pretty_docs.proofs.AddLemmas.{adds, adds_more}
pub use Rattle.hir_pretty_nodes.specs.Prelude.{ExprDoc, text, p, when, name_docs, name_parts, pat_docs, type_docs, docs_one_by_one, docs_of, doc_list_pieces, is_word, plain_pieces, found_pieces, enclose, print_env, lookups_of, env_of, stacked}
pub use Rattle.hir_pretty_nodes.proofs.DocsDecrease.{docs_decrease}
pub use Rattle.hir_pretty_nodes.proofs.PieceLemmas.{name_printed, plain_printed, found_printed, pieces_put}
pub use Rattle.hir_pretty_nodes.proofs.StepLemmas.{pieces_at}
pub use Rattle.hir_pretty_nodes.proofs.SizeLemmas.{name_size}
pub use Rattle.hir_pretty_nodes.proofs.LoopLemmas.{not_there, adds_at, at_none, at_as, at_then, at_found, at_absent, written, written_then, expr_gives, first_gives, pattern_gives, type_gives, under_gives, comes_taken, comes_written, comes_missing, turned_over, comes_expanded, less_expanded, comes_missed, comes_over, never_turned, writes_all, writes_fault, added_to, prints}
