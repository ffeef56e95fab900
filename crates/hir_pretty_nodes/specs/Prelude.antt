-- The words that contracts of printing cite, passed on from one place. Declares nothing.
pub use Rattle.hir_base.specs.RawWords.{words_of}
pub use Rattle.hir_node.specs.declared.node_id.NodeId.{NodeId}
pub use Rattle.hir_pretty_docs.specs.Prelude.{Missing, NameLookups, PrintEnv, Doc, Put, MissingDoc, ExprDoc, ExprIn, Pattern, TypeDoc, text, sp, br, into, out, e, under, p, t, opt, when, join, comma_joined, with_number}
pub use Rattle.hir_pretty_docs.specs.Prelude.{same_text, is_word, raw_parts, name_parts, printed_name, name_docs, param_docs, lifetime_docs, l, label_docs, annotation_docs, of_binding, binding_docs}
pub use Rattle.hir_pretty_docs.specs.Prelude.{for_names, modifier_docs, use_docs, bound_docs, bounds_docs, bounds_after, arg_docs, each_arg, turbofish, type_after, binding_layer, args_layer, args_docs, assoc_docs, found_name, target_docs, supers, kind_docs, colons_first, segments_from, start_docs, path_docs}
pub use Rattle.hir_pretty_docs.specs.Prelude.{type_param_docs, extern_docs, varargs_docs, all_but_last, last, signature_docs, fn_docs, type_docs, bool_text, literal_docs}
pub use Rattle.hir_pretty_docs.specs.Prelude.{label_before, to_label, operand, each_line, in_lines, arguments, arm_docs, field_docs, spread_docs, raw_keyword, operator_docs, array_docs, statement_docs, unsafe_docs, inside_block, coroutine_keyword, movability_keyword, closure_head, capture_keyword, params, header, of_coroutine, coroutine_body, printed_body, expr_docs}
pub use Rattle.hir_pretty_docs.specs.Prelude.{with_rest, in_parentheses, has_printed_name, is_short, field_pattern, after_last, field_patterns, pat_docs}
pub use Rattle.hir_pretty_docs.specs.Prelude.{ending_docs, exprs_docs, lookup_docs, stands_for, is_plain, is_node, docs_of_tokens, stood_after, docs_one_by_one, following, above, Adds, AddsTokens}
pub use Rattle.hir_pretty_nodes.specs.DocPieces.{DocPiece, Present, Absent, docs_of, is_chain, stands_in_parentheses, precedence_found, with_parentheses, doc_pieces, pieces_step, doc_list_pieces, path_pieces, first_missing, layout, format_of, text_of}
unfoldable pub use Rattle.hir_pretty_nodes.specs.DocPieces.{pieces}
pub use Rattle.hir_pretty_nodes.specs.DocNodes.{AllNodes, DocsDecrease}
pub use Rattle.hir_pretty_nodes.specs.PrintEnvs.{print_env}
pub use Rattle.hir_pretty_nodes.specs.PrintResults.{PrintsPieces, WritesPieces}
pub use Rattle.hir_pretty_nodes.specs.Sizes.{total, doc_size, node_size_step, size}
unfoldable pub use Rattle.hir_pretty_nodes.specs.Sizes.{node_size}
pub use Rattle.hir_pretty_nodes.specs.TableLookups.{found_or, lookups_of}
pub use Rattle.hir_pretty_nodes.specs.Printing.{Printing, env_of, printing_of, begun, on_page, AddsTo}
pub use Rattle.hir_pretty_nodes.specs.internal.Found.{found_docs, FindsAt, Finds}
pub use Rattle.hir_pretty_nodes.specs.internal.Names.{first_if, texts_of}
pub use Rattle.hir_pretty_nodes.specs.internal.Pieces.{put_pieces, last_field_end, plain_pieces, found_pieces}
pub use Rattle.hir_pretty_nodes.specs.internal.Steps.{Stacked, stacked, all_printed, enclose, AddsAt, AddsIn, PrintsAlike, WritesToken, ExpandsToken, ComesTo, NextNode}
unfoldable pub use Rattle.hir_pretty_nodes.specs.internal.Steps.{printing}
