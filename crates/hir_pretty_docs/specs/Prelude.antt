-- The words that contracts on documents and tokens cite, passed on from one place. Declares nothing.
pub use Rattle.hir_store_core.specs.declared.missing.Missing.{Missing}
pub use Rattle.hir_pretty_docs.specs.NameLookups.{NameLookups, PrintEnv}
pub use Rattle.hir_pretty_docs.specs.Docs.{Doc, Put, MissingDoc, ExprDoc, ExprIn, Pattern, TypeDoc, text, sp, br, into, out, e, under, p, t, opt, when, join, comma_joined, with_number}
pub use Rattle.hir_pretty_docs.specs.Names.{same_text, is_word, raw_parts, name_parts, printed_name, name_docs, param_docs, lifetime_docs, l, label_docs, annotation_docs, of_binding, binding_docs}
pub use Rattle.hir_pretty_docs.specs.Paths.{for_names, modifier_docs, use_docs, bound_docs, bounds_docs, bounds_after, arg_docs, each_arg, turbofish, type_after, binding_layer, args_layer, args_docs, assoc_docs, found_name, target_docs, supers, kind_docs, colons_first, segments_from, start_docs, path_docs}
pub use Rattle.hir_pretty_docs.specs.Types.{type_param_docs, extern_docs, varargs_docs, all_but_last, last, signature_docs, fn_docs, type_docs}
pub use Rattle.hir_pretty_docs.specs.Literals.{bool_text, literal_docs}
pub use Rattle.hir_pretty_docs.specs.Exprs.{label_before, to_label, operand, each_line, in_lines, arguments, arm_docs, field_docs, spread_docs, raw_keyword, operator_docs, array_docs, statement_docs, unsafe_docs, inside_block, coroutine_keyword, movability_keyword, closure_head, capture_keyword, params, header, of_coroutine, coroutine_body, printed_body, expr_docs}
pub use Rattle.hir_pretty_docs.specs.Pats.{with_rest, in_parentheses, has_printed_name, is_short, field_pattern, after_last, field_patterns, pat_docs}
pub use Rattle.hir_pretty_docs.specs.Tokens.{ending_docs, exprs_docs, lookup_docs, stands_for, is_plain, is_node, docs_of_tokens, stood_after, docs_one_by_one, following, above, Adds, AddsTokens}
