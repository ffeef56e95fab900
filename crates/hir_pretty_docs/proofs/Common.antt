-- The names that proofs of documents and tokens cite, passed on from one place. Declares nothing.
pub use Rattle.std.proofs.Common.{option_copied, refl, rules, sym, subst, ◌≡◌, ◌∙◌, arith, map, drop, flat_map, ap, ap₂, ◌-◌, ◌<◌, ◌&&◌, ◌||◌, not, ◌==◌, ◌++◌, ◌∷◌, [], ℕ, false, length, take, get_or, nat_lt, codes, Ok, append-nil, append_assoc}
pub use Rattle.std.specs.List.{enumerate_from, list_any}
pub use Rattle.std.proofs.lemmas.Result.{on_ok_weaker}
pub use Rattle.hir_pretty_docs.specs.Prelude.{PrintEnv, field_pattern, e, t, p, br, opt, type_param_docs, stood_after, field_patterns, text, params, comma_joined, following, sp, label_before, unsafe_docs, inside_block, segments_from, supers, when, join, arg_docs, assoc_docs, name_docs, binding_docs, Adds, after_last, ending_docs, spread_docs, closure_head, capture_keyword, start_docs, extern_docs, with_rest, header}
pub use Rattle.hir_pretty_docs.proofs.AddLemmas.{checked, adds, adds_none, adding, adds_then, adds_more, adds_as, left_begins, left_goes_on, left_ends, AddsRest}
pub use Rattle.hir_pretty_docs.proofs.ArgsDocs.{assoc_docs_is}
pub use Rattle.hir_pretty_docs.proofs.FieldLemmas.{field_step, no_fields, param_step, no_args, no_types}
pub use Rattle.hir_pretty_docs.proofs.ListLemmas.{each_step, each_ends, parts, following_joined, following_step, following_ends}
pub use Rattle.hir_pretty_docs.proofs.OrderLemmas.{none_is, some_statements, some_arguments, some_elements, rest_is, braces_after, bounds_is, slice_is, segment_alone, segment_with, supers_more, supers_last, filled, args_is, bound_to, barred_header}
pub use Rattle.hir_pretty_docs.proofs.SignatureLemmas.{signature_is}
