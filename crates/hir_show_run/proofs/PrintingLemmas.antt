-- What the printer returns of a body, over the tables that have the name of function 0.
use Rattle.std.proofs.Common.{◌≡◌, ℕ, List, Option, Some, None, Result, Ok, Err, false, sym, ap, subst, ◌∙◌, IfOk, String, string_bytes, unwrap_or}
use Rattle.std.specs.Cmp.Lexicographic.{nat_list_cmp_total}
use Rattle.std.specs.FinMap as map
use Rattle.hir_base.specs.Keys.{named_code}
use Rattle.hir_base.specs.declared.defs.NamedDef.TheVariants as named
use Rattle.hir_base.specs.RawWords.{words_of}
use Rattle.hir_base.specs.declared.defs.DefWithBodyId.TheVariants as body
use Rattle.hir_base.specs.declared.edition.Edition.TheVariants.{Edition2021}
use Rattle.hir_defs.specs.Lookups.{Tables}
use Rattle.hir_store_core.specs.declared.missing.Missing.{Missing}
use Rattle.hir_body.specs.Bodies.{BodyContents}
use Rattle.hir_pretty_nodes.specs.declared.fault.PrintFault.{PrintFault}
use Rattle.hir_pretty_nodes.specs.declared.fault.PrintFault.TheVariants as fault
use Rattle.hir_pretty_nodes.specs.TableLookups.{lookups_of}
use Rattle.hir_pretty_nodes.specs.DocPieces.{first_missing, text_of}
use Rattle.hir_pretty_nodes.specs.PrintResults.{PrintsPieces}
use Rattle.hir_pretty_nodes.specs.PrintEnvs.{print_env}
use Rattle.hir_pretty_nodes.specs.DocPieces.{doc_list_pieces}
use Rattle.hir_pretty.specs.Bodies.{body_docs}
use Rattle.hir_pretty.specs.FoundParts.{parents}
use Rattle.hir_show_run.specs.internal.OfLines.{AreOfLines}
use Rattle.hir_show_run.specs.internal.Printing.{name_of}
use Rattle.hir_show_run.specs.Printing.{tables_of, printed_from, body_pieces, body_text}
use Rattle.hir_show_run.proofs.OutsideLemmas.{nothing_missing}

-- the name that tables were made with
pub name_is : (t : Tables) (name : Option (List ℕ)) → t ≡ tables_of name → name_of t ≡ name
name_is t name e =
    let key = named_code (named.FunctionId 0) in
    ap name_of e ∙ ap (λ o. unwrap_or o None) (map.get-insert nat_list_cmp_total map.empty key name key)

-- what printing the body of a function returns over some tables
abbrev Printing : {Z : Type 0} → BodyContents → Tables → ℕ → Result (String Z) PrintFault → Type 0
Printing b t id result =
    PrintsPieces (print_env b.store (lookups_of t) (words_of t.words Edition2021) false)
    (doc_list_pieces (print_env b.store (lookups_of t) (words_of t.words Edition2021) false) (body_docs (print_env b.store (lookups_of t) (words_of t.words Edition2021) false) (parents t) (body.FunctionId id) b)) result

pub over_name : {Z : Type 0} (t : Tables) (name : Option (List ℕ)) (b : BodyContents) (id : ℕ) (result : Result (String Z) PrintFault) → t ≡ tables_of name → id ≡ 0
    → Printing b t id result → PrintsPieces (printed_from name b) (body_pieces name b) result
over_name t name b id result e z p = subst (λ u. Printing b u 0 result) e (subst (λ n. Printing b t n result) z p)

pub text_is : {Z : Type 0} (name : Option (List ℕ)) (b : BodyContents) (result : Result (String Z) PrintFault) (text : String Z) → PrintsPieces (printed_from name b) (body_pieces name b) result
    → result ≡ Ok text → string_bytes text ≡ body_text name b
unfolding body_text
text_is name b result text p e =
    (subst (λ r. IfOk r (λ text. (first_missing (body_pieces name b) ≡ None) × (string_bytes text ≡ text_of (printed_from name b) (body_pieces name b)))) e p.text).1

pub none_missing : {Z : Type 0} (name : Option (List ℕ)) (b : BodyContents) (result : Result (String Z) PrintFault) (m : Missing) → AreOfLines b.store.nodes
    → PrintsPieces (printed_from name b) (body_pieces name b) result → result ≡ Err (fault.Missing m) → ⊥
none_missing name b result m h p e =
    let bad : None ≡ Some m = sym (nothing_missing name b h) ∙ p.missing m e in cc
