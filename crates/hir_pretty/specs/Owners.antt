-- What printing the signature of any definition returns.
use Rattle.std.specs.Prelude.{◌≡◌, ◌∷◌}
use Rattle.hir_pretty.specs.Prelude.{ℕ, false, List, [], Option, Some, None, Result, Err, codes, String, FunctionId, StructId, AdtId, GenericDefId, FunctionParts, StructParts, Tables, PrintFault, PrintEnv, print_env, lookups_of, PrintsPieces, doc_list_pieces}
use Rattle.hir_pretty.specs.FoundParts.{function_found, struct_found}
use Rattle.hir_pretty.specs.Signatures.{function_docs, struct_docs, unimplemented_docs}
use Rattle.std.specs.FinMap as map
use Rattle.hir_base.specs.declared.defs.AdtId.TheVariants as adt
use Rattle.hir_base.specs.declared.defs.GenericDefId.TheVariants as generic
use Rattle.hir_store_core.specs.declared.missing.Missing.TheVariants as missing
use Rattle.hir_pretty_nodes.specs.declared.fault.PrintFault.TheVariants as fault

-- The signature of a function: it is missing, or its doc pieces are printed, with the signature's own store.
abbrev pub PrintsFunction : {Z : Type 0} → Tables → List (List ℕ) → FunctionId → Option FunctionParts
    → Result (String Z) PrintFault → Type 0
PrintsFunction t words id None result = result
    ≡ Err (fault.Missing (missing.Signature (generic.FunctionId id)))
PrintsFunction t words id (Some f) result = let s = print_env f.store (lookups_of t) words false in
    PrintsPieces s (doc_list_pieces s (function_docs s f)) result

-- The signature of a struct: it is missing, or its doc pieces are printed, with the signature's own store.
abbrev pub PrintsStruct : {Z : Type 0} → Tables → List (List ℕ) → StructId → Option StructParts
    → Result (String Z) PrintFault → Type 0
PrintsStruct t words id None result = result ≡ Err
    (fault.Missing (missing.Signature (generic.AdtId (adt.StructId id))))
PrintsStruct t words id (Some x) result =
    let s = print_env x.store (lookups_of t) words false in
    PrintsPieces s (doc_list_pieces s (struct_docs s (map.get t.reprs (id ∷ [])) x)) result

-- The signature of any other definition, of which nothing is looked up: in lines, whatever else is set.
abbrev pub PrintsOther : {Z : Type 0} → List ℕ → ℕ → Result (String Z) PrintFault → Type 0
PrintsOther kind id result = (s : PrintEnv) → s.one_line ≡ false
    → PrintsPieces s (doc_list_pieces s (unimplemented_docs kind id)) result

abbrev pub PrintsAdt : {Z : Type 0} → Tables → List (List ℕ) → AdtId → Result (String Z) PrintFault → Type 0
PrintsAdt t words (adt.StructId id) result = PrintsStruct t words id (struct_found t id) result
PrintsAdt t words (adt.UnionId id) result = PrintsOther (codes "UnionId") id result
PrintsAdt t words (adt.EnumId id) result = PrintsOther (codes "EnumId") id result

abbrev pub PrintsSignature : {Z : Type 0} → Tables → List (List ℕ) → GenericDefId
    → Result (String Z) PrintFault → Type 0
PrintsSignature t words (generic.AdtId id) result = PrintsAdt t words id result
PrintsSignature t words (generic.ConstId id) result = PrintsOther (codes "ConstId") id result
PrintsSignature t words (generic.FunctionId id) result =
    PrintsFunction t words id (function_found t id) result
PrintsSignature t words (generic.ImplId id) result = PrintsOther (codes "ImplId") id result
PrintsSignature t words (generic.StaticId id) result = PrintsOther (codes "StaticId") id result
PrintsSignature t words (generic.TraitId id) result = PrintsOther (codes "TraitId") id result
PrintsSignature t words (generic.TypeAliasId id) result = PrintsOther (codes "TypeAliasId") id result
