-- What is printed of what was found, and of what is missing.
use Rattle.std.specs.Prelude.{◌≡◌, Bool, List, [], ◌∷◌, ◌++◌, ℕ, Result, IfOk, IfErr, codes, decimal}
use Rattle.hir_store_core.specs.{Contents.Contents, declared.missing.Missing.Missing}
use Rattle.hir_pretty_docs.specs.{NameLookups.NameLookups, NameLookups.PrintEnv, Docs.Doc, Docs.MissingDoc, Docs.text, Names.name_docs}
use Rattle.hir_pretty_docs.specs.Names.{of_binding}
use Rattle.hir_pretty_nodes.specs.{PrintEnvs.print_env, declared.lookups.Found.Found}
use Rattle.hir_pretty_nodes.specs.declared.lookups.Found.TheVariants as found

abbrev pub found_docs : PrintEnv → Found → List Doc
found_docs s found.Nothing = []
found_docs s (found.Text x) = text x.now
found_docs s (found.Name name) = name_docs s name.now
found_docs s (found.Param n) = text (codes "Param[") ++ text (decimal n) ++ text (codes "]")
found_docs s (found.Binding binding) = of_binding s binding.now

-- these documents are those of what was found, or say what is missing
pub record FindsAt (s : PrintEnv) (docs : List Doc) (result : Result Found Missing) : Type 0 where
  pub found : IfOk result (λ found. found_docs s found ≡ docs)
  pub absent : IfErr result (λ missing. docs ≡ MissingDoc missing ∷ [])

abbrev pub Finds : Contents → NameLookups → (PrintEnv → List Doc) → Result Found Missing → Type 0
Finds store tables docs result = (words : List (List ℕ)) (one_line : Bool)
    → let s = print_env store tables words one_line in FindsAt s (docs s) result
