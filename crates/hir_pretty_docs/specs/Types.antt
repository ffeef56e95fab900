-- What types are printed as.
use Rattle.std.specs.Prelude.{ℕ, Bool, true, false, List, [], ◌∷◌, ◌++◌, map, Option, Some, None, Result, Ok, Err, codes, decimal}
use Rattle.hir_base.specs.Abi.{abi_text}
use Rattle.hir_base.specs.declared.{abi.ExternAbi.ExternAbi, prec.ExprPrecedence.TheVariants.Unambiguous}
use Rattle.hir_base.specs.declared.abi.ExternAbi.TheVariants as abi
use Rattle.hir_path.specs.NodeIds.{TypeRefId}
use Rattle.hir_node.specs.declared.{type_ref.FnType.FnType, type_ref.TypeRef.TypeRef}
use Rattle.hir_node.specs.declared.type_ref.TypeRef.TheVariants as type
use Rattle.hir_node.specs.Keywords.{ref_keyword, ptr_keyword}
use Rattle.hir_store_core.specs.declared.missing.Missing.{Missing}
use Rattle.hir_pretty_docs.specs.NameLookups.{PrintEnv}
use Rattle.hir_pretty_docs.specs.Docs.{Doc, MissingDoc, text, under, p, t, opt, when, comma_joined}
use Rattle.hir_pretty_docs.specs.Names.{name_docs, l}
use Rattle.hir_pretty_docs.specs.Paths.{path_docs, bounds_docs, for_names}

-- a type parameter: its name, or its number
abbrev pub type_param_docs : PrintEnv → ℕ → Result (Option (List ℕ)) Missing → List Doc
type_param_docs s id (Ok (Some name)) = name_docs s name
type_param_docs s id (Ok None) = text (codes "Param[") ++ text (decimal id) ++ text (codes "]")
type_param_docs s id (Err missing) = MissingDoc missing ∷ []

-- `extern` and a calling convention, unless it is that of Rust
abbrev pub extern_docs : ExternAbi → List Doc
extern_docs abi.Rust = []
extern_docs other = text (codes "extern ") ++ text (abi_text other) ++ text (codes " ")

-- `...` after the parameters
abbrev pub varargs_docs : Bool → List TypeRefId → List Doc
varargs_docs false params = []
varargs_docs true [] = text (codes "...")
varargs_docs true (param ∷ params) = text (codes ", ") ++ text (codes "...")

-- all but the last
abbrev pub all_but_last : List TypeRefId → List TypeRefId
all_but_last [] = []
all_but_last (x ∷ []) = []
all_but_last (x ∷ y ∷ xs) = x ∷ all_but_last (y ∷ xs)

abbrev pub last : List TypeRefId → List Doc
last [] = []
last (x ∷ []) = t x
last (x ∷ y ∷ xs) = last (y ∷ xs)

-- a function type by the types of its parameters and, last, of its result
abbrev pub signature_docs : Bool → List TypeRefId → List Doc
signature_docs varargs types =
    text (codes "fn(") ++ comma_joined (map t (all_but_last types))
    ++ varargs_docs varargs (all_but_last types)
    ++ text (codes ") -> ") ++ last types

abbrev pub fn_docs : PrintEnv → FnType → List Doc
fn_docs s f =
    opt (for_names s) f.binder ++ when f.is_unsafe (text (codes "unsafe ")) ++ extern_docs f.abi
    ++ signature_docs f.is_varargs (map (λ (entry : Option (List ℕ) × TypeRefId). entry.1) f.params)

abbrev pub type_docs : PrintEnv → TypeRef → List Doc
type_docs s type.Never = text (codes "!")
type_docs s type.Placeholder = text (codes "_")
type_docs s type.Error = text (codes "{error}")
type_docs s (type.TypeParam id) = type_param_docs s id.local_id (s.tables.type_param id)
type_docs s (type.Tuple types) = text (codes "(") ++ comma_joined (map t types) ++ text (codes ")")
type_docs s (type.Slice id) = text (codes "[") ++ t id ++ text (codes "]")
type_docs s (type.RawPtr id mutability) = text (codes "*") ++ text (ptr_keyword mutability) ++ t id
type_docs s (type.Reference r) = text (codes "&") ++ opt (λ id. l s id ++ text (codes " ")) r.lifetime
    ++ text (ref_keyword r.mutability) ++ t r.ty
type_docs s (type.Array a) = text (codes "[") ++ t a.ty ++ text (codes "; ") ++ under Unambiguous a.len.expr
    ++ text (codes "]")
type_docs s (type.Fn f) = fn_docs s f
type_docs s (type.ImplTrait bounds) = text (codes "impl ") ++ bounds_docs s bounds
type_docs s (type.DynTrait bounds) = text (codes "dyn ") ++ bounds_docs s bounds
type_docs s (type.PatternType id pat) = t id ++ text (codes " is ") ++ p pat
type_docs s (type.Path path) = path_docs s path
