-- What the signatures of functions and structs are printed as.
use Rattle.std.specs.Prelude.{◌==◌, ◌∷◌, ◌++◌}
use Rattle.hir_pretty.specs.Prelude.{ℕ, Bool, false, List, [], map, Option, Some, None, codes, decimal, enumerate_from, list_any, Name, abi_text, ExternAbi, TypeRefId, LifetimeParamData, TypeOrConstParamData, WherePredicate, Generics, FieldsShape, FunctionParts, StructParts, Repr, PrintEnv, Doc, text, br, into, out, e, t, opt, when, join, comma_joined, with_number, name_docs, l, bound_docs, for_names}
use Rattle.hir_base.specs.declared.abi.ExternAbi.TheVariants as abi
use Rattle.hir_signature.specs.declared.any_param.TypeOrConstParamData.TheVariants as param
use Rattle.hir_signature.specs.declared.predicate.WherePredicate.TheVariants as predicate
use Rattle.hir_signature.specs.declared.signatures.FieldsShape.TheVariants as shape

-- 1. Generic parameters

abbrev pub type_name : PrintEnv → ℕ → Option Name → List Doc
type_name s at None = text (codes "Param[") ++ text (decimal at) ++ text (codes "]")
type_name s at (Some name) = name_docs s name

-- a type or a constant in its place, with its default
abbrev pub generic_param_docs : PrintEnv → ℕ → TypeOrConstParamData → List Doc
generic_param_docs s at (param.ConstParamData c) =
    text (codes "const ") ++ name_docs s c.name ++ text (codes ": ") ++ t c.ty
    ++ opt (λ d. text (codes " = ") ++ e d.expr) c.default
generic_param_docs s at (param.TypeParamData p) =
    type_name s at p.name ++ opt (λ d. text (codes " = ") ++ t d) p.default

abbrev pub each_lifetime : PrintEnv → List LifetimeParamData → List (List Doc)
each_lifetime s lifetimes = map (λ lifetime. name_docs s lifetime.name) lifetimes

abbrev pub each_type_or_const : PrintEnv → List (ℕ × TypeOrConstParamData) → List (List Doc)
each_type_or_const s params = map (λ entry. generic_param_docs s entry.0 entry.1) params

-- the lifetimes, and then the types and constants in their places
abbrev pub each_param : PrintEnv → Generics → List (List Doc)
each_param s g = each_lifetime s g.lifetimes ++ each_type_or_const s (enumerate_from 0 g.type_or_consts)

abbrev pub in_angles : List (List Doc) → List Doc
in_angles [] = []
in_angles (x ∷ xs) = text (codes "<") ++ comma_joined (x ∷ xs) ++ text (codes ">")

abbrev pub generics_docs : PrintEnv → Generics → List Doc
generics_docs s g = in_angles (each_param s g)

-- 2. Predicates

abbrev pub predicate_docs : PrintEnv → WherePredicate → List Doc
predicate_docs s (predicate.TypeBound lifetimes target bound) =
    opt (for_names s) lifetimes ++ t target ++ text (codes ": ") ++ bound_docs s bound
predicate_docs s (predicate.Lifetime target bound) = l s target ++ text (codes ": ") ++ l s bound

-- predicates are on lines of their own
abbrev pub each_predicate : PrintEnv → List WherePredicate → List Doc
each_predicate s predicates = join (text (codes ",\n")) (map (predicate_docs s) predicates)

abbrev pub where_docs : PrintEnv → List WherePredicate → List Doc
where_docs s [] = []
where_docs s (x ∷ xs) = text (codes "\nwhere\n") ++ into ++ each_predicate s (x ∷ xs) ++ out ++ br

-- 3. Functions

abbrev pub quoted_abi : ExternAbi → List Doc
quoted_abi abi = text (codes "extern \"") ++ text (abi_text abi) ++ text (codes "\" ")

abbrev pub abi_docs : ExternAbi → List Doc
abi_docs abi.Rust = []
abi_docs other = quoted_abi other

-- whether the argument in this place is given to a constant parameter
abbrev pub is_listed : Option (List ℕ) → ℕ → Bool
is_listed None at = false
is_listed (Some places) at = list_any (λ place. place == at) places

abbrev pub argument_docs : Option (List ℕ) → ℕ × TypeRefId → List Doc
argument_docs places entry = when (is_listed places entry.0) (text (codes "const: ")) ++ t entry.1

abbrev pub arguments : Option (List ℕ) → List TypeRefId → List Doc
arguments places types = comma_joined (map (argument_docs places) (enumerate_from 0 types))

abbrev pub flags : FunctionParts → List Doc
flags f =
    when f.is_const (text (codes "const ")) ++ when f.is_async (text (codes "async "))
    ++ when f.is_unsafe (text (codes "unsafe "))
    ++ when f.is_explicit_safe (text (codes "safe "))

-- all up to the generic parameters; the types of the arguments and of the result
abbrev pub function_head : PrintEnv → FunctionParts → List Doc
function_head s f = flags f ++ abi_docs f.abi ++ text (codes "fn ") ++ name_docs s f.name
    ++ generics_docs s f.generic_params

abbrev pub function_types : FunctionParts → List Doc
function_types f =
    text (codes "(") ++ arguments f.legacy_const_indices f.params ++ text (codes ")")
    ++ opt (λ ret. text (codes " -> ") ++ t ret) f.ret_type

abbrev pub function_docs : PrintEnv → FunctionParts → List Doc
function_docs s f = function_head s f ++ function_types f ++ where_docs s f.generic_params.predicates
    ++ text (codes " {...}") ++ br

-- 4. Structs

abbrev pub repr_docs : Option Repr → List Doc
repr_docs None = []
repr_docs (Some r) =
    when r.c (text (codes "#[repr(C)]") ++ br)
    ++ opt (λ n. text (codes "#[repr(align(") ++ text (decimal n) ++ text (codes "))]") ++ br) r.align
    ++ opt (λ n. text (codes "#[repr(pack(") ++ text (decimal n) ++ text (codes "))]") ++ br) r.pack

abbrev pub shape_begin : FieldsShape → List Doc
shape_begin shape.Record = text (codes " {...}") ++ br
shape_begin shape.Tuple = text (codes "(...)") ++ br
shape_begin shape.Unit = []

abbrev pub shape_end : FieldsShape → List Doc
shape_end shape.Record = br
shape_end other = text (codes ";") ++ br

abbrev pub struct_head : PrintEnv → Option Repr → StructParts → List Doc
struct_head s repr x =
    repr_docs repr ++ when x.is_fundamental (text (codes "#[fundamental]") ++ br) ++ text (codes "struct ")
    ++ name_docs s x.name
    ++ generics_docs s x.generic_params

abbrev pub struct_docs : PrintEnv → Option Repr → StructParts → List Doc
struct_docs s repr x = struct_head s repr x ++ shape_begin x.shape
    ++ where_docs s x.generic_params.predicates ++ shape_end x.shape

-- 5. Any other definition

abbrev pub unimplemented_docs : List ℕ → ℕ → List Doc
unimplemented_docs kind id = text (codes "unimplemented ") ++ with_number kind id
