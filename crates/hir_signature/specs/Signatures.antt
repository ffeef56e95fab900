-- The ids that a signature names, when they fit its store, and the first fault of its parts.
use Rattle.std.specs.Prelude.{◌<◌, ◌&&◌, ◌∷◌, ◌++◌}
use Rattle.hir_signature.specs.Prelude.{Bool, true, List, [], All, Option, Some, None, IfSome, IsTrue, length, map, nat_lt, list_all, TypeRefId, root_nodes, ◌unless◌, ◌before◌, Call, a, t, l, opt, bound_calls, NodeId, is_in_range, is_path_at, bound_paths, bound_fits, Nodes, sizes_of, Contents, IsReached, reached_nodes}
use Rattle.hir_node.specs.declared.node_id.NodeId.TheVariants as node
use Rattle.hir_signature.specs.declared.any_param.TypeOrConstParamData.{TypeOrConstParamData}
use Rattle.hir_signature.specs.declared.any_param.TypeOrConstParamData.TheVariants as either
use Rattle.hir_signature.specs.declared.predicate.WherePredicate.{WherePredicate}
use Rattle.hir_signature.specs.declared.predicate.WherePredicate.TheVariants as predicate
use Rattle.hir_signature.specs.Generics.{Generics}
use Rattle.hir_signature.specs.declared.signature_fault.SignatureFault.{SignatureFault}
use Rattle.hir_signature.specs.declared.signature_fault.SignatureFault.TheVariants.{IdOutOfRange, NotAPath}
use Rattle.hir_signature.specs.declared.signatures.FieldData.{FieldData}
use Rattle.hir_signature.specs.declared.signatures.FunctionParts.{FunctionParts}
use Rattle.hir_signature.specs.declared.signatures.StructParts.{StructParts}
use Rattle.hir_signature.specs.declared.signatures.VariantParts.{VariantParts}
use Rattle.hir_signature.specs.declared.signatures.PlainParts.{PlainParts}

-- the entry nodes of a signature over this store: its listed roots
abbrev pub root_entry_nodes : Contents → List NodeId
root_entry_nodes c = map node.Expr (root_nodes c.roots)

-- the signature reaches the node: it is a descendant of a root
abbrev pub SignatureReaches : Contents → NodeId → Type 0
SignatureReaches c n = IsReached c.nodes (root_entry_nodes c) n

-- the nodes that a signature reaches: the descendants of the first root, of the second and so on
abbrev pub signature_nodes : Contents → List NodeId
signature_nodes c = reached_nodes c.nodes (root_entry_nodes c)

-- the calls of the ids that a parameter names: a default, the type of a constant
abbrev pub param_calls : TypeOrConstParamData → List Call
param_calls (either.TypeParamData p) = opt t p.default
param_calls (either.ConstParamData p) = t p.ty ++ opt (λ c. a c.expr) p.default

-- the calls of the ids that a predicate names
abbrev pub predicate_calls : WherePredicate → List Call
predicate_calls (predicate.TypeBound lifetimes target bound) = t target ++ bound_calls bound
predicate_calls (predicate.Lifetime target bound) = l target ++ l bound

-- the types that a predicate names as paths
abbrev pub predicate_paths : WherePredicate → List TypeRefId
predicate_paths (predicate.TypeBound lifetimes target bound) = bound_paths bound
predicate_paths (predicate.Lifetime target bound) = []

-- the calls of the ids that a field names: its type and its default
abbrev pub field_calls : FieldData → List Call
field_calls f = t f.type_ref ++ opt a f.default_value

-- a parameter, a predicate, a field fits the store: each id that it names exists, and a bound fits
abbrev pub ParamFits : Nodes → TypeOrConstParamData → Type 0
ParamFits s (either.TypeParamData p) = IfSome p.default (λ id. id < length s.types)
ParamFits s (either.ConstParamData p) =
    (p.ty < length s.types) × IfSome p.default (λ c. c.expr < length s.exprs)

abbrev pub PredicateFits : Nodes → WherePredicate → Type 0
PredicateFits s (predicate.TypeBound lifetimes target bound) =
    (target < length s.types) × IsTrue (bound_fits s bound)
PredicateFits s (predicate.Lifetime target bound) =
    (target < length s.lifetimes) × (bound < length s.lifetimes)

abbrev pub FieldFits : Nodes → FieldData → Type 0
FieldFits s f = (f.type_ref < length s.types) × IfSome f.default_value (λ id. id < length s.exprs)

-- each parameter and each predicate fits
abbrev pub GenericsFit : Nodes → Generics → Type 0
GenericsFit s g = All (ParamFits s) g.type_or_consts × All (PredicateFits s) g.predicates

-- each id that these calls name exists
abbrev pub all_in_range : Nodes → List Call → Bool
all_in_range s calls = list_all (is_in_range (sizes_of s)) calls

-- each id of parameters and predicates exists
abbrev pub generics_in_range : Nodes → Generics → Bool
generics_in_range s g =
    list_all (λ p. all_in_range s (param_calls p)) g.type_or_consts
    && list_all (λ w. all_in_range s (predicate_calls w)) g.predicates

-- each type that predicates name as a path is a path
abbrev pub generics_name_paths : Nodes → Generics → Bool
generics_name_paths s g = list_all (λ w. list_all (is_path_at s.types) (predicate_paths w)) g.predicates

-- an id doesn't exist, or else what is named as a path isn't one
unfoldable pub ids_fault : Bool → Bool → Option SignatureFault → Type 0
ids_fault in_range paths = (IdOutOfRange unless IsTrue in_range) before (NotAPath unless IsTrue paths)

-- each of these types exists
abbrev pub types_in_range : Nodes → List TypeRefId → Bool
types_in_range s ids = list_all (λ id. nat_lt id (length s.types)) ids

-- the first fault of each kind of signature
abbrev pub function_fault : FunctionParts → Option SignatureFault → Type 0
function_fault p =
    ids_fault
    (generics_in_range p.store.nodes p.generic_params && types_in_range p.store.nodes p.params
    && all_in_range p.store.nodes (opt t p.ret_type))
    (generics_name_paths p.store.nodes p.generic_params)

abbrev pub struct_fault : StructParts → Option SignatureFault → Type 0
struct_fault p =
    ids_fault
    (generics_in_range p.store.nodes p.generic_params)
    (generics_name_paths p.store.nodes p.generic_params)

abbrev pub fields_fault : VariantParts → Option SignatureFault → Type 0
fields_fault p = ids_fault (list_all (λ f. all_in_range p.store.nodes (field_calls f)) p.fields) true

abbrev pub plain_fault : PlainParts → Option SignatureFault → Type 0
plain_fault p =
    ids_fault
    (generics_in_range p.store.nodes p.generic_params)
    (generics_name_paths p.store.nodes p.generic_params)
