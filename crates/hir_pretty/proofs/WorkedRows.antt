-- Worked bodies, fields and signatures, and the texts that their doc pieces give.
use Rattle.std.proofs.Common.{◌≡◌, ℕ, true, false, List, [], ◌∷◌, Option, Some, None, refl, codes, pos, Result, Ok, Err}
use Rattle.std.specs.Fmt.{digits}
use Rattle.hir_forest.specs.{Height.height, declared.roots.Root.Root}
use Rattle.hir_base.specs.declared.hygiene.SyntaxContext.TheVariants as context
use Rattle.hir_base.specs.declared.edition.Edition.TheVariants as edition
use Rattle.hir_base.specs.declared.abi.ExternAbi.TheVariants as abi
use Rattle.hir_base.specs.declared.{defs.DefWithBodyId.DefWithBodyId, defs.NamedDef.NamedDef}
use Rattle.hir_base.specs.declared.defs.DefWithBodyId.TheVariants as body
use Rattle.hir_base.specs.declared.defs.NamedDef.TheVariants as named
use Rattle.hir_base.specs.declared.defs.VariantId.TheVariants as variant
use Rattle.hir_base.specs.declared.defs.GenericDefId.TheVariants as generic
use Rattle.hir_base.specs.declared.mod_path.PathKind.TheVariants as kind
use Rattle.hir_path.specs.declared.path.Path.{Path}
use Rattle.hir_path.specs.declared.path.Path.TheVariants as path
use Rattle.hir_path.specs.declared.bound.TypeBound.TheVariants as bound
use Rattle.hir_path.specs.declared.bound.TraitBoundModifier.TheVariants as modifier
use Rattle.hir_node.specs.declared.{binding.Binding.Binding, expr.Expr.Expr, type_ref.TypeRef.TypeRef}
use Rattle.hir_node.specs.declared.binding.BindingAnnotation.TheVariants as mode
use Rattle.hir_node.specs.declared.literal.Literal.TheVariants as literal
use Rattle.hir_node.specs.declared.expr.Expr.TheVariants as expr
use Rattle.hir_node.specs.declared.expr_types.Unsafe.TheVariants as unsafety
use Rattle.hir_node.specs.declared.type_ref.TypeRef.TheVariants as type
use Rattle.hir_signature.specs.declared.param_data.LifetimeBoundType.TheVariants as bound_type
use Rattle.hir_signature.specs.declared.param_data.TypeParamProvenance.TheVariants as provenance
use Rattle.hir_signature.specs.declared.{any_param.TypeOrConstParamData.TypeOrConstParamData, signatures.FunctionParts.FunctionParts}
use Rattle.hir_signature.specs.Generics.{Generics, empty}
use Rattle.hir_signature.specs.declared.any_param.TypeOrConstParamData.TheVariants as param
use Rattle.hir_signature.specs.declared.predicate.WherePredicate.TheVariants as predicate
use Rattle.hir_validate.specs.Recursion.{fold_down, rank}
use Rattle.hir_store_core.specs.{Contents.Contents, SideTables.no_side_tables}
use Rattle.hir_pretty_nodes.specs.Prelude.{Missing, NameLookups, PrintEnv, Doc, pieces, first_missing, text_of, doc_list_pieces}
use Rattle.hir_store_core.specs.declared.missing.Missing.TheVariants as missing
use Rattle.hir_signature.specs.declared.signatures.FieldsShape.TheVariants as shape
use Rattle.hir_signature.specs.declared.signatures.RawVisibility.TheVariants as visibility
use Rattle.hir_body.specs.Bodies.{BodyContents}
use Rattle.hir_pretty.specs.{Bodies.Parents, Bodies.body_docs, Variants.variant_docs, Variants.without_fields, Signatures.function_docs}
use Rattle.hir_pretty.specs.Signatures.{struct_docs, unimplemented_docs}

-- constants have no name, statics are `S`, functions `foo`, structs `T`, enums `E`, variants `V`
abbrev name : NamedDef → Result (Option (List ℕ)) Missing
name (named.EnumId id) = Ok (Some (codes "E"))
name (named.FunctionId id) = Ok (Some (codes "foo"))
name (named.StaticId id) = Ok (Some (codes "S"))
name (named.StructId id) = Ok (Some (codes "S"))
name (named.UnionId id) = Ok (Some (codes "U"))
name (named.TypeAliasId id) = Ok None
name (named.TraitId id) = Ok None
name (named.EnumVariantId id) = Ok (Some (codes "V"))
name (named.ConstId id) = Ok None
name (named.MacroId id) = Ok None

abbrev tables : NameLookups
tables = record {
  name = name;
  crate_name = λ id. Err (missing.Crate id);
  type_param = λ id. Ok None;
  lifetime_param = λ id. Err (missing.LifetimeParam id);
}

-- what nothing is known of
abbrev no_tables : NameLookups
no_tables = record tables { name = λ def. Err (missing.Name def) }

abbrev print_env : NameLookups → Contents → PrintEnv
print_env tables store = record { nodes = store.nodes; tables = tables; words = []; one_line = false }

abbrev root : ℕ → Root
root id = record { node = id; ends = record { exprs = id; pats = 0; bindings = 0 } }

abbrev store : List Expr → List TypeRef → List Binding → List Root → Contents
store exprs types bindings roots = record {
  nodes = record { exprs = exprs; pats = []; types = types; bindings = bindings; labels = []; lifetimes = [] };
  roots = roots;
  side_tables = no_side_tables;
}

abbrev plain : List ℕ → Path
plain text = path.BarePath (record { kind = kind.Plain; segments = text ∷ [] })

abbrev var : List ℕ → Expr
var text = expr.Path (plain text)

abbrev type_named : List ℕ → TypeRef
type_named text = type.Path (plain text)

abbrev binding : List ℕ → Binding
binding text = record { name = text; mode = mode.Unannotated; problems = None; hygiene = context.Root edition.Edition2015 }

-- a body that is one expression
abbrev only : Expr → BodyContents
only x = record { store = store (x ∷ []) [] [] (root 0 ∷ []); params = []; self_param = None }

abbrev of_enum_0 : Parents
of_enum_0 id = Ok 0

-- the text of documents, and the first definition that is missing among them
abbrev text_from : Contents → (PrintEnv → List Doc) → List ℕ
text_from c items = let s = print_env tables c in text_of s (doc_list_pieces s (items s))

abbrev missing_from : NameLookups → Contents → (PrintEnv → List Doc) → Option Missing
missing_from tables c items = let s = print_env tables c in first_missing (doc_list_pieces s (items s))

abbrev body_text : DefWithBodyId → BodyContents → List ℕ
body_text owner b = text_from b.store (λ s. body_docs s of_enum_0 owner b)

bodies :
    (body_text (body.ConstId 0) (only (var (codes "x"))) ≡ codes "const _ = x;")
    × (body_text (body.StaticId 0) (only (var (codes "x"))) ≡ codes "static S = x;")
    × (body_text (body.VariantId 0) (only (expr.Literal (literal.Int (pos 1) None))) ≡ codes "enum E::V1")
    × (body_text (body.FunctionId 0) (record {
      store = store (var (codes "x") ∷ expr.Block None [] (Some 0) None unsafety.No ∷ []) [] (binding (codes "self") ∷ []) (root 1 ∷ []);
      params = [];
      self_param = Some (record { formal = 0; user_written = 0 });
    }) ≡ codes "fn foo(self) {\n    x\n}")
unfolding pieces fold_down rank height digits
bodies = (refl, refl, refl, refl)

-- what is missing first: the enum of a variant, and then its name; and fields
first_is_missing :
    ((let b = only (var (codes "x")) in missing_from no_tables b.store (λ s. body_docs s (λ id. Err (missing.Variant id)) (body.VariantId 0) b)) ≡ Some (missing.Variant 0))
    × ((let b = only (var (codes "x")) in missing_from no_tables b.store (λ s. body_docs s of_enum_0 (body.VariantId 0) b)) ≡ Some (missing.Name (named.EnumId 0)))
    × (missing_from tables (store [] [] [] []) (λ s. without_fields s of_enum_0 (variant.StructId 0)) ≡ Some (missing.Fields (variant.StructId 0)))
unfolding pieces fold_down rank height digits
first_is_missing = (refl, refl, refl)

abbrev of_name : List ℕ → Option ℕ → TypeOrConstParamData
of_name name default = param.TypeParamData (record { name = Some name; default = default; provenance = provenance.TypeParamList })

fields_and_structs :
    ((let c = store [] (type_named (codes "u32") ∷ []) [] [] in text_from c (λ s. variant_docs s of_enum_0 (variant.StructId 0) (record {
      shape = shape.Record;
      fields = record { name = codes "a"; type_ref = 0; visibility = visibility.Public; is_unsafe = false; default_value = None } ∷ [];
      store = c;
    }))) ≡ codes "struct S {\npub a: u32,\n}\n")
    × ((let c = store [] [] [] [] in text_from c (λ s. struct_docs s None (record {
      name = codes "S";
      generic_params = empty;
      store = c;
      is_fundamental = false;
      shape = shape.Tuple;
    }))) ≡ codes "struct S(...)\n;\n")
    × ((let c = store (expr.Literal (literal.Int (pos 3) None) ∷ []) (type_named (codes "usize") ∷ type.Tuple [] ∷ type_named (codes "T") ∷ type_named (codes "Clone") ∷ []) [] [] in
    text_from c (λ s. struct_docs s (Some (record { c = true; align = Some 8; pack = None })) (record {
      name = codes "S";
      generic_params = record {
        type_or_consts = of_name (codes "T") None ∷ param.ConstParamData (record { name = codes "C"; ty = 0; default = Some (record { expr = 0 }) }) ∷ of_name (codes "X") (Some 1) ∷ [];
        lifetimes = record { name = codes "'a"; bound_type = bound_type.EarlyBound } ∷ [];
        predicates = predicate.TypeBound None 2 (bound.Path 3 modifier.None) ∷ [];
      };
      store = c;
      is_fundamental = true;
      shape = shape.Unit;
    }))) ≡ codes "#[repr(C)]\n#[repr(align(8))]\n#[fundamental]\nstruct S<'a, T, const C: usize = 3, X = ()>\nwhere\n    T: Clone\n;\n")
    × (text_from (store [] [] [] []) (λ s. unimplemented_docs (codes "EnumId") 5) ≡ codes "unimplemented EnumId(5)")
unfolding pieces fold_down rank height digits
fields_and_structs = (refl, refl, refl, refl)

abbrev function : Contents → Generics → List ℕ → FunctionParts
function c generics params = record {
  name = codes "impl_trait_args";
  generic_params = generics;
  store = c;
  params = params;
  ret_type = None;
  abi = abi.Rust;
  is_const = false;
  is_async = false;
  is_unsafe = false;
  is_explicit_safe = false;
  legacy_const_indices = None;
}

abbrev second_param : TypeRef
second_param = type.TypeParam (record { parent = generic.FunctionId 0; local_id = 1 })

functions :
    ((let c = store [] (second_param ∷ second_param ∷ type_named (codes "Trait") ∷ []) [] [] in text_from c (λ s. function_docs s (function c (record {
      type_or_consts = of_name (codes "T") None ∷ param.TypeParamData (record { name = None; default = None; provenance = provenance.ArgumentImplTrait }) ∷ [];
      lifetimes = [];
      predicates = predicate.TypeBound None 1 (bound.Path 2 modifier.None) ∷ [];
    }) (0 ∷ [])))) ≡ codes "fn impl_trait_args<T, Param[1]>(Param[1])\nwhere\n    Param[1]: Trait\n {...}\n")
    × ((let c = store [] (type_named (codes "A") ∷ type_named (codes "B") ∷ []) [] [] in text_from c (λ s. function_docs s (record (function c empty (0 ∷ 1 ∷ [])) {
      name = codes "a";
      abi = abi.C;
      is_const = true;
      is_async = true;
      is_unsafe = true;
      legacy_const_indices = Some (1 ∷ []);
    }))) ≡ codes "const async unsafe extern \"C\" fn a(A, const: B) {...}\n")
unfolding pieces fold_down rank height digits
functions = (refl, refl)
