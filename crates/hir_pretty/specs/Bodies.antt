-- What bodies are printed as.
use Rattle.std.specs.Prelude.{◌∷◌, ◌++◌}
use Rattle.hir_pretty.specs.Prelude.{List, [], map, Option, Result, Ok, Err, codes, option_map, option_to_list, EnumId, EnumVariantId, DefWithBodyId, PatId, BindingId, Missing, PrintEnv, Doc, MissingDoc, text, e, p, opt, comma_joined, binding_docs, found_name, Param, BodyContents, formals_of, last_root}
use Rattle.hir_base.specs.declared.defs.DefWithBodyId.TheVariants as body
use Rattle.hir_base.specs.declared.defs.NamedDef.TheVariants as named

-- which enum each variant is of, where that is known
abbrev pub Parents : Type 0
Parents = EnumVariantId → Result EnumId Missing

-- the name of a variant after that of its enum, which is looked up first
abbrev pub of_enum : PrintEnv → EnumVariantId → Result EnumId Missing → List Doc
of_enum s id (Err missing) = MissingDoc missing ∷ []
of_enum s id (Ok parent) =
    text (codes "enum ") ++ found_name (codes "<missing>") (s.tables.name (named.EnumId parent))
    ++ text (codes "::")
    ++ found_name (codes "<missing>") (s.tables.name (named.EnumVariantId id))

abbrev pub variant_name : PrintEnv → Parents → EnumVariantId → List Doc
variant_name s parents id = of_enum s id (parents id)

-- what a body begins with; a constant without a name is `_`
abbrev pub body_head : PrintEnv → Parents → DefWithBodyId → List Doc
body_head s parents (body.FunctionId id) = text (codes "fn ")
    ++ found_name (codes "<missing>") (s.tables.name (named.FunctionId id))
body_head s parents (body.StaticId id) = text (codes "static ")
    ++ found_name (codes "<missing>") (s.tables.name (named.StaticId id)) ++ text (codes " = ")
body_head s parents (body.ConstId id) = text (codes "const ")
    ++ found_name (codes "_") (s.tables.name (named.ConstId id)) ++ text (codes " = ")
body_head s parents (body.VariantId id) = variant_name s parents id

-- the binding of `self`, where there is one, and the formal patterns
abbrev pub formal_params : PrintEnv → Option BindingId → List PatId → List (List Doc)
formal_params s self_binding formals = map (binding_docs s) (option_to_list self_binding) ++ map p formals

-- only a function has parameters
abbrev pub body_params : PrintEnv → Option BindingId → List PatId → DefWithBodyId → List Doc
body_params s self_binding formals (body.FunctionId id) =
    text (codes "(") ++ comma_joined (formal_params s self_binding formals) ++ text (codes ") ")
body_params s self_binding formals owner = []

abbrev pub body_end : DefWithBodyId → List Doc
body_end (body.StaticId id) = text (codes ";")
body_end (body.ConstId id) = text (codes ";")
body_end owner = []

-- the binding of `self` and the patterns that are the parameters themselves, not those that the user wrote
abbrev pub formal_self : Option (Param BindingId) → Option BindingId
formal_self self_param = option_map (λ param. param.formal) self_param

-- a body, which evaluates to its last root
abbrev pub body_docs : PrintEnv → Parents → DefWithBodyId → BodyContents → List Doc
body_docs s parents owner b =
    body_head s parents owner ++ body_params s (formal_self b.self_param) (formals_of b.params) owner
    ++ opt e (last_root b.store)
    ++ body_end owner
