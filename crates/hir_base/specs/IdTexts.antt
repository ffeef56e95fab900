-- Defines the texts of ids: the kind of id, and its number in parentheses.
use Rattle.std.specs.Prelude.{ℕ, List, ◌++◌, codes, decimal}
use Rattle.hir_base.specs.declared.defs.AdtId.{AdtId}
use Rattle.hir_base.specs.declared.defs.AdtId.TheVariants as adt
use Rattle.hir_base.specs.declared.defs.GenericDefId.{GenericDefId}
use Rattle.hir_base.specs.declared.defs.GenericDefId.TheVariants as generic
use Rattle.hir_base.specs.declared.defs.DefWithBodyId.{DefWithBodyId}
use Rattle.hir_base.specs.declared.defs.DefWithBodyId.TheVariants as body
use Rattle.hir_base.specs.declared.defs.VariantId.{VariantId}
use Rattle.hir_base.specs.declared.defs.VariantId.TheVariants as fields
use Rattle.hir_base.specs.declared.defs.ExpressionStoreOwnerId.{ExpressionStoreOwnerId}
use Rattle.hir_base.specs.declared.defs.ExpressionStoreOwnerId.TheVariants as owner
use Rattle.hir_base.specs.declared.defs.MacroId.{MacroId}
use Rattle.hir_base.specs.declared.defs.MacroId.TheVariants as macro
use Rattle.hir_base.specs.declared.defs.LangItemTarget.{LangItemTarget}
use Rattle.hir_base.specs.declared.defs.LangItemTarget.TheVariants as lang
use Rattle.hir_base.specs.declared.defs.NamedDef.{NamedDef}
use Rattle.hir_base.specs.declared.defs.NamedDef.TheVariants as named
use Rattle.hir_base.specs.declared.params.TypeOrConstParamId.{TypeOrConstParamId}
use Rattle.hir_base.specs.declared.params.LifetimeParamId.{LifetimeParamId}
use Rattle.hir_base.specs.declared.edition.Edition.{Edition}
use Rattle.hir_base.specs.declared.edition.Edition.TheVariants.{Edition2015, Edition2018, Edition2021, Edition2024}
use Rattle.hir_base.specs.declared.hygiene.SyntaxContext.{SyntaxContext}
use Rattle.hir_base.specs.declared.hygiene.SyntaxContext.TheVariants.{Root, Expansion}
use Rattle.hir_collections.specs.IdText.{id_text}

-- an enum of ids has the text of the id that it holds
abbrev pub adt_text : AdtId → List ℕ
adt_text (adt.StructId id) = id_text (codes "StructId") id
adt_text (adt.UnionId id) = id_text (codes "UnionId") id
adt_text (adt.EnumId id) = id_text (codes "EnumId") id

abbrev pub generic_text : GenericDefId → List ℕ
generic_text (generic.AdtId id) = adt_text id
generic_text (generic.ConstId id) = id_text (codes "ConstId") id
generic_text (generic.FunctionId id) = id_text (codes "FunctionId") id
generic_text (generic.ImplId id) = id_text (codes "ImplId") id
generic_text (generic.StaticId id) = id_text (codes "StaticId") id
generic_text (generic.TraitId id) = id_text (codes "TraitId") id
generic_text (generic.TypeAliasId id) = id_text (codes "TypeAliasId") id

abbrev pub body_text : DefWithBodyId → List ℕ
body_text (body.FunctionId id) = id_text (codes "FunctionId") id
body_text (body.StaticId id) = id_text (codes "StaticId") id
body_text (body.ConstId id) = id_text (codes "ConstId") id
body_text (body.VariantId id) = id_text (codes "EnumVariantId") id

abbrev pub fields_text : VariantId → List ℕ
fields_text (fields.EnumVariantId id) = id_text (codes "EnumVariantId") id
fields_text (fields.StructId id) = id_text (codes "StructId") id
fields_text (fields.UnionId id) = id_text (codes "UnionId") id

abbrev pub macro_text : MacroId → List ℕ
macro_text (macro.Macro2Id id) = id_text (codes "Macro2Id") id
macro_text (macro.MacroRulesId id) = id_text (codes "MacroRulesId") id
macro_text (macro.ProcMacroId id) = id_text (codes "ProcMacroId") id

abbrev pub lang_text : LangItemTarget → List ℕ
lang_text (lang.ImplId id) = id_text (codes "ImplId") id
lang_text (lang.EnumId id) = id_text (codes "EnumId") id
lang_text (lang.FunctionId id) = id_text (codes "FunctionId") id
lang_text (lang.StaticId id) = id_text (codes "StaticId") id
lang_text (lang.StructId id) = id_text (codes "StructId") id
lang_text (lang.UnionId id) = id_text (codes "UnionId") id
lang_text (lang.TypeAliasId id) = id_text (codes "TypeAliasId") id
lang_text (lang.TraitId id) = id_text (codes "TraitId") id
lang_text (lang.EnumVariantId id) = id_text (codes "EnumVariantId") id
lang_text (lang.ConstId id) = id_text (codes "ConstId") id
lang_text (lang.MacroId id) = macro_text id

abbrev pub named_text : NamedDef → List ℕ
named_text (named.EnumId id) = id_text (codes "EnumId") id
named_text (named.FunctionId id) = id_text (codes "FunctionId") id
named_text (named.StaticId id) = id_text (codes "StaticId") id
named_text (named.StructId id) = id_text (codes "StructId") id
named_text (named.UnionId id) = id_text (codes "UnionId") id
named_text (named.TypeAliasId id) = id_text (codes "TypeAliasId") id
named_text (named.TraitId id) = id_text (codes "TraitId") id
named_text (named.EnumVariantId id) = id_text (codes "EnumVariantId") id
named_text (named.ConstId id) = id_text (codes "ConstId") id
named_text (named.MacroId id) = macro_text id

-- which part of a definition it is, and the definition, as `Signature(FunctionId(7))`
abbrev pub owner_text : ExpressionStoreOwnerId → List ℕ
owner_text (owner.Signature id) = codes "Signature(" ++ generic_text id ++ codes ")"
owner_text (owner.Body id) = codes "Body(" ++ body_text id ++ codes ")"
owner_text (owner.VariantFields id) = codes "VariantFields(" ++ fields_text id ++ codes ")"

-- a parameter: its kind, its parent and its number in it, as `TypeParamId(FunctionId(7), 0)`
abbrev pub param_text : List ℕ → GenericDefId → ℕ → List ℕ
param_text kind parent number = kind ++ codes "(" ++ generic_text parent ++ codes ", " ++ decimal number
    ++ codes ")"

abbrev pub type_or_const_param_text : List ℕ → TypeOrConstParamId → List ℕ
type_or_const_param_text kind id = param_text kind id.parent id.local_id

abbrev pub lifetime_param_text : LifetimeParamId → List ℕ
lifetime_param_text id = param_text (codes "LifetimeParamId") id.parent id.local_id

abbrev pub edition_text : Edition → List ℕ
edition_text Edition2015 = codes "Edition2015"
edition_text Edition2018 = codes "Edition2018"
edition_text Edition2021 = codes "Edition2021"
edition_text Edition2024 = codes "Edition2024"

-- the variant and what it holds, as `Root(Edition2015)` and `Expansion(7)`
abbrev pub context_text : SyntaxContext → List ℕ
context_text (Root edition) = codes "Root(" ++ edition_text edition ++ codes ")"
context_text (Expansion number) = id_text (codes "Expansion") number
