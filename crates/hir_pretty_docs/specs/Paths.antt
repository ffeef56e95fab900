-- How paths, generic arguments and bounds are printed.
use Rattle.std.specs.Prelude.{ℕ, zero, suc, Bool, true, false, List, [], ◌∷◌, ◌++◌, map, Option, Some, None, Result, Ok, Err, codes}
use Rattle.hir_base.specs.Ids.{Name}
use Rattle.hir_base.specs.ModPath.{ModPath}
use Rattle.hir_base.specs.declared.{mod_path.PathKind.PathKind, prec.ExprPrecedence.TheVariants.Unambiguous, defs.LangItemTarget.LangItemTarget}
use Rattle.hir_base.specs.declared.mod_path.PathKind.TheVariants.{Plain, Super, Crate, Abs, DollarCrate}
use Rattle.hir_base.specs.declared.defs.LangItemTarget.TheVariants as target
use Rattle.hir_base.specs.declared.defs.NamedDef.TheVariants as named
use Rattle.hir_path.specs.declared.{bound.TypeBound.TypeBound, bound.TraitBoundModifier.TraitBoundModifier, bound.UseArgRef.UseArgRef, path.GenericArg.GenericArg, path.Path.Path}
use Rattle.hir_path.specs.declared.bound.TypeBound.TheVariants as bound
use Rattle.hir_path.specs.declared.bound.TraitBoundModifier.TheVariants as modifier
use Rattle.hir_path.specs.declared.bound.UseArgRef.TheVariants as use_arg
use Rattle.hir_path.specs.declared.path.GenericArg.TheVariants as arg
use Rattle.hir_path.specs.declared.path.GenericArgs.{GenericArgs, GenericArgs-F, fold-GenericArgs}
use Rattle.hir_path.specs.declared.path.AssociatedTypeBinding.{AssociatedTypeBinding, AssociatedTypeBinding-F, fold-AssociatedTypeBinding}
use Rattle.hir_path.specs.declared.path.Path.TheVariants as path
use Rattle.hir_path.specs.NodeIds.{TypeRefId}
use Rattle.hir_store_core.specs.declared.missing.Missing.{Missing}
use Rattle.hir_pretty_docs.specs.NameLookups.{PrintEnv}
use Rattle.hir_pretty_docs.specs.Docs.{Doc, MissingDoc, text, under, t, opt, when, join, comma_joined, with_number}
use Rattle.hir_pretty_docs.specs.Names.{name_docs, l}

-- names after `for`
abbrev pub for_names : PrintEnv → List Name → List Doc
for_names s names = text (codes "for<") ++ comma_joined (map (name_docs s) names) ++ text (codes "> ")

abbrev pub modifier_docs : TraitBoundModifier → List Doc
modifier_docs modifier.None = []
modifier_docs modifier.Maybe = text (codes "?")

abbrev pub use_docs : PrintEnv → UseArgRef → List Doc
use_docs s (use_arg.Name name) = name_docs s name
use_docs s (use_arg.Lifetime id) = l s id

abbrev pub bound_docs : PrintEnv → TypeBound → List Doc
bound_docs s (bound.Path id modifier) = modifier_docs modifier ++ t id
bound_docs s (bound.ForLifetime names id) = for_names s names ++ t id
bound_docs s (bound.Lifetime id) = l s id
bound_docs s (bound.Use args) = text (codes "use<") ++ comma_joined (map (use_docs s) args)
    ++ text (codes ">")
bound_docs s bound.Error = text (codes "{unknown}")

abbrev pub bounds_docs : PrintEnv → List TypeBound → List Doc
bounds_docs s bounds = join (text (codes " + ")) (map (bound_docs s) bounds)

-- bounds after `: `, where there are any
abbrev pub bounds_after : PrintEnv → List TypeBound → List Doc
bounds_after s [] = []
bounds_after s (b ∷ bs) = text (codes ": ") ++ bounds_docs s (b ∷ bs)

abbrev pub arg_docs : PrintEnv → GenericArg → List Doc
arg_docs s (arg.Ty id) = t id
arg_docs s (arg.Lifetime id) = l s id
arg_docs s (arg.Const constant) = under Unambiguous constant.expr

-- the arguments, the first of which may be the type `Self`
abbrev pub each_arg : PrintEnv → Bool → List GenericArg → List (List Doc)
each_arg s self [] = []
each_arg s true (a ∷ more) = (text (codes "Self=") ++ arg_docs s a) ∷ map (arg_docs s) more
each_arg s false (a ∷ more) = arg_docs s a ∷ map (arg_docs s) more

-- arguments in `::<` and `>`
abbrev pub turbofish : List Doc → List Doc
turbofish args = text (codes "::<") ++ args ++ text (codes ">")

-- the type of an associated type binding
abbrev pub type_after : Option TypeRefId → List Doc
type_after type_ref = opt (λ id. text (codes " = ") ++ t id) type_ref

-- an associated type binding, where the documents of its own arguments are in their place
abbrev pub binding_layer : PrintEnv → AssociatedTypeBinding-F (List Doc) (List Doc) → List Doc
binding_layer s b = name_docs s b.name ++ opt turbofish b.args ++ bounds_after s b.bounds
    ++ type_after b.type_ref

-- generic arguments, where the documents of each binding are in its place
abbrev pub args_layer : PrintEnv → GenericArgs-F (List Doc) (List Doc) → List Doc
args_layer s x = comma_joined (each_arg s x.has_self_type x.args ++ x.bindings)

abbrev pub args_docs : PrintEnv → GenericArgs → List Doc
args_docs s = fold-GenericArgs (List Doc) (List Doc) (binding_layer s) (args_layer s)

-- an associated type binding with its own arguments
abbrev pub assoc_docs : PrintEnv → AssociatedTypeBinding → List Doc
assoc_docs s = fold-AssociatedTypeBinding (List Doc) (List Doc) (binding_layer s) (args_layer s)

-- a name of the tables: as it is, or a default
abbrev pub found_name : List ℕ → Result (Option (List ℕ)) Missing → List Doc
found_name default (Ok (Some name)) = text name
found_name default (Ok None) = text default
found_name default (Err missing) = MissingDoc missing ∷ []

abbrev pub target_docs : PrintEnv → LangItemTarget → List Doc
target_docs s (target.ImplId id) = with_number (codes "ImplId") id
target_docs s (target.EnumId id) = found_name (codes "<missing>") (s.tables.name (named.EnumId id))
target_docs s (target.FunctionId id) = found_name (codes "<missing>") (s.tables.name (named.FunctionId id))
target_docs s (target.StaticId id) = found_name (codes "<missing>") (s.tables.name (named.StaticId id))
target_docs s (target.StructId id) = found_name (codes "<missing>") (s.tables.name (named.StructId id))
target_docs s (target.UnionId id) = found_name (codes "<missing>") (s.tables.name (named.UnionId id))
target_docs s (target.TypeAliasId id) = found_name (codes "<missing>") (s.tables.name (named.TypeAliasId id))
target_docs s (target.TraitId id) = found_name (codes "<missing>") (s.tables.name (named.TraitId id))
target_docs s (target.EnumVariantId id) = found_name (codes "<missing>")
    (s.tables.name (named.EnumVariantId id))
target_docs s (target.ConstId id) = found_name (codes "<missing>") (s.tables.name (named.ConstId id))
target_docs s (target.MacroId id) = found_name (codes "<missing>") (s.tables.name (named.MacroId id))

-- `super`, this many times, joined by `::`
abbrev pub supers : ℕ → List Doc
supers zero = text (codes "self")
supers (suc zero) = text (codes "super")
supers (suc (suc n)) = text (codes "super::") ++ supers (suc n)

-- where a path begins
abbrev pub kind_docs : PrintEnv → PathKind → List Doc
kind_docs s Plain = []
kind_docs s (Super n) = supers n
kind_docs s Crate = text (codes "crate")
kind_docs s Abs = []
kind_docs s (DollarCrate id) = found_name (codes "$crate") (s.tables.crate_name id)

-- whether `::` is before the first segment
abbrev pub colons_first : PathKind → Bool
colons_first Plain = false
colons_first kind = true

-- each segment with its arguments; `::` is before it where it is not the first, or where `after` says so
abbrev pub segments_from : PrintEnv → Bool → List Name → List (Option GenericArgs) → List Doc
segments_from s after [] lists = []
segments_from s after (name ∷ names) [] = when after (text (codes "::")) ++ name_docs s name
    ++ segments_from s true names []
segments_from s after (name ∷ names) (args ∷ lists) =
    when after (text (codes "::")) ++ name_docs s name ++ opt (λ a. turbofish (args_docs s a)) args
    ++ segments_from s true names lists

-- what a path begins with, and its segments
abbrev pub from_start : PrintEnv → ModPath → List Doc → List (Option GenericArgs) → List Doc
from_start s path start lists = start ++ segments_from s (colons_first path.kind) path.segments lists

-- the type that a path begins at, or else its kind
abbrev pub start_docs : PrintEnv → Option TypeRefId → PathKind → List Doc
start_docs s None kind = kind_docs s kind
start_docs s (Some anchor) kind = text (codes "<") ++ t anchor ++ text (codes ">::")

abbrev pub path_docs : PrintEnv → Path → List Doc
path_docs s (path.BarePath p) = from_start s p (kind_docs s p.kind) []
path_docs s (path.Normal n) = from_start s n.mod_path
    (start_docs s n.type_anchor n.mod_path.kind) n.generic_args
path_docs s (path.LangItem target name) =
    text (codes "builtin#lang(") ++ target_docs s target
    ++ opt (λ n. text (codes "::") ++ name_docs s n) name ++ text (codes ")")
