-- What printing looks up: in the store, in the tables of definitions, and among the words of an edition.
use Rattle.std.specs.Prelude.{ℕ, Bool, List, Option, Result}
use Rattle.hir_base.specs.Ids.{CrateId, Name}
use Rattle.hir_base.specs.declared.{defs.NamedDef.NamedDef, params.TypeOrConstParamId.TypeOrConstParamId, params.LifetimeParamId.LifetimeParamId}
use Rattle.hir_store_core.specs.declared.missing.Missing.{Missing}
use Rattle.hir_validate.specs.declared.node_arenas.Nodes.{Nodes}

-- What is looked up in the tables. A definition, a crate and a type parameter may exist and have no name.
pub record NameLookups : Type 0 where
  pub name : NamedDef → Result (Option Name) Missing
  pub crate_name : CrateId → Result (Option Name) Missing
  pub type_param : TypeOrConstParamId → Result (Option Name) Missing
  pub lifetime_param : LifetimeParamId → Result Name Missing

-- a store, tables, the words that are written with `r#`, and whether all is in one line
pub record PrintEnv : Type 0 where
  pub nodes : Nodes
  pub tables : NameLookups
  pub words : List (List ℕ)
  pub one_line : Bool
