-- The model of a builder: what it holds, what its store holds, and its first fault.
use Rattle.std.specs.Prelude.{◌≡◌, ◌⊎◌, ◌∷◌, ◌++◌, ◌||◌}
use Rattle.hir_store.specs.Prelude.{List, [], Bool, not, cond, nat_eq, length, Option, Some, None, IsSome, Global, ExprId, Root, ◌unless◌, ◌before◌, FinishFault, NoRoots, Nodes, ends_of, SideTables, no_side_tables, Contents, contents_fault, HasSameMaps, no_sources}
use Rattle.std.specs.FinMap as map
use Rattle.hir_store.specs.declared.builder.ExpressionStoreBuilder.{ExpressionStoreBuilder}

-- the nodes and what they name, the roots where a list of them was begun, and the side tables
pub record Building : Type 0 where
  pub nodes : Nodes
  pub roots : Option (List Root)
  pub side_tables : SideTables

-- an empty builder, which takes its memory from here
abbrev pub empty_builder : Global → ExpressionStoreBuilder
empty_builder alloc = record {
  exprs = [];
  pats = [];
  bindings = [];
  labels = [];
  lifetimes = [];
  types = [];
  binding_owners = map.empty;
  hygiene = map.empty;
  block_scopes = [];
  source_map = no_sources alloc;
  roots =
      None;
  alloc = alloc;
}

-- the nodes of a builder
abbrev pub nodes_of : ExpressionStoreBuilder → Nodes
nodes_of b = record {
  exprs = b.exprs;
  pats = b.pats;
  types = b.types;
  bindings = b.bindings;
  labels = b.labels;
  lifetimes = b.lifetimes;
}

abbrev pub side_tables_of : ExpressionStoreBuilder → SideTables
side_tables_of b = record { owners = b.binding_owners; hygiene = b.hygiene; blocks = b.block_scopes }

abbrev pub building_of : ExpressionStoreBuilder → Building
building_of b = record { nodes = nodes_of b; roots = b.roots; side_tables = side_tables_of b }

-- two builders have the same nodes, roots and side tables, and the same maps of sources
abbrev pub HasTheSame : ExpressionStoreBuilder → ExpressionStoreBuilder → Type 0
HasTheSame b c = (building_of b ≡ building_of c) × HasSameMaps b.source_map c.source_map

abbrev pub roots_or_none : Option (List Root) → List Root
roots_or_none None = []
roots_or_none (Some roots) = roots

-- an expression, a label, a pattern or a binding exists: the expression part is kept
abbrev pub has_exprs : Nodes → Bool
has_exprs s = not (nat_eq (length s.exprs) 0) || not (nat_eq (length s.labels) 0)
    || not (nat_eq (length s.pats) 0) || not (nat_eq (length s.bindings) 0)

-- the side tables where the expression part is kept, and else empty ones
abbrev pub kept_side_tables : Bool → SideTables → SideTables
kept_side_tables kept side_tables = cond kept side_tables no_side_tables

-- the contents of the store of a builder
abbrev pub contents_of : Building → Contents
contents_of b = record {
  nodes = b.nodes;
  roots = roots_or_none b.roots;
  side_tables = kept_side_tables (has_exprs b.nodes) b.side_tables;
}

-- the roots and one more, whose ends are the lengths of the arenas at that moment
abbrev pub and_root : Building → ExprId → Option (List Root)
and_root b id = Some (roots_or_none b.roots ++ record { node = id; ends = ends_of b.nodes } ∷ [])

-- the roots, an empty list of them where none was begun
abbrev pub some_roots : Option (List Root) → Option (List Root)
some_roots roots = Some (roots_or_none roots)

-- a list of roots was begun, or nothing needs one
abbrev pub HasRoots : Building → Type 0
HasRoots b = IsSome b.roots ⊎ ((b.nodes.exprs ≡ []) × (b.nodes.pats ≡ []) × (b.nodes.bindings ≡ [])
    × (b.nodes.labels ≡ []))

-- the first fault of a builder
unfoldable pub finish_fault : Building → Option FinishFault → Type 0
finish_fault b = (NoRoots unless HasRoots b) before contents_fault (contents_of b)
