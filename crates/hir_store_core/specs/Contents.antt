-- The contents of a store: what it holds, and what an accepted one promises.
use Rattle.hir_store_core.specs.Prelude.{List, [], Option, None, Root, FinishFault, HasParents, Nodes, no_nodes, graph, RootedNodes, rooted_fault}
use Rattle.hir_store_core.specs.declared.side_tables.SideTables.{SideTables}
use Rattle.hir_store_core.specs.declared.kept_parts.KeptParts.{KeptParts}
use Rattle.hir_store_core.specs.SideTables.{no_side_tables}
use Rattle.hir_store_core.specs.PatLinks.{HasPatLinks}

-- the nodes and what they name, the roots, and the side tables
pub record Contents : Type 0 where
  pub nodes : Nodes
  pub roots : List Root
  pub side_tables : SideTables

-- the contents of a store that is made of these parts
abbrev pub contents_of_parts : Nodes → List Root → SideTables → Contents
contents_of_parts nodes roots side_tables = record { nodes = nodes; roots = roots; side_tables = side_tables }

-- the contents of an empty store
abbrev pub no_contents : Contents
no_contents = record { nodes = no_nodes; roots = []; side_tables = no_side_tables }

-- the contents without the side tables
abbrev pub rooted_of : Contents → RootedNodes
rooted_of c = record { nodes = c.nodes; roots = c.roots }

-- the first fault of contents: side tables have none
abbrev pub contents_fault : Contents → Option FinishFault → Type 0
contents_fault c = rooted_fault (rooted_of c)

-- the contents have no fault, and what is kept are the parents of the nodes, by the numbers of the nodes, and
-- the links of the patterns
pub record IsStore (c : Contents) (kept : KeptParts) : Type 0 where
  pub sound : contents_fault c None
  pub parents : HasParents (graph c.nodes) kept.parents.parents
  pub links : HasPatLinks c.nodes.pats kept.links
