-- The parts of a body that lines have made so far: what is built, the parameters and the name of the
-- function.
use Rattle.std.specs.Prelude.{◌∷◌, ◌++◌}
use Rattle.hir_show_run.specs.Prelude.{ℕ, List, [], Option, None, Some, Name, SyntaxContext, ExprOrPatId, expr_or_pat_code, PatId, BindingId, Maker, Nodes, no_nodes, Building, contents_of, and_root, some_roots, Param, BodyContents, body_of, SideTables, no_side_tables}
use Rattle.std.specs.FinMap as map
use Rattle.hir_show_grammar.specs.Makers as make

-- what is built, the self parameter, the other parameters and the name of the function
pub record Parts : Type 0 where
  pub built : Building
  pub self_param : Option (Param BindingId)
  pub params : List (Param PatId)
  pub name : Option Name

abbrev pub no_parts : Parts
no_parts = record {
  built = record { nodes = no_nodes; roots = None; side_tables = no_side_tables };
  self_param = None;
  params = [];
  name = None;
}

-- these parts with other nodes
abbrev pub with_nodes : Parts → Nodes → Parts
with_nodes m nodes = record m { built = record m.built { nodes = nodes } }

-- these side tables with this hygiene of a path, in place of the one that it had before
abbrev pub with_hygiene : SideTables → ExprOrPatId → SyntaxContext → SideTables
with_hygiene tables id hygiene =
    record tables { hygiene = map.insert tables.hygiene (expr_or_pat_code id) hygiene }

-- a parameter that the body has as the user wrote it
abbrev pub as_written : ℕ → Param ℕ
as_written id = record { formal = id; user_written = id }

-- these parts with what one more line makes
abbrev pub with_line : Parts → Maker → Parts
with_line m (make.Binding binding) =
    with_nodes m (record m.built.nodes { bindings = m.built.nodes.bindings ++ binding ∷ [] })
with_line m (make.Pat pat) = with_nodes m (record m.built.nodes { pats = m.built.nodes.pats ++ pat ∷ [] })
with_line m (make.TypeRef type_ref) =
    with_nodes m (record m.built.nodes { types = m.built.nodes.types ++ type_ref ∷ [] })
with_line m (make.Expr expr) =
    with_nodes m (record m.built.nodes { exprs = m.built.nodes.exprs ++ expr ∷ [] })
with_line m (make.Hygiene id hygiene) =
    record m { built = record m.built { side_tables = with_hygiene m.built.side_tables id hygiene } }
with_line m (make.SelfParam id) = record m { self_param = Some (as_written id) }
with_line m (make.Param id) = record m { params = m.params ++ as_written id ∷ [] }
with_line m (make.FnName name) = record m { name = Some name }
with_line m make.Roots = record m { built = record m.built { roots = some_roots m.built.roots } }
with_line m (make.Root id) = record m { built = record m.built { roots = and_root m.built id } }

-- the parts of the body of what was made
abbrev pub body_parts : Parts → BodyContents
body_parts m = body_of (contents_of m.built) m.params m.self_param
