-- Beside Parts.antt: what only contracts within this crate cite.
use Rattle.std.specs.Prelude.{◌∷◌, ◌++◌}
use Rattle.hir_show_run.specs.Prelude.{[], Bool, Some, is_some, expr_or_pat_code, Maker, building_of, and_root, some_roots, Param}
use Rattle.std.specs.FinMap as map
use Rattle.hir_show_grammar.specs.Makers as make
use Rattle.hir_show_grammar.specs.LineEffects.{is_second as is_second_of}
use Rattle.hir_show_run.specs.declared.body_builder.BodyBuilder as code
use Rattle.hir_show_run.specs.Parts.{Parts, as_written, with_line}

-- the model of the code's `BodyBuilder`
abbrev pub builder_parts : code.BodyBuilder → Parts
builder_parts m =
    record { built = building_of m.builder; self_param = m.self_param; params = m.params; name = m.name }

-- whether the line gives a second self parameter or a second name
abbrev pub is_second : Parts → Maker → Bool
is_second m maker = is_second_of (is_some m.self_param) (is_some m.name) maker

-- `with_line` over the fields of the code's `BodyBuilder`
abbrev pub with_maker : code.BodyBuilder → Maker → code.BodyBuilder
with_maker m (make.Binding binding) =
    record m { builder = record m.builder { bindings = m.builder.bindings ++ binding ∷ [] } }
with_maker m (make.Pat pat) = record m { builder = record m.builder { pats = m.builder.pats ++ pat ∷ [] } }
with_maker m (make.TypeRef type_ref) =
    record m { builder = record m.builder { types = m.builder.types ++ type_ref ∷ [] } }
with_maker m (make.Expr expr) = record m {
  builder = record m.builder {
    exprs = m.builder.exprs
        ++ expr ∷ [];
  };
}
with_maker m (make.Hygiene id hygiene) =
    record m {
      builder = record m.builder {
        hygiene = map.insert m.builder.hygiene
            (expr_or_pat_code id) hygiene;
      };
    }
with_maker m (make.SelfParam id) = record m { self_param = Some (as_written id) }
with_maker m (make.Param id) = record m { params = m.params ++ as_written id ∷ [] }
with_maker m (make.FnName name) = record m { name = Some name }
with_maker m make.Roots = record m { builder = record m.builder { roots = some_roots m.builder.roots } }
with_maker m (make.Root id) =
    record m { builder = record m.builder { roots = and_root (building_of m.builder) id } }
