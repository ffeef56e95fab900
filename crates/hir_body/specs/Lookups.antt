-- The result of a lookup of a definition that may have a body.
use Rattle.hir_body.specs.Bodies.{BodyContents}
use Rattle.hir_body.specs.declared.body_source_map.BodySourceMap.{BodySourceMap}

-- a body, and where it comes from
abbrev pub BodyAndSources : Type 0
BodyAndSources = BodyContents × BodySourceMap
