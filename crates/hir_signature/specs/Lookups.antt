-- The result of a lookup of a definition that may have generic parameters.
use Rattle.hir_signature.specs.Prelude.{ExpressionStoreSourceMap, Contents}
use Rattle.hir_signature.specs.Generics.{Generics}

-- generic parameters, the store that they name, and where that comes from
abbrev pub SignatureAndSources : Type 0
SignatureAndSources = Generics × Contents × ExpressionStoreSourceMap

abbrev pub without_source_map : SignatureAndSources → Generics × Contents
without_source_map s = (s.0, s.1)
