-- The words after `type`, for each type that a line makes.
use Rattle.std.specs.Prelude.{◌∷◌}
use Rattle.hir_show_grammar.specs.Prelude.{ℕ, List, [], codes, ExprId, PatId, TypeRefId, TypeRef, Never, Array, PatternType}
use Rattle.hir_node.specs.declared.type_ref.TypeRef.TheVariants.{Tuple, Path}
use Rattle.hir_show_grammar.specs.Words.{plain}
use Rattle.hir_show_grammar.specs.Types.{array_of}
use Rattle.hir_show_grammar.specs.Tokens.{Token, Word, Name, Number, Numbers}

pub data IsType : TypeRef → List Token → Type 0 where
  path : {name : List ℕ} → IsType (Path (plain name)) (Word (codes "path") ∷ Name name ∷ [])
  tuple : {types : List TypeRefId} → IsType (Tuple types) (Word (codes "tuple") ∷ Numbers types ∷ [])
  array : {element : TypeRefId} {len : ExprId} →
      IsType (Array (array_of element len)) (Word (codes "array") ∷ Number element ∷ Number len ∷ [])
  pattern : {ty : TypeRefId} {pat : PatId} → IsType (PatternType ty pat)
      (Word (codes "pattern") ∷ Number ty ∷ Number pat ∷ [])
  never : IsType Never (Word (codes "never") ∷ [])
