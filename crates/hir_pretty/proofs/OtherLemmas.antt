-- What printings return for definitions whose documents have no nodes.
use Rattle.std.proofs.Common.{◌≡◌, ℕ, List, [], ◌∷◌, codes, Option, Some, None, Result, Ok, Err, refl, ap, subst, String, rules}
use Rattle.hir_base.specs.declared.defs.NamedDef.TheVariants as named
use Rattle.hir_base.specs.declared.defs.VariantId.{VariantId}
use Rattle.hir_base.specs.declared.defs.VariantId.TheVariants as variant
use Rattle.hir_pretty_nodes.specs.declared.fault.PrintFault.{PrintFault}
use Rattle.hir_pretty_nodes.specs.Prelude.{NodeId, Missing, PrintEnv, Doc, Put, MissingDoc, ExprDoc, ExprIn, Pattern, TypeDoc, found_name, DocPiece, Present, Absent, AllNodes, PrintsPieces, doc_list_pieces}
use Rattle.hir_pretty_nodes.proofs.{StepLemmas.nodes_append, LoopLemmas.prints_refused}
use Rattle.hir_pretty.specs.{Bodies.Parents, Bodies.of_enum, Variants.variant_head, Variants.without_fields}

-- documents without nodes
abbrev NoNode : NodeId → Type 0
NoNode k = ⊥

abbrev pub Outside : List Doc → Type 0
Outside is = AllNodes NoNode is

found_outside : (default : List ℕ) (found : Result (Option (List ℕ)) Missing) → Outside (found_name default found)
found_outside default (Ok (Some name)) = tt
found_outside default (Ok None) = tt
found_outside default (Err missing) = tt

enum_outside : (s : PrintEnv) (id : ℕ) (parent : Result ℕ Missing) → Outside (of_enum s id parent)
enum_outside s id (Err missing) = tt
enum_outside s id (Ok parent) = search (rules, nodes_append, found_outside)

head_outside : (s : PrintEnv) (parents : Parents) (owner : VariantId) → Outside (variant_head s parents owner)
head_outside s parents (variant.StructId id) = found_outside (codes "<missing>") (s.tables.name (named.StructId id))
head_outside s parents (variant.EnumVariantId id) = enum_outside s id (parents id)
head_outside s parents (variant.UnionId id) = found_outside (codes "<missing>") (s.tables.name (named.UnionId id))

pub fields_outside : (s : PrintEnv) (parents : Parents) (owner : VariantId) → Outside (without_fields s parents owner)
fields_outside s parents owner = search (rules, nodes_append, head_outside)

-- their doc pieces are the same for any store
printed_outside : (s other : PrintEnv) (is : List Doc) → Outside is → doc_list_pieces s is ≡ doc_list_pieces other is
printed_outside s other [] a = refl
printed_outside s other (Put piece ∷ is) a = ap (λ ps. Present piece ∷ ps) (printed_outside s other is a)
printed_outside s other (MissingDoc m ∷ is) a = ap (λ ps. Absent m ∷ ps) (printed_outside s other is a)
printed_outside s other (ExprDoc id ∷ is) a = absurd a.0
printed_outside s other (ExprIn id parent ∷ is) a = absurd a.0
printed_outside s other (Pattern id ∷ is) a = absurd a.0
printed_outside s other (TypeDoc id ∷ is) a = absurd a.0

-- the same doc pieces are printed the same from any store, where lines are
pub in_another : {Z : Type 0} {s other : PrintEnv} {ps : List DocPiece} {result : Result (String Z) PrintFault}
    → PrintsPieces s ps result → other.one_line ≡ s.one_line → PrintsPieces other ps result
in_another {ps = ps} {result = result} a e = search rules

pub in_any_store : {Z : Type 0} {s : PrintEnv} {result : Result (String Z) PrintFault} (other : PrintEnv) (is : List Doc)
    → Outside is → other.one_line ≡ s.one_line → PrintsPieces s (doc_list_pieces s is) result
    → PrintsPieces other (doc_list_pieces other is) result
in_any_store {s = s} {result} other is a e h =
    subst (λ ps. PrintsPieces other ps result) (printed_outside s other is a) (in_another h e)

pub ruleset others = (prints_refused)
