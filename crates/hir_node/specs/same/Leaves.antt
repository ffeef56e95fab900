-- That `==` of the parts of literals, bindings and function types decides whether they are the same.
use Rattle.std.specs.Prelude.{◌≡◌, ℕ, List, Option}
use Rattle.std.specs.Bool.{Decides}
use Rattle.std.specs.Option.{option_eq}
use Rattle.std.specs.Cmp.Lexicographic.{pointwise, pointwise_decides}
use Rattle.hir_collections.specs.Exact.{options_decide}
use Rattle.hir_base.specs.contracts.name.NamePartialEq.TheImpl as names
use Rattle.hir_path.specs.same.Leaves.{names_decide}
use Rattle.hir_path.specs.same.Leaves as paths
use Rattle.hir_base.specs.declared.hygiene.SyntaxContext.{SyntaxContext}
use Rattle.hir_base.specs.declared.abi.ExternAbi.{ExternAbi}
use Rattle.hir_node.specs.declared.binding.BindingAnnotation.{BindingAnnotation}
use Rattle.hir_base.specs.declared.builtin_type.BuiltinInt.{BuiltinInt}
use Rattle.hir_base.specs.declared.builtin_type.BuiltinUint.{BuiltinUint}
use Rattle.hir_base.specs.declared.builtin_type.BuiltinFloat.{BuiltinFloat}
use Rattle.hir_node.specs.declared.binding.BindingProblems.{BindingProblems}
use Rattle.hir_base.specs.contracts.abi.ExternAbiPartialEq.TheImpl as abis
use Rattle.hir_base.specs.contracts.abi.ExternAbiExactEq.TheImpl.Laws as abis_law
use Rattle.hir_base.specs.contracts.hygiene.HygieneIdPartialEq.TheImpl as hygienes
use Rattle.hir_base.specs.contracts.hygiene.HygieneIdExactEq.TheImpl.Laws as hygienes_law
use Rattle.hir_node.specs.contracts.binding.BindingAnnotationPartialEq.TheImpl as annotations
use Rattle.hir_node.specs.contracts.binding.BindingAnnotationExactEq.TheImpl.Laws as annotations_law
use Rattle.hir_node.specs.contracts.literal.FloatTypeWrapperPartialEq.TheImpl as floats
use Rattle.hir_node.specs.contracts.literal.FloatTypeWrapperExactEq.TheImpl.Laws as floats_law
use Rattle.hir_base.specs.contracts.builtin_type.BuiltinIntPartialEq.TheImpl as suffixes_of_ints
use Rattle.hir_base.specs.contracts.builtin_type.BuiltinIntExactEq.TheImpl.Laws as suffixes_of_ints_law
use Rattle.hir_base.specs.contracts.builtin_type.BuiltinUintPartialEq.TheImpl as suffixes_of_uints
use Rattle.hir_base.specs.contracts.builtin_type.BuiltinUintExactEq.TheImpl.Laws as suffixes_of_uints_law
use Rattle.hir_base.specs.contracts.builtin_type.BuiltinFloatPartialEq.TheImpl as suffixes_of_floats
use Rattle.hir_base.specs.contracts.builtin_type.BuiltinFloatExactEq.TheImpl.Laws as suffixes_of_floats_law
use Rattle.hir_node.specs.contracts.binding.BindingProblemsPartialEq.TheImpl as problems
use Rattle.hir_node.specs.contracts.binding.BindingProblemsExactEq.TheImpl.Laws as problems_law

pub abis_decide : (x y : ExternAbi) → Decides (abis.ghosts.eq x y) (x ≡ y)
abis_decide = abis_law.lawful.eq_decides

pub hygienes_decide : (x y : SyntaxContext) → Decides (hygienes.ghosts.eq x y) (x ≡ y)
hygienes_decide = hygienes_law.lawful.eq_decides

pub annotations_decide : (x y : BindingAnnotation) → Decides (annotations.ghosts.eq x y) (x ≡ y)
annotations_decide = annotations_law.lawful.eq_decides

pub floats_decide : (x y : List ℕ) → Decides (floats.ghosts.eq x y) (x ≡ y)
floats_decide = floats_law.lawful.eq_decides

pub suffixes_of_ints_decide : (x y : Option BuiltinInt)
    → Decides (option_eq suffixes_of_ints.ghosts.eq x y) (x ≡ y)
suffixes_of_ints_decide = options_decide suffixes_of_ints_law.lawful.eq_decides

pub suffixes_of_uints_decide : (x y : Option BuiltinUint)
    → Decides (option_eq suffixes_of_uints.ghosts.eq x y) (x ≡ y)
suffixes_of_uints_decide = options_decide suffixes_of_uints_law.lawful.eq_decides

pub suffixes_of_floats_decide : (x y : Option BuiltinFloat)
    → Decides (option_eq suffixes_of_floats.ghosts.eq x y) (x ≡ y)
suffixes_of_floats_decide = options_decide suffixes_of_floats_law.lawful.eq_decides

pub problems_decide : (x y : Option BindingProblems) → Decides (option_eq problems.ghosts.eq x y) (x ≡ y)
problems_decide = options_decide problems_law.lawful.eq_decides

pub name_lists_decide : (xs ys : List (List ℕ)) → Decides (pointwise names.ghosts.eq xs ys) (xs ≡ ys)
name_lists_decide = pointwise_decides names_decide

pub optional_name_lists_decide : (x y : Option (List (List ℕ)))
    → Decides (option_eq (pointwise names.ghosts.eq) x y) (x ≡ y)
optional_name_lists_decide = options_decide name_lists_decide

pub ruleset leaves = (
  paths.leaves,
  abis_decide,
  hygienes_decide,
  annotations_decide,
  floats_decide,
  suffixes_of_ints_decide,
  suffixes_of_uints_decide,
  suffixes_of_floats_decide,
  problems_decide,
  name_lists_decide,
  optional_name_lists_decide,
)
