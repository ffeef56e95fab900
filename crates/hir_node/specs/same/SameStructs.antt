-- That `==` of bindings and of function types decides whether they are the same, field by field.
use Rattle.std.specs.Prelude.{◌≡◌, ◌&&◌, ℕ, List, Option, Bool, eqb}
use Rattle.std.specs.Bool.{Decides}
use Rattle.std.specs.Option.{option_eq}
use Rattle.std.specs.Cmp.{unsigned_Decides}
use Rattle.std.specs.Cmp.Lexicographic.{pointwise_decides}
use Rattle.std.specs.contracts.prelude.BoolPartialEq.TheImpl as flag
use Rattle.hir_collections.specs.Exact.{exact}
use Rattle.hir_base.specs.contracts.name.NamePartialEq.TheImpl as name
use Rattle.hir_path.specs.same.Fields.{and_decides, both}
use Rattle.hir_path.specs.same.Leaves.{names_decide, optional_names_decide}
use Rattle.hir_node.specs.same.Leaves.{abis_decide, hygienes_decide, annotations_decide, problems_decide, optional_name_lists_decide}
use Rattle.hir_node.specs.declared.binding.Binding.{Binding}
use Rattle.hir_node.specs.declared.type_ref.FnType.{FnType}
use Rattle.hir_node.specs.contracts.binding.BindingPartialEq.TheImpl as binding
use Rattle.hir_node.specs.contracts.type_ref.FnTypePartialEq.TheImpl as function

pub bindings_decide : (x y : Binding) → Decides (binding.ghosts.eq x y) (x ≡ y)
bindings_decide x y =
    and_decides _ _ (names_decide x.name y.name)
    (both _ _ (annotations_decide x.mode y.mode)
    (both _ _ (problems_decide x.problems y.problems) (hygienes_decide x.hygiene y.hygiene)))
    (λ n r i. record { name = n i; mode = r.0 i; problems = r.1.0 i; hygiene = r.1.1 i })
    (λ e i. (e i).name) (λ e. (λ i. (e i).mode, (λ i. (e i).problems, λ i. (e i).hygiene)))

-- an entry of a function type: a name, which may be absent, and a type
pub entries_decide : (x y : Option (List ℕ) × ℕ)
    → Decides (option_eq name.ghosts.eq x.0 y.0 && eqb x.1 y.1) (x ≡ y)
entries_decide x y =
    and_decides _ _ (optional_names_decide x.0 y.0) (unsigned_Decides x.1 y.1)
    (λ a b i. (a i, b i)) (λ e i. (e i).0) (λ e i. (e i).1)

pub flags_decide : (x y : Bool) → Decides (flag.ghosts.eq x y) (x ≡ y)
flags_decide x y = search exact

pub functions_decide : (x y : FnType) → Decides (function.ghosts.eq x y) (x ≡ y)
functions_decide x y =
    and_decides _ _ (optional_name_lists_decide x.binder y.binder)
    (both _ _ (pointwise_decides entries_decide x.params y.params)
    (both _ _ (flags_decide x.is_varargs y.is_varargs)
    (both _ _ (flags_decide x.is_unsafe y.is_unsafe) (abis_decide x.abi y.abi))))
    (λ n r i. record {
      binder = n i;
      params = r.0 i;
      is_varargs = r.1.0 i;
      is_unsafe = r.1.1.0 i;
      abi = r.1.1.1 i;
    })
    (λ e i. (e i).binder) (λ e. (
      λ i. (e i).params,
      (λ i. (e i).is_varargs, (λ i. (e i).is_unsafe, λ i. (e i).abi)),
    ))
