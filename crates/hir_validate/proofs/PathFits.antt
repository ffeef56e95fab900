-- The paths that nodes of a store without a fault hold fit it.
use Rattle.std.proofs.Common.{◌≡◌, ℕ, Bool, true, List, [], ◌++◌, Option, Some, None, refl, sym, ◌∙◌, slice_get}
use Rattle.std.specs.Bool.{IsTrue}
use Rattle.std.specs.List.{list_all, flat_map}
use Rattle.std.specs.Cmp.{first_so, second_so}
use Rattle.std.proofs.lemmas.List.Folds.{list_all-append}
use Rattle.hir_path.specs.declared.path.Path.{Path}
use Rattle.hir_node.specs.declared.expr.Expr.TheVariants as expr
use Rattle.hir_node.specs.declared.pat.Pat.TheVariants as pat
use Rattle.hir_node.specs.declared.pat.RecordFieldPat.{RecordFieldPat}
use Rattle.hir_node.specs.declared.expr_types.RecordLitField.{RecordLitField}
use Rattle.hir_node.specs.declared.expr_types.RecordSpread.{RecordSpread}
use Rattle.hir_node.specs.declared.type_ref.TypeRef.TheVariants as type
use Rattle.hir_node.specs.ChildCalls.{Call, e, p, path_calls, spread_calls}
use Rattle.hir_validate.specs.Sizes.{is_in_range}
use Rattle.hir_validate.specs.TestedParts.{is_path_at, path_paths, path_gives_self, one_list_each, a_path}
use Rattle.hir_validate.specs.Nodes.{Nodes, sizes_of}
use Rattle.hir_validate.specs.Faults.{RootedNodes, rooted_fault}
use Rattle.hir_validate.specs.Fits.{path_fits}
use Rattle.hir_validate.specs.Sound.{IsSoundNode}
use Rattle.hir_validate.proofs.SoundLemmas.{exprs_sound, pats_sound, types_sound}

-- a sound node's path fits, where its calls are the node's last
held_fits : (s : Nodes) (path : Path) (before : List Call) (bindings labels : List ℕ) → IsSoundNode s record { calls = before ++ path_calls path; bindings = bindings; labels = labels; held = a_path path; returns = true } → IsTrue (path_fits s path)
held_fits s path before bindings labels h =
    let test = is_in_range (sizes_of s) in
    let all : list_all test (before ++ path_calls path) ≡ true = first_so _ _ (first_so _ _ h.in_range) in
    let calls : list_all test (path_calls path) ≡ true = second_so _ _ (sym (list_all-append test before (path_calls path)) ∙ all) in
    let paths : list_all (is_path_at s.types) (path_paths path) ≡ true = first_so _ _ (sym (list_all-append (is_path_at s.types) (path_paths path) []) ∙ first_so _ _ (sym (list_all-append (is_path_at s.types) (path_paths path ++ []) []) ∙ h.paths)) in
    let selfs : path_gives_self path ≡ true = first_so _ _ h.gives_self in
    let fit : one_list_each path ≡ true = h.lists_fit in
    rw (calls, paths, selfs, fit) refl

module _ (c : RootedNodes) (sound : rooted_fault c None) (id : ℕ) (path : Path) where
  pub expr_path_fits : slice_get c.nodes.exprs id ≡ Some (expr.Path path) → IsTrue (path_fits c.nodes path)
  expr_path_fits is = held_fits c.nodes path [] [] [] (exprs_sound c sound id (expr.Path path) is)

  pub record_lit_path_fits : (fields : List RecordLitField) (spread : RecordSpread) → slice_get c.nodes.exprs id ≡ Some (expr.RecordLit path fields spread) → IsTrue (path_fits c.nodes path)
  record_lit_path_fits fields spread is =
      held_fits c.nodes path (flat_map (λ field. e field.expr) fields ++ spread_calls spread) [] [] (exprs_sound c sound id (expr.RecordLit path fields spread) is)

  pub pat_path_fits : slice_get c.nodes.pats id ≡ Some (pat.Path path) → IsTrue (path_fits c.nodes path)
  pat_path_fits is = held_fits c.nodes path [] [] [] (pats_sound c sound id (pat.Path path) is)

  pub tuple_struct_path_fits : (args : List ℕ) (ellipsis : Option ℕ) → slice_get c.nodes.pats id ≡ Some (pat.TupleStruct path args ellipsis) → IsTrue (path_fits c.nodes path)
  tuple_struct_path_fits args ellipsis is = held_fits c.nodes path (flat_map p args) [] [] (pats_sound c sound id (pat.TupleStruct path args ellipsis) is)

  pub record_pat_path_fits : (args : List RecordFieldPat) (ellipsis : Bool) → slice_get c.nodes.pats id ≡ Some (pat.Record ellipsis path args) → IsTrue (path_fits c.nodes path)
  record_pat_path_fits args ellipsis is = held_fits c.nodes path (flat_map (λ field. p field.pat) args) [] [] (pats_sound c sound id (pat.Record ellipsis path args) is)

  pub type_path_fits : slice_get c.nodes.types id ≡ Some (type.Path path) → IsTrue (path_fits c.nodes path)
  type_path_fits is = held_fits c.nodes path [] [] [] (types_sound c sound id (type.Path path) is)
