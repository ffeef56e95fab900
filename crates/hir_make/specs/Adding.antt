-- What a helper leaves in a builder: one node more, which comes last in its arena and whose id is the number
-- of those before it; and why it is refused.
use Rattle.std.specs.Prelude.{◌≡◌, ◌⊎◌, ◌∷◌, ◌++◌}
use Rattle.hir_make.specs.Prelude.{ℕ, List, [], length, Option, Some, None, MOST_ITEMS, Full, Memory, ExprId, PatId, TypeRefId, LabelId, GenericArgs, Expr, Pat, Binding, Label, TypeRef, NodeId, FinishFault, BodyContents, body_fault, SignatureFault, building_of, nodes_of, finish_fault, ExpressionStoreBuilder, NamedId, missing_id, store_error, HirError}
use Rattle.hir_node.specs.declared.expr.Expr.TheVariants as expr
use Rattle.hir_validate.specs.declared.fault.FinishFault.TheVariants as finish
use Rattle.hir_body.specs.declared.body_fault.BodyFault.TheVariants as body
use Rattle.hir_error.specs.declared.error.HirError.TheVariants as error

-- the builder with one node more
abbrev pub with_expr : ExpressionStoreBuilder → Expr → ExpressionStoreBuilder
with_expr b expr = record b { exprs = b.exprs ++ expr ∷ [] }

abbrev pub with_pat : ExpressionStoreBuilder → Pat → ExpressionStoreBuilder
with_pat b pat = record b { pats = b.pats ++ pat ∷ [] }

abbrev pub with_binding : ExpressionStoreBuilder → Binding → ExpressionStoreBuilder
with_binding b binding = record b { bindings = b.bindings ++ binding ∷ [] }

abbrev pub with_type : ExpressionStoreBuilder → TypeRef → ExpressionStoreBuilder
with_type b type_ref = record b { types = b.types ++ type_ref ∷ [] }

abbrev pub with_label : ExpressionStoreBuilder → Label → ExpressionStoreBuilder
with_label b label = record b { labels = b.labels ++ label ∷ [] }

-- the expression is added to the old builder under this id, and nothing else changes
abbrev pub AddsExpr : ExpressionStoreBuilder → Expr → ExprId → ExpressionStoreBuilder → Type 0
AddsExpr old expr id new = (id ≡ length old.exprs) × (new ≡ with_expr old expr)

abbrev pub AddsPat : ExpressionStoreBuilder → Pat → PatId → ExpressionStoreBuilder → Type 0
AddsPat old pat id new = (id ≡ length old.pats) × (new ≡ with_pat old pat)

abbrev pub AddsType : ExpressionStoreBuilder → TypeRef → TypeRefId → ExpressionStoreBuilder → Type 0
AddsType old type_ref id new = (id ≡ length old.types) × (new ≡ with_type old type_ref)

abbrev pub AddsLabel : ExpressionStoreBuilder → Label → LabelId → ExpressionStoreBuilder → Type 0
AddsLabel old label id new = (id ≡ length old.labels) × (new ≡ with_label old label)

-- the builder with a `break` more, and then with the `if` of a `while`, which has it as its `else`
abbrev pub with_plain_break : ExpressionStoreBuilder → ExpressionStoreBuilder
with_plain_break b = with_expr b (expr.Break None None)

abbrev pub with_while_test : ExpressionStoreBuilder → ExprId → ExprId → ExpressionStoreBuilder
with_while_test b condition body =
    with_expr (with_plain_break b) (expr.If condition body (Some (length b.exprs)))

-- out of memory, or an arena of this length has no place left
abbrev pub IsRefusal : ℕ → HirError → Type 0
IsRefusal count fault =
    (fault ≡ error.Arena Memory) ⊎ ((fault ≡ error.Arena Full) × (count ≡ MOST_ITEMS))

-- the expression is refused, and the builder is as it was
abbrev pub RefusesExpr : ExpressionStoreBuilder → HirError → ExpressionStoreBuilder → Type 0
RefusesExpr old fault new = (new ≡ old) × IsRefusal (length old.exprs) fault

abbrev pub RefusesPat : ExpressionStoreBuilder → HirError → ExpressionStoreBuilder → Type 0
RefusesPat old fault new = (new ≡ old) × IsRefusal (length old.pats) fault

abbrev pub RefusesType : ExpressionStoreBuilder → HirError → ExpressionStoreBuilder → Type 0
RefusesType old fault new = (new ≡ old) × IsRefusal (length old.types) fault

abbrev pub RefusesLabel : ExpressionStoreBuilder → HirError → ExpressionStoreBuilder → Type 0
RefusesLabel old fault new = (new ≡ old) × IsRefusal (length old.labels) fault

-- the `break` of a `while` is refused, or its `if`, which leaves the `break`, or the loop, which leaves both
abbrev pub RefusesWhile :
    ExpressionStoreBuilder → ExprId → ExprId → HirError → ExpressionStoreBuilder → Type 0
RefusesWhile old condition body fault new =
    RefusesExpr old fault new
    ⊎ (RefusesExpr (with_plain_break old) fault new
    ⊎ RefusesExpr (with_while_test old condition body) fault new)

-- the binding is refused, or the pattern that names it, which leaves the binding
abbrev pub RefusesBind : ExpressionStoreBuilder → Binding → HirError → ExpressionStoreBuilder → Type 0
RefusesBind old binding fault new =
    ((new ≡ old) × IsRefusal (length old.bindings) fault) ⊎ RefusesPat (with_binding old binding) fault new

-- the pattern that is assigned to is refused, or the assignment, which leaves the pattern
abbrev pub RefusesAssign : ExpressionStoreBuilder → Pat → HirError → ExpressionStoreBuilder → Type 0
RefusesAssign old target fault new = RefusesPat old fault new ⊎ RefusesExpr (with_pat old target) fault new

-- the builder isn't finished, by its first fault or out of memory, and the error is the fault
abbrev pub RefusesStore : ExpressionStoreBuilder → FinishFault → Type 0
RefusesStore b fault =
    ((fault ≡ finish.Memory) ⊎ finish_fault (building_of b) (Some fault))
    × (store_error (nodes_of b) fault ≡ error.Store fault)

-- the builder isn't finished, since this node names this id, which doesn't exist: the first such node, and of
-- it the first such id
abbrev pub RefusesId : ExpressionStoreBuilder → NodeId → NamedId → Type 0
RefusesId b node named =
    finish_fault (building_of b) (Some (finish.IdOutOfRange node))
    × (missing_id (nodes_of b) node ≡ Some named)

-- out of memory, or the first fault of the builder, or that of the body
abbrev pub RefusesBody : ExpressionStoreBuilder → BodyContents → HirError → Type 0
RefusesBody b made (error.Arena fault) = fault ≡ Memory
RefusesBody b made (error.Store fault) = RefusesStore b fault
RefusesBody b made (error.IdOutOfRange node named) = RefusesId b node named
RefusesBody b made (error.Body fault) = (fault ≡ body.Memory) ⊎ body_fault made (Some fault)
RefusesBody b made (error.Signature fault) = ⊥
RefusesBody b made (error.Missing definition) = ⊥
RefusesBody b made (error.Scopes fault) = ⊥
RefusesBody b made (error.Print fault) = ⊥
RefusesBody b made (error.Captures fault) = ⊥
RefusesBody b made (error.Rename fault) = ⊥
RefusesBody b made (error.ArgumentLists segments lists) = ⊥

-- out of memory, or the first fault of the builder, or that of the signature
abbrev pub RefusesSignature : ExpressionStoreBuilder → (Option SignatureFault → Type 0) → HirError → Type 0
RefusesSignature b first (error.Arena fault) = fault ≡ Memory
RefusesSignature b first (error.Store fault) = RefusesStore b fault
RefusesSignature b first (error.IdOutOfRange node named) = RefusesId b node named
RefusesSignature b first (error.Body fault) = ⊥
RefusesSignature b first (error.Signature fault) = first (Some fault)
RefusesSignature b first (error.Missing definition) = ⊥
RefusesSignature b first (error.Scopes fault) = ⊥
RefusesSignature b first (error.Print fault) = ⊥
RefusesSignature b first (error.Captures fault) = ⊥
RefusesSignature b first (error.Rename fault) = ⊥
RefusesSignature b first (error.ArgumentLists segments lists) = ⊥

-- there are more or fewer lists than names, and the error says how many of each; or there is one for each,
-- and an allocation fails
abbrev pub RefusesLists : List (List ℕ) → List (Option GenericArgs) → HirError → Type 0
RefusesLists names lists fault =
    ((fault ≡ error.ArgumentLists (length names) (length lists)) × (length lists ≡ length names → ⊥))
    ⊎ ((fault ≡ error.Arena Memory) × (length lists ≡ length names))
