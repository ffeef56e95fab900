-- The texts of errors: a sentence for each refusal.
use Rattle.std.specs.Prelude.{◌++◌}
use Rattle.hir_error.specs.Prelude.{List, ℕ, codes, decimal, id_text, generic_text, body_text, fields_text, named_text, type_or_const_param_text, lifetime_param_text, ArenaFault, ExprOrPatId, NodeId, node_text, Missing, Name, Variant, Crate, Signature, Body, Fields, TypeParam, LifetimeParam, DefMap, FinishFault, BodyFault, SignatureFault, ScopesFault, CapturesFault, RenameFault}
use Rattle.hir_collections.specs.declared.arena.ArenaFault.TheVariants as arena
use Rattle.hir_path.specs.declared.ids.ExprOrPatId.TheVariants as either
use Rattle.hir_node.specs.declared.node_id.NodeId.TheVariants as node
use Rattle.hir_validate.specs.declared.fault.FinishFault.TheVariants as finish
use Rattle.hir_body.specs.declared.body_fault.BodyFault.TheVariants as body
use Rattle.hir_signature.specs.declared.signature_fault.SignatureFault.TheVariants as signature
use Rattle.hir_scope.specs.declared.fault.ScopesFault.TheVariants as scopes
use Rattle.hir_pretty_nodes.specs.declared.fault.PrintFault.TheVariants as print
use Rattle.hir_captures.specs.declared.fault.CapturesFault.TheVariants as captures
use Rattle.hir_usages.specs.declared.rename_fault.RenameFault.TheVariants as rename
use Rattle.hir_error.specs.declared.named_id.NamedId.{NamedId}
use Rattle.hir_error.specs.declared.named_id.NamedId.TheVariants as named
use Rattle.hir_error.specs.NamedIds.{named_id_text}
use Rattle.hir_error.specs.declared.error.HirError.{HirError}
use Rattle.hir_error.specs.declared.error.HirError.TheVariants as error

-- an allocation failed
abbrev pub out_of_memory : List ℕ
out_of_memory = codes "out of memory"

-- why an arena refuses an element
abbrev pub arena_sentence : ArenaFault → List ℕ
arena_sentence arena.Memory = out_of_memory
arena_sentence arena.Full = codes "an arena is full"

-- why a builder is refused, as `ExprId(1) is a child more than once`; roots are counted from 0
abbrev pub store_sentence : FinishFault → List ℕ
store_sentence finish.NoRoots = codes "there are nodes of a body, but no list of roots was begun"
store_sentence (finish.IdOutOfRange node) = node_text node ++ codes " names an id that doesn't exist"
store_sentence (finish.NotAPath node) =
    node_text node ++ codes " names as the path of a bound a type that isn't a path"
store_sentence (finish.NoReturnType node) =
    node_text node ++ codes " is a function type without a return type"
store_sentence (finish.NoSelfArgument node) =
    node_text node ++ codes " has generic arguments that lack their self type"
store_sentence (finish.ArgumentLists node) =
    node_text node ++ codes " has a path without one list of arguments for each segment"
store_sentence (finish.SharedChild node) = node_text node ++ codes " is a child more than once"
store_sentence (finish.Cycle node) = node_text node ++ codes " is on a cycle, or a descendant of one"
store_sentence (finish.RootOutOfRange i) =
    codes "root " ++ decimal i ++ codes " is an expression that doesn't exist"
store_sentence (finish.RootRepeated i) = codes "root " ++ decimal i ++ codes " repeats an earlier root"
store_sentence (finish.RootUnderRoot i) =
    codes "root " ++ decimal i ++ codes " is a descendant of another root"
store_sentence (finish.RootEnds i) =
    codes "an end of root " ++ decimal i ++ codes " is past its arena, or less than that of the root before"
store_sentence finish.Memory = out_of_memory

-- why a builder is refused whose node names an id that doesn't exist, as
-- `ExprId(1) names ExprId(99), which doesn't exist`
abbrev pub out_of_range_sentence : NodeId → NamedId → List ℕ
out_of_range_sentence node named = node_text node ++ codes " names " ++ named_id_text named
    ++ codes ", which doesn't exist"

-- why a body is refused, as `parameter 1 has a pattern that doesn't exist`; parameters are counted from 0
abbrev pub body_sentence : BodyFault → List ℕ
body_sentence body.NoRoot = codes "the store of the body has no root"
body_sentence body.SelfOutOfRange = codes "the self parameter has a binding that doesn't exist"
body_sentence (body.ParamOutOfRange i) =
    codes "parameter " ++ decimal i ++ codes " has a pattern that doesn't exist"
body_sentence (body.ParamRepeated i) =
    codes "parameter " ++ decimal i ++ codes " has the pattern of an earlier parameter"
body_sentence (body.ParamUnder i) =
    codes "parameter " ++ decimal i ++ codes " is a descendant of another parameter or of the last root"
body_sentence body.RootInParam = codes "the last root is a descendant of a parameter"
body_sentence body.Memory = out_of_memory

-- why a signature is refused
abbrev pub signature_sentence : SignatureFault → List ℕ
signature_sentence signature.IdOutOfRange = codes "the signature names an id that doesn't exist"
signature_sentence signature.NotAPath =
    codes "the signature names as the path of a bound a type that isn't a path"
signature_sentence signature.Memory = out_of_memory

-- why scopes aren't made
abbrev pub scopes_sentence : ScopesFault → List ℕ
scopes_sentence scopes.Missing = codes "the tables lack the body, signature or fields of the definition"
scopes_sentence scopes.Full = codes "there are too many scopes or entries of scopes"
scopes_sentence scopes.Memory = out_of_memory

-- why captures aren't found
abbrev pub captures_sentence : CapturesFault → List ℕ
captures_sentence captures.NotAClosure = codes "the expression isn't a closure that the body reaches"
captures_sentence captures.Memory = out_of_memory

-- the node that a use is
abbrev pub node_of : ExprOrPatId → NodeId
node_of (either.ExprId id) = node.Expr id
node_of (either.PatId id) = node.Pat id

-- why a binding may not have a name, as `ExprId(4) would resolve to BindingId(1)`
abbrev pub rename_sentence : RenameFault → List ℕ
rename_sentence rename.NotBound = codes "the body has no entry of the binding"
rename_sentence rename.IsSelf = codes "self has no other name, and no other variable is named self"
rename_sentence (rename.SameFrame other) =
    named_id_text (named.Binding other) ++ codes " has the name in the same frame"
rename_sentence (rename.Hidden usage by) =
    node_text (node_of usage) ++ codes " would resolve to " ++ named_id_text (named.Binding by)
rename_sentence (rename.Captures usage was) =
    node_text (node_of usage) ++ codes " would resolve to the renamed binding"
rename_sentence rename.Memory = out_of_memory

-- what of a definition is missing, and of which, as `no signature of FunctionId(7)`
abbrev pub missing_text : Missing → List ℕ
missing_text (Name id) = codes "no name of " ++ named_text id
missing_text (Variant id) = codes "no enum of " ++ id_text (codes "EnumVariantId") id
missing_text (Crate id) = codes "no name of " ++ id_text (codes "CrateId") id
missing_text (Signature id) = codes "no signature of " ++ generic_text id
missing_text (Body id) = codes "no body of " ++ body_text id
missing_text (Fields id) = codes "no fields of " ++ fields_text id
missing_text (TypeParam id) = codes "no type parameter " ++ type_or_const_param_text (codes "TypeParamId") id
missing_text (LifetimeParam id) = codes "no lifetime parameter " ++ lifetime_param_text id
missing_text (DefMap id) = codes "no definition map of " ++ id_text (codes "BlockId") id

-- why a path isn't made: it has this many segments, and was given this many lists of arguments
abbrev pub lists_sentence : ℕ → ℕ → List ℕ
lists_sentence segments lists = codes "a path needs one list of arguments for each segment (segments: "
    ++ decimal segments ++ codes ", lists: " ++ decimal lists ++ codes ")"

-- what was refused, and why
abbrev pub error_text : HirError → List ℕ
error_text (error.Arena fault) = arena_sentence fault
error_text (error.Store fault) = store_sentence fault
error_text (error.IdOutOfRange node named) = out_of_range_sentence node named
error_text (error.Body fault) = body_sentence fault
error_text (error.Signature fault) = signature_sentence fault
error_text (error.Missing missing) = missing_text missing
error_text (error.Scopes fault) = scopes_sentence fault
error_text (error.Print (print.Missing missing)) = missing_text missing
error_text (error.Print print.Memory) = out_of_memory
error_text (error.Captures fault) = captures_sentence fault
error_text (error.Rename fault) = rename_sentence fault
error_text (error.ArgumentLists segments lists) = lists_sentence segments lists
