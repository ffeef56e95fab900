-- The answers to questions.
use Rattle.hir_show_run.specs.Prelude.{ℕ, List, [], Option, None, Some, codes, length, nat_lt, flat_map, decimal, Name, SyntaxContext, Root, Expansion, ExprId, BindingId, Question, OfStore, OfBody, StoreQuestion, Children, RootOf, BodyQuestion, Nodes, root_for_expr, Contents, child_exprs, BodyContents, BodyReaches, ScopeEntry, entry_nodes_of_body, HasChain, Chain, resolve, entries_of, AreCaptures, IsReachedClosure}
use Rattle.std.specs.Prelude.{◌≡◌, ◌∷◌, ◌++◌, if◌then◌else◌}
use Rattle.hir_node.specs.declared.node_id.NodeId.TheVariants as node
use Rattle.hir_show_grammar.specs.declared.question.BodyQuestion.TheVariants as ask
use Rattle.hir_forest.specs.declared.roots.Root as forest
use Rattle.hir_show_run.specs.Printing.{print_text}

-- an answer: the question's word, the expression, what is known of it, and a line end
abbrev pub answer_line : List ℕ → ℕ → List ℕ → List ℕ
answer_line word expr known = word ++ decimal expr ++ known ++ codes "\n"

-- numbers, each after a space
abbrev pub after_spaces : List ℕ → List ℕ
after_spaces numbers = flat_map (λ n. 32 ∷ decimal n) numbers

-- what is known of an expression: its children, or that it doesn't exist
abbrev pub children_text : Nodes → ExprId → List ℕ
children_text s e =
    if nat_lt e (length s.exprs) then codes " =" ++ after_spaces (child_exprs s e) else codes " unknown"

abbrev pub found_text : Option ExprId → List ℕ
found_text None = codes " none"
found_text (Some id) = codes " = " ++ decimal id

-- the root that an expression belongs to, or that there is none
abbrev pub root_text : List forest.Root → ExprId → List ℕ
root_text roots e = found_text (root_for_expr roots e)

-- the answer to a question on a store
abbrev pub store_answer : Contents → StoreQuestion → List ℕ
store_answer c (Children e) = answer_line (codes "children ") e (children_text c.nodes e)
store_answer c (RootOf e) = answer_line (codes "root-of ") e (root_text c.roots e)

-- An expression that the body reaches has one chain, the frames around it; any other has none
abbrev pub IsChainOf : BodyContents → ExprId → Option Chain → Type 0
IsChainOf b expr None = BodyReaches b (node.Expr expr) → ⊥
IsChainOf b expr (Some chain) =
    BodyReaches b (node.Expr expr) × HasChain b.store.nodes (entry_nodes_of_body b) expr chain

-- the names of entries, each after a space
abbrev pub entry_text : ScopeEntry → List ℕ
entry_text entry = 32 ∷ entry.name

abbrev pub names_text : List ScopeEntry → List ℕ
names_text entries = flat_map entry_text entries

-- the names that an expression sees, the innermost first
abbrev pub chain_text : Option Chain → List ℕ
chain_text None = codes " unreached"
chain_text (Some chain) = codes " =" ++ names_text (entries_of chain)

abbrev pub resolved_text : Option ScopeEntry → List ℕ
resolved_text None = codes " none"
resolved_text (Some entry) = codes " = " ++ decimal entry.binding

-- the binding that a name of this hygiene resolves to at an expression
abbrev pub resolve_text : Option Chain → Name → SyntaxContext → List ℕ
resolve_text None name hygiene = codes " unreached"
resolve_text (Some chain) name hygiene = resolved_text (resolve chain name hygiene)

-- the words by which a name was asked for, each after a space: itself and, where it isn't one of source text,
-- its expansion
abbrev pub expansion_text : SyntaxContext → List ℕ
expansion_text (Root edition) = []
expansion_text (Expansion number) = 32 ∷ decimal number

abbrev pub asked_text : Name → SyntaxContext → List ℕ
asked_text name hygiene = 32 ∷ name ++ expansion_text hygiene

-- A closure that a body reaches has captures; any other expression has none
abbrev pub AreCapturesOf : BodyContents → ExprId → Option (List BindingId) → Type 0
AreCapturesOf b expr None = IsReachedClosure b expr → ⊥
AreCapturesOf b expr (Some bindings) = IsReachedClosure b expr × AreCaptures b expr bindings

-- the bindings that a closure captures
abbrev pub captures_text : Option (List BindingId) → List ℕ
captures_text None = codes " no closure"
captures_text (Some bindings) = codes " =" ++ after_spaces bindings

-- the answers to `chain`, `resolve` and `captures`, by what is known
abbrev pub chain_answer : ExprId → Option Chain → List ℕ
chain_answer e known = answer_line (codes "chain ") e (chain_text known)

abbrev pub resolve_answer : ExprId → Name → SyntaxContext → Option Chain → List ℕ
resolve_answer e name hygiene known =
    answer_line (codes "resolve ") e (asked_text name hygiene ++ resolve_text known name hygiene)

abbrev pub captures_answer : ExprId → Option (List BindingId) → List ℕ
captures_answer e bindings = answer_line (codes "captures ") e (captures_text bindings)

-- the text is the answer to a question on the body of the function of this name
abbrev pub IsBodyAnswer : Option (List ℕ) → BodyContents → BodyQuestion → List ℕ → Type 0
IsBodyAnswer function b (ask.Chain e) text =
    (known : Option Chain) × IsChainOf b e known × (text ≡ chain_answer e known)
IsBodyAnswer function b (ask.Resolve e name hygiene) text =
    (known : Option Chain) × IsChainOf b e known × (text ≡ resolve_answer e name hygiene known)
IsBodyAnswer function b ask.Print text = text ≡ print_text function b
IsBodyAnswer function b (ask.Captures e) text =
    (bindings : Option (List BindingId)) × AreCapturesOf b e bindings × (text ≡ captures_answer e bindings)

-- on a store alone, no question on the body is answered
abbrev pub IsStoreAnswer : Contents → Question → List ℕ → Type 0
IsStoreAnswer c (OfStore question) text = text ≡ store_answer c question
IsStoreAnswer c (OfBody question) text = ⊥

-- on a body, both kinds of questions are answered
abbrev pub IsAnswer : Option (List ℕ) → BodyContents → Question → List ℕ → Type 0
IsAnswer function b (OfStore question) text = text ≡ store_answer b.store question
IsAnswer function b (OfBody question) text = IsBodyAnswer function b question text

-- a body with the name of its function
pub record NamedBody : Type 0 where
  pub body : BodyContents
  pub name : Option Name
