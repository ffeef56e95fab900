-- A script has one meaning at most, as each of its parts has.
use Rattle.std.proofs.Common.{◌≡◌, ◌+◌, ℕ, Bool, true, false, List, [], ◌∷◌, ◌++◌, Option, None, Some, length, refl, sym, ap, ◌∙◌}
use Rattle.hir_validate.specs.declared.fault.FinishFault.{FinishFault}
use Rattle.hir_show_grammar.specs.Line.{Line, Blank, Make, Ask, Bad, may_ask, any_question, asks}
use Rattle.hir_show_grammar.specs.declared.question.Question.{Question}
use Rattle.hir_show_grammar.specs.declared.question.Question.TheVariants.{OfStore, OfBody}
use Rattle.hir_show_grammar.specs.declared.question.BodyQuestion.{BodyQuestion}
use Rattle.hir_show_grammar.specs.declared.question.BodyQuestion.TheVariants as ask
use Rattle.hir_store_core.specs.Contents.{Contents, contents_fault}
use Rattle.hir_store.specs.Building.{Building, contents_of, finish_fault}
use Rattle.hir_body.specs.declared.body_fault.BodyFault.{BodyFault}
use Rattle.hir_body.specs.Bodies.{BodyContents, body_fault}
use Rattle.hir_captures.specs.Captures.{AreCaptures, IsReachedClosure}
use Rattle.hir_scope.specs.BodyScopes.{entry_nodes_of_body}
use Rattle.hir_scope.specs.Chains.{HasChain}
use Rattle.hir_scope.specs.Frames.{Chain}
use Rattle.hir_show_run.specs.declared.fault.RunFault.{RunFault}
use Rattle.hir_show_run.specs.Parts.{Parts, body_parts}
use Rattle.hir_show_run.specs.Answer.{IsChainOf, AreCapturesOf, IsBodyAnswer, IsStoreAnswer, IsAnswer, chain_answer, resolve_answer, captures_answer}
use Rattle.hir_show_run.specs.Program.{Outcome, Trace, writes, stops, unless_refused, fault_or, if_so, is_of_store, prefix, suffix, IsLineAnswer, AreAnswers, section, on_body, after_store, on_store, after_making, accepts, first_parts, making, ScriptRuns, IsMeaning}

-- a trace writes one text and ends in one way
abbrev pub One : Trace → Type 0
One trace = (text more : List ℕ) (outcome other : Outcome) → trace text outcome → trace more other → (text ≡ more) × (outcome ≡ other)

writes_one : (bytes : List ℕ) (end : Outcome) → One (writes bytes end)
writes_one bytes end text more outcome other m n = (m.0 ∙ sym n.0, m.1 ∙ sym n.1)

stops_one : (good : ℕ) (script : List Line) → One (stops good script)
stops_one good [] = writes_one [] _
stops_one good (bad ∷ rest) = writes_one [] _

fault_or_one : {F : Type 0} (refusal : F → RunFault) (next : Trace) (verdict : Option F → Type 0) → (verdict None → One next) → (fault : Option F) → verdict fault → One (fault_or refusal next fault)
fault_or_one refusal next verdict one None v = one v
fault_or_one refusal next verdict one (Some fault) v = writes_one [] _

unless_one : {F : Type 0} (verdict : Option F → Type 0) (refusal : F → RunFault) (next : Trace) → ((f g : Option F) → verdict f → verdict g → f ≡ g) → (verdict None → One next) → One (unless_refused verdict refusal next)
unless_one verdict refusal next one_fault one text more outcome other (f, v, m) (g, w, n) =
    fault_or_one refusal next verdict one f v text more outcome other m (rw (one_fault g f w v) at n)

line_answer_one : (Is : Question → List ℕ → Type 0) → ((question : Question) (t u : List ℕ) → Is question t → Is question u → t ≡ u) → (line : Line) (t u : List ℕ) → IsLineAnswer Is line t → IsLineAnswer Is line u → t ≡ u
line_answer_one Is one Blank t u p q = p ∙ sym q
line_answer_one Is one (Make maker) t u p q = absurd p
line_answer_one Is one (Ask question) t u p q = one question t u p q
line_answer_one Is one Bad t u p q = absurd p

answers_one : (Is : Question → List ℕ → Type 0) → ((question : Question) (t u : List ℕ) → Is question t → Is question u → t ≡ u) → (script : List Line) (t u : List ℕ) → AreAnswers Is script t → AreAnswers Is script u → t ≡ u
answers_one Is one [] t u p q = p ∙ sym q
answers_one Is one (line ∷ rest) t u (first, more, is, are, e) (first', more', is', are', e') =
    e ∙ ap (λ v. v ++ more) (line_answer_one Is one line first first' is is') ∙ ap (λ v. first' ++ v) (answers_one Is one rest more more' are are') ∙ sym e'

section_one : (may : Question → Bool) (Is : Question → List ℕ → Type 0) (next : ℕ → List Line → Trace) → ((question : Question) (t u : List ℕ) → Is question t → Is question u → t ≡ u) → ((good : ℕ) (script : List Line) → One (next good script)) → (good : ℕ) (script : List Line) → One (section may Is next good script)
section_one may Is next one one_next good script text more outcome other (a, t, are, m, e) (b, u, are', n, e') =
    let same = answers_one Is one (prefix (may_ask may) script) a b are are' in
    let ends = one_next (good + length (prefix (may_ask may) script)) (suffix (may_ask may) script) t u outcome other m n in
    (e ∙ ap (λ v. v ++ t) same ∙ ap (λ v. b ++ v) ends.0 ∙ sym e', ends.1)

-- an expression has one chain
abbrev pub HasOneChain : BodyContents → Type 0
HasOneChain b = (expr : ℕ) (x y : Chain) → HasChain b.store.nodes (entry_nodes_of_body b) expr x → HasChain b.store.nodes (entry_nodes_of_body b) expr y → x ≡ y

chain_one : (b : BodyContents) → HasOneChain b → (expr : ℕ) (x y : Option Chain) → IsChainOf b expr x → IsChainOf b expr y → x ≡ y
chain_one b one expr None None p q = refl
chain_one b one expr None (Some y) p q = absurd (p q.0)
chain_one b one expr (Some x) None p q = absurd (q p.0)
chain_one b one expr (Some x) (Some y) p q = ap Some (one expr x y p.1 q.1)

-- a closure that is reached has one list of captures
abbrev pub HasOneCapture : BodyContents → Type 0
HasOneCapture b = (closure : ℕ) → IsReachedClosure b closure → (x y : List ℕ) → AreCaptures b closure x → AreCaptures b closure y → x ≡ y

captures_one : (b : BodyContents) → HasOneCapture b → (expr : ℕ) (x y : Option (List ℕ)) → AreCapturesOf b expr x → AreCapturesOf b expr y → x ≡ y
captures_one b one expr None None p q = refl
captures_one b one expr None (Some y) p q = absurd (p q.0)
captures_one b one expr (Some x) None p q = absurd (q p.0)
captures_one b one expr (Some x) (Some y) p q = ap Some (one expr p.0 x y p.1 q.1)

body_answer_one : (function : Option (List ℕ)) (b : BodyContents) → HasOneChain b → HasOneCapture b → (question : BodyQuestion) (t u : List ℕ) → IsBodyAnswer function b question t → IsBodyAnswer function b question u → t ≡ u
body_answer_one function b one alone (ask.Chain e) t u (x, is, s) (y, is', r) = s ∙ ap (chain_answer e) (chain_one b one e x y is is') ∙ sym r
body_answer_one function b one alone (ask.Resolve e name hygiene) t u (x, is, s) (y, is', r) = s ∙ ap (resolve_answer e name hygiene) (chain_one b one e x y is is') ∙ sym r
body_answer_one function b one alone ask.Print t u p q = p ∙ sym q
body_answer_one function b one alone (ask.Captures e) t u (x, is, s) (y, is', r) = s ∙ ap (captures_answer e) (captures_one b alone e x y is is') ∙ sym r

store_answer_one : (c : Contents) (question : Question) (t u : List ℕ) → IsStoreAnswer c question t → IsStoreAnswer c question u → t ≡ u
store_answer_one c (OfStore question) t u p q = p ∙ sym q
store_answer_one c (OfBody question) t u p q = absurd p

answer_one : (function : Option (List ℕ)) (b : BodyContents) → HasOneChain b → HasOneCapture b → (question : Question) (t u : List ℕ) → IsAnswer function b question t → IsAnswer function b question u → t ≡ u
answer_one function b one alone (OfStore question) t u p q = p ∙ sym q
answer_one function b one alone (OfBody question) t u p q = body_answer_one function b one alone question t u p q

sound_contents : (b : Building) → finish_fault b None → contents_fault (contents_of b) None
unfolding finish_fault
sound_contents b v = v.1

module _ (finish_one : (b : Building) (f g : Option FinishFault) → finish_fault b f → finish_fault b g → f ≡ g) (body_one : (b : BodyContents) (f g : Option BodyFault) → body_fault b f → body_fault b g → f ≡ g) (one_chain : (b : BodyContents) → contents_fault b.store None → body_fault b None → HasOneChain b) (one_capture : (b : BodyContents) → contents_fault b.store None → body_fault b None → HasOneCapture b) where
  on_body_one : (parts : Parts) → finish_fault parts.built None → (good : ℕ) (script : List Line) → One (on_body parts good script)
  on_body_one parts sound good script =
      unless_one (body_fault (body_parts parts)) _ _ (body_one (body_parts parts))
      (λ v. section_one any_question (IsAnswer parts.name (body_parts parts)) stops (answer_one parts.name (body_parts parts) (one_chain (body_parts parts) (sound_contents parts.built sound) v) (one_capture (body_parts parts) (sound_contents parts.built sound) v)) stops_one good script)

  after_store_one : (parts : Parts) → finish_fault parts.built None → (good : ℕ) (script : List Line) → One (after_store parts good script)
  after_store_one parts sound good [] = stops_one good []
  after_store_one parts sound good (line ∷ rest) = by (asks line)
    where
      by : (b : Bool) → One (if_so b (on_body parts good (line ∷ rest)) (stops good (line ∷ rest)))
      by true = on_body_one parts sound good (line ∷ rest)
      by false = stops_one good (line ∷ rest)

  on_store_one : (parts : Parts) (good : ℕ) (script : List Line) → One (on_store parts good script)
  on_store_one parts good script =
      unless_one (finish_fault parts.built) _ _ (finish_one parts.built)
      (λ v. section_one is_of_store (IsStoreAnswer (contents_of parts.built)) (after_store parts) (store_answer_one (contents_of parts.built)) (after_store_one parts v) good script)

  after_making_one : (idle : Trace) → One idle → (parts : Parts) (good : ℕ) (script : List Line) → One (after_making idle parts good script)
  after_making_one idle one parts good [] = one
  after_making_one idle one parts good (line ∷ rest) = by (asks line)
    where
      by : (b : Bool) → One (if_so b (on_store parts good (line ∷ rest)) (stops good (line ∷ rest)))
      by true = on_store_one parts good (line ∷ rest)
      by false = stops_one good (line ∷ rest)

  pub IsMeaning-one : (script : List Line) → One (IsMeaning script)
  unfolding ScriptRuns
  IsMeaning-one script =
      after_making_one (accepts (first_parts script)) (unless_one (finish_fault (first_parts script).built) _ _ (finish_one (first_parts script).built) (λ v. writes_one _ _)) (first_parts script) (length (making script)) (suffix _ script)
