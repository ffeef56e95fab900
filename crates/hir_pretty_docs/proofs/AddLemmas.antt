-- Documents that were added to a stack of tokens, one after another.
use Rattle.std.proofs.Common.{◌≡◌, Bool, true, false, arith, List, [], ◌∷◌, ◌++◌, refl, sym, ap, ◌∙◌, append_assoc, append-nil, length, rules}
use Rattle.std.specs.Prelude.{reverse}
use Rattle.std.proofs.lemmas.List.{length-append, reverse-reverse, Concat.flat_map-append}
use Rattle.std.proofs.Math.Seq.{take-append_seam}
use Rattle.hir_collections.specs.Stacks.{StackItems, Defers}
use Rattle.hir_collections.proofs.DeferredLemmas.{defers_none, defers_two}
use Rattle.hir_pretty_docs.specs.declared.token.Token.{Token}
use Rattle.hir_pretty_docs.specs.Prelude.{PrintEnv, Doc, stands_for, docs_of_tokens, docs_one_by_one, stood_after, above, Adds, AddsTokens}
use Rattle.hir_pretty_docs.specs.declared.token.Token.TheVariants as token
use Rattle.std.proofs.lemmas.Grind.{common_steps}

stood_is-after : (s : PrintEnv) (is : List Doc) (tokens : List Token) → is ++ docs_of_tokens s tokens ≡ stood_after s is tokens
stood_is-after s is [] = append-nil is
stood_is-after s is (w ∷ ws) = search (rules, append_assoc, stood_is-after s (is ++ stands_for s w) ws)

pub stood_is : (s : PrintEnv) (tokens : List Token) → docs_of_tokens s tokens ≡ docs_one_by_one s tokens
stood_is s [] = refl
stood_is s (w ∷ ws) = stood_is-after s (stands_for s w) ws

pub meant-append : (s : PrintEnv) (xs ys : List Token)
    → docs_of_tokens s (xs ++ ys) ≡ docs_of_tokens s xs ++ docs_of_tokens s ys
meant-append s xs ys = flat_map-append (stands_for s) xs ys

-- a stack that returned no refusal when it turned nothing over
pub is_false : (b : Bool) → (b ≡ true → ⊥) → b ≡ false
is_false true k = absurd (k refl)
is_false false k = refl

pub checked : {old new : StackItems Token}
    → ((before : StackItems Token) (items : List Token) → length before.items ≡ length old.items → Defers before items old
    → new ≡ record { items = items ++ before.items; refused = false }) → (old.refused ≡ false) × (new ≡ old)
checked {old} {new} h =
    let same : new ≡ record { items = old.items; refused = false } = h old [] refl (defers_none old) in
    let whole : old.refused ≡ false = is_false old.refused (λ e.
    let more : new ≡ record { items = token.Space ∷ old.items; refused = false } = h old (token.Space ∷ []) refl (λ f. absurd (cc)) in
    let long = ap (λ (v : StackItems Token). length v.items) (sym same ∙ more) in absurd (omega arith)) in
    (whole, same ∙ ap (λ b. record { items = old.items; refused = b }) (sym whole))

-- 1. Documents that were added

above_is : (old new : StackItems Token) (tokens : List Token) → new.items ≡ reverse tokens ++ old.items → above old new ≡ tokens
above_is old new tokens e = grind (arith, common_steps, length-append, take-append_seam, reverse-reverse)

-- by the tokens
adding_of : {docs : PrintEnv → List Doc} (old new : StackItems Token) (tokens : List Token) → Defers old tokens new
    → (new.refused ≡ false → (s : PrintEnv) → docs_of_tokens s tokens ≡ docs s) → Adds old docs new
adding_of old new tokens d e = search (rules, above_is)

-- none
pub adds_none : {old : StackItems Token} {docs : PrintEnv → List Doc} → ((s : PrintEnv) → [] ≡ docs s) → Adds old docs old
adds_none {old} e = adding_of old old [] (defers_none old) (λ h. e)

-- documents after others
pub adds_then : {old between new : StackItems Token} {f g : PrintEnv → List Doc} → Adds old f between → Adds between g new
    → Adds old (λ s. f s ++ g s) new
adds_then {old} {between} {new} a b =
    grind (
      arith,
      common_steps,
      adding_of,
      defers_two old between new (above old between) (above between new) a.defers b.defers,
      meant-append,
    )

-- the same documents in other words
pub adds_as : {old new : StackItems Token} {f g : PrintEnv → List Doc} → Adds old f new → ((s : PrintEnv) → f s ≡ g s)
    → Adds old g new
adds_as a e = record { defers = a.defers; same = λ h s. a.same h s ∙ e s }

-- tokens that stand for the documents, and tokens after others
pub adds : {tokens : List Token} {old new : StackItems Token} {is : PrintEnv → List Doc} → AddsTokens old tokens new
    → ((s : PrintEnv) → docs_one_by_one s tokens ≡ is s) → Adds old is new
adds {tokens} {old} {new} a e = adding_of old new tokens a.defers (λ h s. stood_is s tokens ∙ e s)

pub adds_more : {tokens : List Token} {old between new : StackItems Token} {f : PrintEnv → List Doc} → Adds old f between
    → AddsTokens between tokens new → Adds old (λ s. stood_after s (f s) tokens) new
adds_more {tokens} {between = between} {new} {f} a b =
    let more : Adds between (λ s. docs_one_by_one s tokens) new = adds b (λ s. refl) in
    adds_as (adds_then a more)
    (λ s. ap (λ is. f s ++ is) (sym (stood_is s tokens)) ∙ stood_is-after s (f s) tokens)

-- 2. Loops

-- Documents were added, and with those of the rest they are all.
pub record AddsRest (old : StackItems Token) (all : PrintEnv → List Doc) (now : StackItems Token)
    (rest : PrintEnv → List Doc) : Type 0 where
  pub done : PrintEnv → List Doc
  pub adds : Adds old done now
  pub same : (s : PrintEnv) → done s ++ rest s ≡ all s

pub left_begins : {old : StackItems Token} {all rest : PrintEnv → List Doc} → ((s : PrintEnv) → rest s ≡ all s)
    → AddsRest old all old rest
left_begins e = record { done = λ s. []; adds = adds_none (λ s. refl); same = e }

pub left_goes_on : {old between new : StackItems Token} {all rest is more : PrintEnv → List Doc}
    → AddsRest old all between rest → Adds between is new → ((s : PrintEnv) → is s ++ more s ≡ rest s)
    → AddsRest old all new more
left_goes_on {is = is} {more = more} l a e = record {
  done = λ s. l.done s ++ is s;
  adds = adds_then l.adds a;
  same = λ s. append_assoc (l.done s) (is s) (more s) ∙ ap (λ xs. l.done s ++ xs) (e s) ∙ l.same s;
}

pub left_ends : {old now : StackItems Token} {all rest : PrintEnv → List Doc} → AddsRest old all now rest
    → ((s : PrintEnv) → [] ≡ rest s) → Adds old all now
left_ends l e = search (rules, adds_as, adds, append-nil)

pub ruleset adding = (adds, adds_none)
