-- A name that is found is captured where the scope that binds it is among the outermost.
use Rattle.std.proofs.Common.{◌≡◌, ℕ, suc, ◌+◌, ◌<◌, ◌≤◌, ◌-◌, List, [], ◌∷◌, ◌++◌, Option, Some, None, take, drop, length, length-append, rules}
use Rattle.std.proofs.Common.{refl, ap, sym, ◌∙◌, arith}
use Rattle.std.proofs.Math.Seq.{take-append-add}
use Rattle.std.proofs.lemmas.{List.take-append-drop, List.take-append-le, List.Concat.flat_map-append}
use Rattle.std.specs.{List.slice_get, List.flat_map, List.AllByRecursion, Option.option_or}
use Rattle.hir_base.specs.declared.hygiene.SyntaxContext.{SyntaxContext}
use Rattle.hir_validate.specs.TestedParts.{all_of}
use Rattle.hir_validate.proofs.SoundLemmas.{item_at}
use Rattle.hir_scope.specs.{Frames.Frame, Frames.Chain, Paths.path, Paths.frame_at, Paths.chain}
use Rattle.hir_scope.specs.Resolution.{resolve, IsFound}
use Rattle.hir_scope.specs.Scopes.{Scope, ParentsStandEarlier, frame_of}
use Rattle.hir_scope.specs.declared.scope.ScopeEntry.{ScopeEntry}
use Rattle.hir_scope.proofs.{PathLemmas.path_step, ResolveLemmas.resolve_append, ResolveLemmas.found_resolves}
use Rattle.hir_captures.specs.Captures.{outer_entry, resolve_outside}
use Rattle.std.proofs.lemmas.Grind.{common_steps}

-- 1. Scopes of a chain

-- each of these scopes exists
abbrev pub AllInRange : List Scope → List ℕ → Type 0
AllInRange scopes ids = AllByRecursion (λ (s : ℕ). s < length scopes) ids

abbrev frames : List Scope → List ℕ → Chain
frames scopes ids = flat_map (frame_at scopes) ids

one_frame : (scopes : List Scope) (s : ℕ) (x : Scope) (ids : List ℕ) → slice_get scopes s ≡ Some x →
    frames scopes (s ∷ ids) ≡ frame_of x ∷ frames scopes ids
one_frame scopes s x ids e = ap (λ (o : Option Scope). all_of (λ (y : Scope). frame_of y ∷ []) o ++ frames scopes ids) e

pub as_many : (scopes : List Scope) (ids : List ℕ) → AllInRange scopes ids → length (frames scopes ids) ≡ length ids
as_many scopes [] h = refl
as_many scopes (s ∷ ids) h = grind (arith, common_steps, item_at scopes s h.0, one_frame, as_many scopes ids h.1)

-- 2. The prefix of a chain

module _ (n : List ℕ) (h : SyntaxContext) where
  none_in_front : (m : ℕ) (xs : Chain) → resolve xs n h ≡ None → resolve (take m xs) n h ≡ None
  none_in_front m xs e = grind (arith, common_steps, resolve_append n h (take m xs) (drop m xs), take-append-drop m xs)

  -- an entry of the first frame is in the prefix
  found_in_front : (f : Frame) (entry : ScopeEntry) → resolve (f ∷ []) n h ≡ Some entry → (k : ℕ) (fs : Chain) →
      resolve (take (suc k) (f ∷ fs)) n h ≡ Some entry
  found_in_front f entry e k fs = grind (arith, common_steps, resolve_append n h (f ∷ []) (take k fs))

-- 3. What is found

module _ (scopes : List Scope) (earlier : ParentsStandEarlier scopes) (from : ℕ) (n : List ℕ) (h : SyntaxContext)
    (s : ℕ) (entry : ScopeEntry) (f : IsFound scopes from n h s entry) (outermost : ℕ) where
  abbrev whole : Chain
  whole = chain scopes (Some from)

  abbrev outer : Chain
  outer = chain scopes (Some s)

  abbrev inner : Chain
  inner = frames scopes f.before

  parts : whole ≡ inner ++ outer
  parts = ap (frames scopes) f.on_the_way ∙ flat_map-append (frame_at scopes) f.before (path scopes (Some s))

  long : length whole ≡ length inner + length outer
  long = ap (length {A = Frame}) parts ∙ length-append inner outer

  means : resolve whole n h ≡ Some entry
  means = found_resolves scopes earlier from n h s entry f

  -- among the outermost scopes
  pub found_behind : length outer ≤ outermost → resolve_outside (length whole - outermost) whole n h ≡ Some entry.binding
  found_behind l = search (rules, long, parts, take-append-le, none_in_front, means)

  -- further in
  pub found_within : outermost < length outer → resolve_outside (length whole - outermost) whole n h ≡ None
  found_within l =
      let k = length outer - outermost - 1 in
      let x = item_at scopes s f.in_range in
      let fs = frames scopes (path scopes x.0.parent) in
      let first : resolve (frame_of x.0 ∷ []) n h ≡ Some entry =
      sym (ap (λ (c : Chain). resolve c n h) (ap (all_of (λ (y : Scope). frame_of y ∷ [])) x.1)) ∙ f.is_first in
      let out : outer ≡ frame_of x.0 ∷ fs =
      ap (frames scopes) (path_step scopes s x.0 earlier x.1) ∙ one_frame scopes s x.0 (path scopes x.0.parent) x.1 in
      let many : length whole - outermost ≡ length inner + suc k = omega (arith, long, l) in
      let front : resolve (take (length whole - outermost) whole) n h ≡ Some entry =
      ap (λ (j : ℕ). resolve (take j whole) n h) many
      ∙ (ap (λ (c : Chain). resolve (take (length inner + suc k) c) n h) parts
      ∙ (ap (λ (c : Chain). resolve c n h) (take-append-add inner outer (suc k))
      ∙ (resolve_append n h inner (take (suc k) outer)
      ∙ (ap (λ (o : Option ScopeEntry). option_or o (resolve (take (suc k) outer) n h)) f.none_before
      ∙ (ap (λ (c : Chain). resolve (take (suc k) c) n h) out
      ∙ found_in_front n h (frame_of x.0) entry first k fs))))) in
      λ i. outer_entry (front i) (means i)
