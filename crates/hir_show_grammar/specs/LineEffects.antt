-- What a line does to what was made before it. A builder says what is made with one thing more, and whether a
-- self parameter and a name were given, since a second one of these is bad.
use Rattle.std.specs.Prelude.{◌≡◌, ◌≢◌, ℕ, true, false, Bool, if◌then◌else◌, List, Option, None, Some, Result, MatchResult, ◌↔◌}
use Rattle.std.specs.Option.{option_and_then}
use Rattle.hir_show_grammar.specs.declared.question.Question.{Question}
use Rattle.hir_show_grammar.specs.declared.line_error.LineError.{LineError}
use Rattle.hir_show_grammar.specs.declared.line_error.LineError.TheVariants as stop
use Rattle.hir_show_grammar.specs.Line.{Line, Blank, Make, Ask, Bad, makes, asks}
use Rattle.hir_show_grammar.specs.Makers.{Maker}
use Rattle.hir_show_grammar.specs.Makers as make
use Rattle.hir_show_grammar.specs.Readings.{Reading, whole}

-- a thing is added; or an allocation for it failed, and nothing is changed
abbrev pub AddsOne : {B : Type 0} → B → B → B → Result (Unit {0}) LineError → Type 0
AddsOne added old new result = MatchResult result (λ done. new ≡ added) (λ why. (why ≡ stop.Memory)
    × (new ≡ old))

-- whether this gives a second self parameter or a second name, where these were given before
abbrev pub is_second : Bool → Bool → Maker → Bool
is_second has_self has_name (make.SelfParam id) = has_self
is_second has_self has_name (make.FnName name) = has_name
is_second has_self has_name (make.Binding binding) = false
is_second has_self has_name (make.Pat pat) = false
is_second has_self has_name (make.TypeRef type_ref) = false
is_second has_self has_name (make.Expr expr) = false
is_second has_self has_name (make.Hygiene id hygiene) = false
is_second has_self has_name (make.Param id) = false
is_second has_self has_name make.Roots = false
is_second has_self has_name (make.Root id) = false

-- from what was made to what is made now; or nothing is changed. It is bad exactly where there is no such
-- step: an allocation fails where there is one
abbrev pub Steps : {B : Type 0} → Option B → B → B → Result (Unit {0}) LineError → Type 0
Steps found old new result =
    MatchResult result (λ done. found ≡ Some new) (λ why. (new ≡ old) × (why ≡ stop.Syntax ↔ found ≡ None))

module _ {B : Type 0} (has_self has_name : B → Bool) (add : B → Maker → B) where
  -- what was made, with one thing more; nothing where it is a second one that is bad
  abbrev pub with : B → Maker → Option B
  with old maker = if is_second (has_self old) (has_name old) maker then None else Some (add old maker)

  -- what was made, with what a line makes
  abbrev pub with_line : B → Line → Option B
  with_line old Blank = Some old
  with_line old (Make maker) = with old maker
  with_line old (Ask question) = None
  with_line old Bad = None

  -- the words make one thing, by what is read of them
  abbrev pub PutsRead : {X : Type 0} → (X → Maker) → Reading X → List (List ℕ) → B → B
      → Result (Unit {0}) LineError → Type 0
  PutsRead make reading words old new result =
      Steps (option_and_then (λ x. with old (make x)) (whole reading words)) old new result

  abbrev pub PutsMaker : Reading Maker → List (List ℕ) → B → B → Result (Unit {0}) LineError → Type 0
  PutsMaker reading words old new result = PutsRead (λ maker. maker) reading words old new result

  -- a line that makes something, or is empty, is taken; another one is left, and nothing is changed
  abbrev pub Makes : Line → B → B → Result Bool LineError → Type 0
  Makes line old new result =
      MatchResult result
      (λ taken. (taken ≡ true → with_line old line ≡ Some new)
      × (taken ≡ false → (new ≡ old) × (makes line ≡ false)))
      (λ why. (new ≡ old) × (asks line ≡ false) × (why ≡ stop.Syntax ↔ with_line old line ≡ None))

abbrev pub line_asked : Option Question → Line
line_asked None = Blank
line_asked (Some question) = Ask question

-- a line that asks something, or is empty, is taken. It is bad exactly where it is neither: an allocation
-- fails where it asks
abbrev pub Asks : Line → Result (Option Question) LineError → Type 0
Asks line result =
    MatchResult result (λ asked. line ≡ line_asked asked)
    (λ why. (line ≢ Blank) × (why ≡ stop.Syntax ↔ asks line ≡ false))
