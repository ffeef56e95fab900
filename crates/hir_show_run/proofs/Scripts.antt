-- Scripts in parts: which lines are a second self parameter or a second name is decided by the lines before.
use Rattle.std.proofs.Common.{◌≡◌, Bool, true, false, ◌||◌, List, [], ◌∷◌, ◌++◌, None, is_some, ℕ, suc, if◌then◌else◌, refl, sym, ap, ◌∙◌, length, append-nil, append_assoc, true≢false}
use Rattle.std.proofs.Math.Bool.{or_assoc, or-false, or-true}
use Rattle.std.specs.Cmp.{first_so, second_so}
use Rattle.hir_show_grammar.specs.declared.question.Question.{Question}
use Rattle.std.specs.List.{list_all, list_any}
use Rattle.std.proofs.lemmas.List.{map-append, length-map}
use Rattle.std.proofs.lemmas.List.Folds.{list_any-append}
use Rattle.hir_show_grammar.specs.Line.{Line, Blank, Make, Ask, Bad, line_of, asks}
use Rattle.hir_show_grammar.specs.Makers.{Maker}
use Rattle.hir_show_grammar.specs.Makers as make
use Rattle.hir_show_grammar.specs.LineEffects.{is_second as is_second_of}
use Rattle.hir_show_run.specs.Parts.{Parts, with_line}
use Rattle.hir_show_run.specs.internal.Parts.{is_second}
use Rattle.hir_show_run.specs.Program.{gives_self, gives_name, unless_second, once_each, says, script, line_after}

-- a script in two parts
once_each-append : (s n : Bool) (xs ys : List Line) → once_each s n (xs ++ ys) ≡ once_each s n xs ++ once_each (s || list_any gives_self xs) (n || list_any gives_name xs) ys
once_each-append s n [] ys = rw (or-false s, or-false n) refl
once_each-append s n (x ∷ xs) ys =
    ap (λ v. unless_second s n x ∷ v) (once_each-append (s || gives_self x) (n || gives_name x) xs ys
    ∙ (rw (or_assoc s (gives_self x) (list_any gives_self xs), or_assoc n (gives_name x) (list_any gives_name xs)) refl))

once_each-length : (s n : Bool) (ls : List Line) → length (once_each s n ls) ≡ length ls
once_each-length s n [] = refl
once_each-length s n (line ∷ ls) = ap suc (once_each-length (s || gives_self line) (n || gives_name line) ls)

pub script-length : (texts : List (List ℕ)) → length (script texts) ≡ length texts
script-length texts = once_each-length false false (says texts) ∙ length-map texts line_of

-- what comes after some texts
abbrev pub lines_after : List (List ℕ) → List (List ℕ) → List Line
lines_after texts more = once_each (list_any gives_self (says texts)) (list_any gives_name (says texts)) (says more)

pub script-append : (texts more : List (List ℕ)) → script (texts ++ more) ≡ script texts ++ lines_after texts more
script-append texts more = ap (once_each false false) (map-append line_of texts more) ∙ once_each-append false false (says texts) (says more)

pub script-push : (texts : List (List ℕ)) (text : List ℕ) → script (texts ++ text ∷ []) ≡ script texts ++ line_after texts text ∷ []
script-push texts text = script-append texts (text ∷ [])

pub says-push : (texts : List (List ℕ)) (text : List ℕ) → says (texts ++ text ∷ []) ≡ says texts ++ line_of text ∷ []
says-push texts text = map-append line_of texts (text ∷ [])

any-push : (p : Line → Bool) (texts : List (List ℕ)) (text : List ℕ) → list_any p (says (texts ++ text ∷ [])) ≡ (list_any p (says texts) || p (line_of text))
any-push p texts text =
    ap (list_any p) (map-append line_of texts (text ∷ [])) ∙ list_any-append p (says texts) (line_of text ∷ []) ∙ ap (λ b. list_any p (says texts) || b) (or-false (p (line_of text)))

-- one text after others, and then more
pub suffix-cons : (texts more : List (List ℕ)) (text : List ℕ) → lines_after texts (text ∷ more) ≡ line_after texts text ∷ lines_after (texts ++ text ∷ []) more
suffix-cons texts more text = rw (any-push gives_self texts text, any-push gives_name texts text) refl

-- what asks is no second self parameter and no second name
unless-asks : (s n : Bool) (line : Line) → asks line ≡ true → unless_second s n line ≡ line
unless-asks s n Blank h = refl
unless-asks s n (Make maker) h = absurd (true≢false (sym h))
unless-asks s n (Ask question) h = refl
unless-asks s n Bad h = absurd (true≢false (sym h))

pub suffix_is : (texts : List (List ℕ)) (text : List ℕ) → asks (line_of text) ≡ true → line_after texts text ≡ line_of text
suffix_is texts text h = unless-asks (list_any gives_self (says texts)) (list_any gives_name (says texts)) (line_of text) h

pub after_question : (texts : List (List ℕ)) (text : List ℕ) (question : Question) → line_of text ≡ Ask question → line_after texts text ≡ Ask question
after_question texts text question e = suffix_is texts text (ap asks e) ∙ e

-- a bad line stays bad
pub bad_is : (texts : List (List ℕ)) (text : List ℕ) → line_of text ≡ Bad → line_after texts text ≡ Bad
bad_is texts text e = ap (unless_second (list_any gives_self (says texts)) (list_any gives_name (says texts))) e

-- questions after others are as they are
pub suffix-asked : (texts questions more : List (List ℕ)) → list_all asks (says questions) ≡ true → lines_after texts (questions ++ more) ≡ says questions ++ lines_after (texts ++ questions) more
suffix-asked texts [] more h = rw (append-nil texts) refl
suffix-asked texts (text ∷ questions) more h =
    suffix-cons texts (questions ++ more) text
    ∙ ap (λ l. l ∷ lines_after (texts ++ text ∷ []) (questions ++ more)) (suffix_is texts text (first_so _ _ h))
    ∙ ap (λ rest. line_of text ∷ rest) (suffix-asked (texts ++ text ∷ []) questions more (second_so _ _ h))
    ∙ ap (λ prefix. line_of text ∷ (says questions ++ lines_after prefix more)) (append_assoc texts (text ∷ []) questions)

asks-second : (s n : Bool) (line : Line) → asks line ≡ false → asks (unless_second s n line) ≡ false
asks-second s n Blank h = absurd (true≢false h)
asks-second s n (Ask question) h = absurd (true≢false h)
asks-second s n (Make maker) h = either (is_second_of s n maker)
  where
    either : (b : Bool) → asks (if b then Bad else Make maker) ≡ false
    either true = refl
    either false = refl
asks-second s n Bad h = refl

-- what is no question stays none
pub suffix-bad : (texts : List (List ℕ)) (text : List ℕ) → asks (line_of text) ≡ false → asks (line_after texts text) ≡ false
suffix-bad texts text h = asks-second (list_any gives_self (says texts)) (list_any gives_name (says texts)) (line_of text) h

-- whether a self parameter and a name were given is decided by what was made
pub record Tells (parts : Parts) (texts : List (List ℕ)) : Type 0 where
  pub self_param : is_some parts.self_param ≡ list_any gives_self (says texts)
  pub name : is_some parts.name ≡ list_any gives_name (says texts)

-- a line that makes something, after others
pub after_make : (parts : Parts) (texts : List (List ℕ)) (text : List ℕ) (maker : Maker) → Tells parts texts → line_of text ≡ Make maker → line_after texts text ≡ (if is_second parts maker then Bad else Make maker)
after_make parts texts text maker t e =
    ap (unless_second (list_any gives_self (says texts)) (list_any gives_name (says texts))) e
    ∙ ap (λ b. if is_second_of b (list_any gives_name (says texts)) maker then Bad else Make maker) (sym t.self_param)
    ∙ ap (λ b. if is_second_of (is_some parts.self_param) b maker then Bad else Make maker) (sym t.name)

pub tells_nothing : (parts : Parts) → parts.self_param ≡ None → parts.name ≡ None → Tells parts []
tells_nothing parts h k = record { self_param = ap is_some h; name = ap is_some k }

tells-by : (parts parts' : Parts) (line : Line) → is_some parts'.self_param ≡ (is_some parts.self_param || gives_self line) → is_some parts'.name ≡ (is_some parts.name || gives_name line)
    → (texts : List (List ℕ)) (text : List ℕ) → line_of text ≡ line → Tells parts texts → Tells parts' (texts ++ text ∷ [])
tells-by parts parts' line h k texts text e t = record {
  self_param = h ∙ (rw (t.self_param, ← e) (sym (any-push gives_self texts text)));
  name = k ∙ (rw (t.name, ← e) (sym (any-push gives_name texts text)));
}

pub tells_blank : (parts : Parts) (texts : List (List ℕ)) (text : List ℕ) → line_of text ≡ Blank → Tells parts texts → Tells parts (texts ++ text ∷ [])
tells_blank parts texts text e t = tells-by parts parts Blank (sym (or-false _)) (sym (or-false _)) texts text e t

pub tells_more : (parts : Parts) (maker : Maker) (texts : List (List ℕ)) (text : List ℕ) → line_of text ≡ Make maker → Tells parts texts → Tells (with_line parts maker) (texts ++ text ∷ [])
tells_more parts maker texts text e t = tells-by parts (with_line parts maker) (Make maker) (self-is maker) (name-is maker) texts text e t
  where
    self-is : (maker : Maker) → is_some (with_line parts maker).self_param ≡ (is_some parts.self_param || is_second_of true false maker)
    self-is (make.SelfParam id) = sym (or-true _)
    self-is (make.FnName name) = sym (or-false _)
    self-is (make.Binding binding) = sym (or-false _)
    self-is (make.Pat pat) = sym (or-false _)
    self-is (make.TypeRef type_ref) = sym (or-false _)
    self-is (make.Expr expr) = sym (or-false _)
    self-is (make.Hygiene id hygiene) = sym (or-false _)
    self-is (make.Param id) = sym (or-false _)
    self-is make.Roots = sym (or-false _)
    self-is (make.Root id) = sym (or-false _)

    name-is : (maker : Maker) → is_some (with_line parts maker).name ≡ (is_some parts.name || is_second_of false true maker)
    name-is (make.FnName name) = sym (or-true _)
    name-is (make.SelfParam id) = sym (or-false _)
    name-is (make.Binding binding) = sym (or-false _)
    name-is (make.Pat pat) = sym (or-false _)
    name-is (make.TypeRef type_ref) = sym (or-false _)
    name-is (make.Expr expr) = sym (or-false _)
    name-is (make.Hygiene id hygiene) = sym (or-false _)
    name-is (make.Param id) = sym (or-false _)
    name-is make.Roots = sym (or-false _)
    name-is (make.Root id) = sym (or-false _)
