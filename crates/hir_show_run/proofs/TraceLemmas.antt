-- The trace of a script, section by section.
use Rattle.std.proofs.Common.{◌≡◌, ◌+◌, ℕ, Bool, true, false, List, [], ◌∷◌, ◌++◌, length, refl, ap, ◌∙◌, append-nil}
use Rattle.std.specs.Cmp.{first_so, second_so}
use Rattle.std.specs.List.{list_all}
use Rattle.hir_show_grammar.specs.Line.{Line, Blank, Make, Ask, Bad, makes, may_ask, asks}
use Rattle.hir_show_grammar.specs.declared.question.Question.{Question}
use Rattle.hir_show_run.specs.Program.{prefix, suffix, Outcome, Trace, AreAnswers, section, after_making, accepts, making, built_by, ScriptRuns, IsMeaning}

-- lines of which each passes, and others after them
prefix-all : (p : Line → Bool) (xs ys : List Line) → list_all p xs ≡ true → prefix p (xs ++ ys) ≡ xs ++ prefix p ys
prefix-all p [] ys all = refl
prefix-all p (x ∷ xs) ys all =
    let head : p x ≡ true = first_so (p x) (list_all p xs) all in
    let tail = prefix-all p xs ys (second_so (p x) (list_all p xs) all) in
    rw head (ap (λ v. x ∷ v) tail)

suffix-all : (p : Line → Bool) (xs ys : List Line) → list_all p xs ≡ true → suffix p (xs ++ ys) ≡ suffix p ys
suffix-all p [] ys all = refl
suffix-all p (x ∷ xs) ys all =
    let head : p x ≡ true = first_so (p x) (list_all p xs) all in
    rw head (suffix-all p xs ys (second_so (p x) (list_all p xs) all))

-- lines that begin with none that passes
pub data BeginsOutside (p : Line → Bool) : List Line → Type 0 where
  no_line : BeginsOutside p []
  outside : {line : Line} {rest : List Line} → p line ≡ false → BeginsOutside p (line ∷ rest)

prefix-outside : (p : Line → Bool) (ls : List Line) → BeginsOutside p ls → prefix p ls ≡ []
prefix-outside p [] no_line = refl
prefix-outside p (line ∷ rest) (outside fails) = rw fails refl

suffix-outside : (p : Line → Bool) (ls : List Line) → BeginsOutside p ls → suffix p ls ≡ ls
suffix-outside p [] no_line = refl
suffix-outside p (line ∷ rest) (outside fails) = rw fails refl

prefix-is : (p : Line → Bool) (xs ys : List Line) → list_all p xs ≡ true → BeginsOutside p ys → prefix p (xs ++ ys) ≡ xs
prefix-is p xs ys all out = prefix-all p xs ys all ∙ ap (λ v. xs ++ v) (prefix-outside p ys out) ∙ append-nil xs

suffix-is : (p : Line → Bool) (xs ys : List Line) → list_all p xs ≡ true → BeginsOutside p ys → suffix p (xs ++ ys) ≡ ys
suffix-is p xs ys all out = suffix-all p xs ys all ∙ suffix-outside p ys out

-- lines that make, and what comes after them
pub runs_after : (idle : Trace) (ls rest : List Line) (text : List ℕ) (outcome : Outcome) → list_all makes ls ≡ true → BeginsOutside makes rest → after_making idle (built_by ls) (length ls) rest text outcome → ScriptRuns idle (ls ++ rest) text outcome
unfolding ScriptRuns making
runs_after idle ls rest text outcome all out trace = rw (prefix-is makes ls rest all out, suffix-is makes ls rest all out) trace

pub means_after : (ls rest : List Line) (text : List ℕ) (outcome : Outcome) → list_all makes ls ≡ true → BeginsOutside makes rest → after_making (accepts (built_by ls)) (built_by ls) (length ls) rest text outcome → IsMeaning (ls ++ rest) text outcome
unfolding ScriptRuns making
means_after ls rest text outcome all out trace = rw (prefix-is makes ls rest all out, suffix-is makes ls rest all out) trace

-- a section of questions that are answered, and what comes after them
pub section_after : (may : Question → Bool) (Is : Question → List ℕ → Type 0) (next : ℕ → List Line → Trace) (good : ℕ) (done rest : List Line) (answers text : List ℕ) (outcome : Outcome) → list_all (may_ask may) done ≡ true → AreAnswers Is done answers → BeginsOutside (may_ask may) rest → next (good + length done) rest text outcome → section may Is next good (done ++ rest) (answers ++ text) outcome
section_after may Is next good done rest answers text outcome all are out trace =
    let prefix_is = prefix-is (may_ask may) done rest all out in
    let suffix_is = suffix-is (may_ask may) done rest all out in
    (answers, text, rw prefix_is are, rw (prefix_is, suffix_is) trace, refl)

-- what may be asked in a section is a question
pub may_asks : (may : Question → Bool) (line : Line) → may_ask may line ≡ true → asks line ≡ true
may_asks may Blank e = refl
may_asks may (Make maker) e = e
may_asks may (Ask question) e = refl
may_asks may Bad e = e

pub all_asks : (may : Question → Bool) (ls : List Line) → list_all (may_ask may) ls ≡ true → list_all asks ls ≡ true
all_asks may [] all = refl
all_asks may (line ∷ rest) all =
    let head : asks line ≡ true = may_asks may line (first_so (may_ask may line) (list_all (may_ask may) rest) all) in
    rw head (all_asks may rest (second_so (may_ask may line) (list_all (may_ask may) rest) all))

-- what is no question may be asked nowhere
pub asks_not : (may : Question → Bool) (line : Line) → asks line ≡ false → may_ask may line ≡ false
asks_not may Blank e = cc
asks_not may (Make maker) e = refl
asks_not may (Ask question) e = cc
asks_not may Bad e = refl
