-- Text that is put piece by piece after what waits.
use Rattle.std.proofs.Common.{◌≡◌, ◌+◌, ◌<◌, [], ◌∷◌, ◌++◌, List, ℕ, Bool, true, false, Option, refl, sym, ap, ◌∙◌, subst, append_assoc, append-nil, get_or, take, length, codes, flat_map, decimal}
use Rattle.std.proofs.lemmas.Grind.{flat_map-append}
use Rattle.std.proofs.lemmas.List.{take_more}
use Rattle.std.specs.Io.KnownBytes.{Appends}
use Rattle.hir_show_io.specs.declared.ends.Sink.{Ghosts}
use Rattle.hir_show_io.specs.Effects.{AppendsPrefix, IsWrittenUpTo}
use Rattle.hir_show_io.proofs.EndLemmas.{Appends-twice, AppendsPrefix-after, AppendsPrefix-more, IsWrittenUpTo-start}
use Rattle.hir_scope.specs.declared.scope.ScopeEntry.{ScopeEntry}
use Rattle.hir_scope.specs.Paths.{frame_at}
use Rattle.hir_scope.specs.Scopes.{Scope}
use Rattle.hir_scope.specs.Frames.{Frame}
use Rattle.hir_scope.specs.Resolution.{entries_of}
use Rattle.hir_show_run.specs.Answer.{answer_line, after_spaces, entry_text, names_text}
use Rattle.hir_show_run.specs.declared.output.Output as code
use Rattle.hir_show_run.specs.internal.Output.{Output, Wrote, WrotePrefix, PutsBy, OutputsText, output_of}

pub Wrote-none : (a : Output) → Wrote a a []
Wrote-none a = rw (append-nil a.waiting) (IsWrittenUpTo-start a.contents a.waiting)

-- what was written, and then more
pub Wrote-then : (a b c : Output) (text more : List ℕ) → Wrote a b text → Wrote b c more → Wrote a c (text ++ more)
Wrote-then a b c text more w v =
    (w.0 ++ v.0, sym (append_assoc a.waiting text more) ∙ ap (λ x. x ++ more) w.1 ∙ append_assoc w.0 b.waiting more ∙ ap (λ x. w.0 ++ x) v.1 ∙ sym (append_assoc w.0 v.0 c.waiting), Appends-twice a.contents b.contents c.contents w.0 v.0 w.2 v.2)

pub WrotePrefix-then : (a b c : Output) (text more : List ℕ) → Wrote a b text → WrotePrefix b c more → WrotePrefix a c (text ++ more)
WrotePrefix-then a b c text more w g =
    let regrouped : w.0 ++ (b.waiting ++ more) ≡ a.waiting ++ (text ++ more) = sym (append_assoc w.0 b.waiting more) ∙ ap (λ x. x ++ more) (sym w.1) ∙ append_assoc a.waiting text more in
    (subst (λ (x : List ℕ). AppendsPrefix a.contents c.contents x) regrouped (AppendsPrefix-after a.contents b.contents c.contents w.0 (b.waiting ++ more) w.2 g.0), g.1)

WrotePrefix-more : (a b : Output) (text more : List ℕ) → WrotePrefix a b text → WrotePrefix a b (text ++ more)
WrotePrefix-more a b text more g =
    (subst (λ (x : List ℕ). AppendsPrefix a.contents b.contents x) (append_assoc a.waiting text more) (AppendsPrefix-more a.contents b.contents (a.waiting ++ text) more g.0), g.1)

-- some of what waited was written
pub rest_waits : (a b c : Output) (text : List ℕ) → Wrote a b text → IsWrittenUpTo b.contents c.contents b.waiting c.waiting → Wrote a c text
rest_waits a b c text w v =
    subst (λ (x : List ℕ). Wrote a c x) (append-nil text)
    (Wrote-then a b c text [] w (subst (λ (x : List ℕ). IsWrittenUpTo b.contents c.contents x c.waiting) (sym (append-nil b.waiting)) v))

-- all of it was
pub all_written : (b c : Output) → Appends b.contents c.contents b.waiting → c.waiting ≡ [] → IsWrittenUpTo b.contents c.contents b.waiting c.waiting
all_written b c a none =
    (b.waiting, subst (λ (x : List ℕ). b.waiting ≡ b.waiting ++ x) (sym none) (sym (append-nil b.waiting)), a)

-- or a prefix of it
pub cut : (a b c : Output) (text : List ℕ) → Wrote a b text → AppendsPrefix b.contents c.contents b.waiting → c.waiting ≡ [] → WrotePrefix a c text
cut a b c text w g none =
    subst (λ (x : List ℕ). WrotePrefix a c x) (append-nil text)
    (WrotePrefix-then a b c text [] w (subst (λ (x : List ℕ). AppendsPrefix b.contents c.contents x) (sym (append-nil b.waiting)) g, none))

-- two pieces, one after the other
pub put_then : {W : Type 0} (w : Ghosts W) (old mid new : code.Output W) (text more : List ℕ) → OutputsText w old mid text → OutputsText w mid new more → OutputsText w old new (text ++ more)
put_then w old mid new text more p q =
    (q.0 ∙ p.0, by (output_of w old).failed (output_of w mid).failed (output_of w new).failed p.1 q.1)
  where
    by : (f g h : Bool) → PutsBy f g (output_of w old) (output_of w mid) text → PutsBy g h (output_of w mid) (output_of w new) more → PutsBy f h (output_of w old) (output_of w new) (text ++ more)
    by true true h p q = (q.0, q.1 ∙ p.1, q.2 ∙ p.2)
    by true false h p q = cc
    by false false false p q = Wrote-then (output_of w old) (output_of w mid) (output_of w new) text more p q
    by false false true p q = WrotePrefix-then (output_of w old) (output_of w mid) (output_of w new) text more p q
    by false true true p q =
        let grows = WrotePrefix-more (output_of w old) (output_of w mid) text more p in
        (subst (λ (v : Option (List ℕ)). AppendsPrefix (output_of w old).contents v (old.waiting ++ (text ++ more))) (sym q.1) grows.0, q.2 ∙ grows.1)
    by false true false p q = cc

-- the line of an answer
pub put_line : {W : Type 0} (w : Ghosts W) (old prefix back new : code.Output W) (word : List ℕ) (expr : ℕ) (known : List ℕ) → OutputsText w old prefix (word ++ decimal expr) → OutputsText w prefix back known → OutputsText w back new (codes "\n") → OutputsText w old new (answer_line word expr known)
put_line w old prefix back new word expr known p q r = put_then w old back new (word ++ decimal expr ++ known) (codes "\n") (put_then w old prefix back (word ++ decimal expr) known p q) r

pub put_none : {W : Type 0} (w : Ghosts W) (old : code.Output W) → OutputsText w old old []
put_none w old = (refl, by (output_of w old).failed)
  where
    by : (f : Bool) → PutsBy f f (output_of w old) (output_of w old) []
    by true = (refl, refl, refl)
    by false = Wrote-none (output_of w old)

-- one number more
spaced-more : (numbers : List ℕ) (n : ℕ) → after_spaces (numbers ++ n ∷ []) ≡ after_spaces numbers ++ (32 ∷ decimal n)
spaced-more numbers n = flat_map-append (λ n. 32 ∷ decimal n) numbers (n ∷ []) ∙ ap (λ v. after_spaces numbers ++ v) (append-nil (32 ∷ decimal n))

pub spaced_then : {W : Type 0} (w : Ghosts W) (old mid new : code.Output W) (numbers : List ℕ) (n : ℕ) → OutputsText w old mid (after_spaces numbers) → OutputsText w mid new (32 ∷ decimal n) → OutputsText w old new (after_spaces (numbers ++ n ∷ []))
spaced_then w old mid new numbers n p q = rw (spaced-more numbers n) (put_then w old mid new (after_spaces numbers) (32 ∷ decimal n) p q)

-- one number more of a list
pub numbers_more : (xs : List ℕ) (i x : ℕ) → i < length xs → x ≡ get_or xs i x → after_spaces (take (i + 1) xs) ≡ after_spaces (take i xs) ++ (32 ∷ decimal x)
numbers_more xs i x there is =
    ap after_spaces (take_more xs i x there) ∙ spaced-more (take i xs) (get_or xs i x) ∙ ap (λ n. after_spaces (take i xs) ++ (32 ∷ decimal n)) (sym is)

-- the names of one entry more
pub names_more : (xs : List ScopeEntry) (i : ℕ) (x : ScopeEntry) → i < length xs → x ≡ get_or xs i x → names_text (take (i + 1) xs) ≡ names_text (take i xs) ++ entry_text x
names_more xs i x there is =
    ap names_text (take_more xs i x there) ∙ flat_map-append entry_text (take i xs) (get_or xs i x ∷ [])
    ∙ ap (λ v. names_text (take i xs) ++ v) (append-nil (entry_text (get_or xs i x)) ∙ ap entry_text (sym is))

-- the names along some scopes
abbrev pub names_along : List Scope → List ℕ → List ℕ
names_along scopes ids = names_text (entries_of (flat_map (frame_at scopes) ids))

pub along_more : (scopes : List Scope) (ids : List ℕ) (id : ℕ) → names_along scopes (ids ++ id ∷ []) ≡ names_along scopes ids ++ names_text (entries_of (frame_at scopes id))
along_more scopes ids id =
    ap (λ v. names_text (entries_of v)) (flat_map-append (frame_at scopes) ids (id ∷ []) ∙ ap (λ v. flat_map (frame_at scopes) ids ++ v) (append-nil (frame_at scopes id)))
    ∙ ap names_text (flat_map-append (λ (f : Frame). f.entries) (flat_map (frame_at scopes) ids) (frame_at scopes id))
    ∙ flat_map-append entry_text (entries_of (flat_map (frame_at scopes) ids)) (entries_of (frame_at scopes id))
