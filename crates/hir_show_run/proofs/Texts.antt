-- Texts that are written to a sink piece by piece.
use Rattle.std.proofs.Common.{◌++◌, List, ℕ, Option, Result, Ok, Err, OnOk, OnErr}
use Rattle.std.specs.Io.KnownBytes.{Appends}
use Rattle.hir_show_io.specs.Effects.{AppendsPrefix}
use Rattle.hir_show_io.proofs.EndLemmas.{Appends-twice, AppendsPrefix-after, AppendsPrefix-more}
use Rattle.hir_show_run.specs.internal.Texts.{WritesText}

pub text_by : {X E : Type 0} (old new : Option (List ℕ)) (text : List ℕ) (result : Result X E) →
    OnOk result (Appends old new text) → OnErr result (AppendsPrefix old new text) → WritesText old new text result
text_by old new text (Ok x) ok err = ok
text_by old new text (Err e) ok err = err

-- two pieces, one after the other
pub text_then : {X E : Type 0} (old mid new : Option (List ℕ)) (first second : List ℕ) (result : Result X E) →
    Appends old mid first → WritesText mid new second result → WritesText old new (first ++ second) result
text_then old mid new first second (Ok x) p q = Appends-twice old mid new first second p q
text_then old mid new first second (Err e) p q = AppendsPrefix-after old mid new first second p q

-- a prefix of the first piece is one of both
pub text_failed : (old new : Option (List ℕ)) (first second : List ℕ) → AppendsPrefix old new first → AppendsPrefix old new (first ++ second)
text_failed old new first second g = AppendsPrefix-more old new first second g
