-- What the output of a run is modelled as, and what becomes of text that is put after what waits there.
use Rattle.std.specs.Prelude.{◌≡◌, ◌++◌}
use Rattle.hir_show_run.specs.Prelude.{ℕ, List, [], Option, Bool, true, false, GName, AppendsPrefix, IsWrittenUpTo}
use Rattle.hir_show_io.specs.declared.ends.Sink.{Ghosts}
use Rattle.hir_show_run.specs.declared.output.Output as code

-- which sink it has, what the sink shows, whether a write has failed, and what waits to be written
pub record Output : Type 0 where
  pub sink_name : GName
  pub contents : Option (List ℕ)
  pub failed : Bool
  pub waiting : List ℕ

-- the model of the code's `Output`
abbrev pub output_of : {W : Type 0} → Ghosts W → code.Output W → Output
output_of w o = record {
  sink_name = o.writer.ghost_name;
  contents = w.contents o.writer.now;
  failed = w.is_failed o.writer.now;
  waiting = o.waiting;
}

-- what waited and this text was written, all but what waits now
abbrev pub Wrote : Output → Output → List ℕ → Type 0
Wrote old new text = IsWrittenUpTo old.contents new.contents (old.waiting ++ text) new.waiting

-- a write failed: a prefix of what waited and this text was written, and nothing waits
abbrev pub WrotePrefix : Output → Output → List ℕ → Type 0
WrotePrefix old new text = AppendsPrefix old.contents new.contents (old.waiting ++ text) × (new.waiting ≡ [])

-- what becomes of the output, by whether a write had failed before, and has failed now: nothing is written to
-- a sink that has failed
abbrev pub PutsBy : Bool → Bool → Output → Output → List ℕ → Type 0
PutsBy true failed old new text =
    (failed ≡ true) × (new.contents ≡ old.contents) × (new.waiting ≡ old.waiting)
PutsBy false false old new text = Wrote old new text
PutsBy false true old new text = WrotePrefix old new text

abbrev pub PutsText : Output → Output → List ℕ → Type 0
PutsText old new text = (new.sink_name ≡ old.sink_name) × PutsBy old.failed new.failed old new text

-- text is put after what waits
abbrev pub OutputsText : {W : Type 0} → Ghosts W → code.Output W → code.Output W → List ℕ → Type 0
OutputsText w old new text = PutsText (output_of w old) (output_of w new) text

-- nothing is put
abbrev pub Untouched : {W : Type 0} → Ghosts W → code.Output W → code.Output W → Type 0
Untouched w old new = output_of w new ≡ output_of w old
