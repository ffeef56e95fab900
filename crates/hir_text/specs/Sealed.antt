-- What lines do to a session. It is sealed: no proof but those of the calls themselves sees what stands here, so
-- a caller knows it of a session only where a call says so.
use Rattle.std.specs.Prelude.{ℕ, List}
use Rattle.hir_text.specs.declared.session.Session.{Session}
use Rattle.hir_text_words.specs.Line.{Taken}

-- no line has been taken in this session: `Session::new` made it
pub IsNew : Session → Type 0
IsNew session = Unit {0}

-- `take_line` takes this line in the first session, of which the second and this answer come
pub SessionTakes : Session → List ℕ → Session → Taken → Type 0
SessionTakes old line new taken = Unit {0}

pub made_is_new : (session : Session) → IsNew session
unfolding IsNew
made_is_new session = tt

pub taken_by_call : (old : Session) (line : List ℕ) (new : Session) (taken : Taken) → SessionTakes old line new taken
unfolding SessionTakes
taken_by_call old line new taken = tt
