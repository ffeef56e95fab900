-- What a call leaves, from what it leaves in the session that it took.
use Rattle.std.proofs.Common.{◌≡◌, ℕ, Bool, true, false, List, Option, None, Some, cond, length, refl, sym, subst, inr}
use Rattle.hir_text.specs.declared.buffered.BufferedSession.{BufferedSession}
use Rattle.hir_text_words.specs.declared.lines.Outcome.{Outcome}
use Rattle.hir_text.specs.Buffered.{kept}
use Rattle.hir_text.specs.Sealed.{IsNew, SessionTakes}
use Rattle.hir_text_words.specs.TakesText.{TakesText}
use Rattle.hir_c.specs.declared.report.Report.{Report}
use Rattle.hir_c.specs.Report.{status_of, is_taken, NamesLine}
use Rattle.hir_c.specs.Calls.{Tells, Opens, AsksKept, Fetches, FetchesKept}

pub asks_some : (was now : Option BufferedSession) (old session : BufferedSession) (text buffer_old buffer_new : List ℕ) (report : Report) (status : ℕ)
    → was ≡ Some old → now ≡ Some session → Tells old text buffer_old session buffer_new report status → AsksKept was text buffer_old now buffer_new report status
asks_some was now old session text buffer_old buffer_new report status had has told =
    subst (λ (k : Option BufferedSession). AsksKept k text buffer_old now buffer_new report status) (sym had) (session, has, told)

pub fetches_some : (was now : Option BufferedSession) (old session : BufferedSession) (buffer_old buffer_new : List ℕ) (report : Report)
    → was ≡ Some old → now ≡ Some session → Fetches old buffer_old session buffer_new report → FetchesKept was buffer_old now buffer_new report 0
fetches_some was now old session buffer_old buffer_new report had has told =
    subst (λ (k : Option BufferedSession). FetchesKept k buffer_old now buffer_new report 0) (sym had) (session, has, told, refl)

module _ (text : List ℕ) (fresh session : BufferedSession) (how : Outcome) (new : IsNew fresh.session) (taken : TakesText SessionTakes fresh.session text session.session (kept session) how)
    (report : Report) (written : report.written ≡ 0) (names : NamesLine how report) (status : ℕ) (says : status ≡ status_of how) where
  pub opens_not : is_taken how ≡ false → (now : Option BufferedSession) → now ≡ None → report.length ≡ 0 → Opens text now report status
  opens_not is now none empty = inr (
    fresh,
    session,
    how,
    new,
    taken,
    subst (λ (b : Bool). now ≡ cond b (Some session) None) (sym is) none,
    subst (λ (b : Bool). report.length ≡ cond b (length (kept session)) 0) (sym is) empty,
    written,
    names,
    says,
  )

  pub opens_taken : is_taken how ≡ true → (now : Option BufferedSession) → now ≡ Some session → report.length ≡ length (kept session) → Opens text now report status
  opens_taken is now some size = inr (
    fresh,
    session,
    how,
    new,
    taken,
    subst (λ (b : Bool). now ≡ cond b (Some session) None) (sym is) some,
    subst (λ (b : Bool). report.length ≡ cond b (length (kept session)) 0) (sym is) size,
    written,
    names,
    says,
  )
