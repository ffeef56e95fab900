-- What is kept of the answers, and what is written of them.
use Rattle.std.specs.Prelude.{◌≡◌, ℕ, List, ◌++◌, length, min, take, drop}
use Rattle.hir_text.specs.declared.buffered.BufferedSession.{BufferedSession}
use Rattle.hir_text_words.specs.declared.lines.Outcome.{Outcome}
use Rattle.hir_text.specs.Sealed.{SessionTakes}
use Rattle.hir_text_words.specs.TakesText.{TakesText}

-- the answers that weren't fetched yet
abbrev pub kept : BufferedSession → List ℕ
kept buffered = drop buffered.fetched buffered.answers.items

-- a buffer that a prefix of the answers was written to, as far as it goes: its other bytes are as they were
abbrev pub with_front : List ℕ → List ℕ → List ℕ
with_front answers old = take (length old) answers ++ drop (length answers) old

-- the session takes the text, the first part of the answers is written to the buffer, and the rest is kept
abbrev pub Asks : BufferedSession → List ℕ → List ℕ → BufferedSession → List ℕ → Outcome → ℕ → ℕ → Type 0
Asks old text buffer_old new buffer_new outcome size written =
    (answers : List ℕ) × TakesText SessionTakes old.session text new.session answers outcome
    × (buffer_new ≡ with_front answers buffer_old) × (kept new ≡ drop (length buffer_old) answers)
    × (size ≡ length answers) × (written ≡ min (length answers) (length buffer_old))
