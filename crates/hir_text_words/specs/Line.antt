-- What comes of a line.
use Rattle.std.specs.Prelude.{Option, Result}
use Rattle.hir_text_words.specs.declared.answer.Answer.{Answer}
use Rattle.hir_text_words.specs.declared.text_error.TextError.{TextError}

-- the answer, where the line has one, or why there is none
abbrev pub Taken : Type 0
Taken = Result (Option Answer) TextError
