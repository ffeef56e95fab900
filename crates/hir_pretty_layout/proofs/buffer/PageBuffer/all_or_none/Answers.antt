use Rattle.std.proofs.Common.{◌≡◌, ◌∙◌, length, ap₂, arith}
use Rattle.std.specs.String.{string_bytes}
use Rattle.std.proofs.lemmas.Str.{IsUtf8-string_bytes}
use Rattle.hir_pretty_layout.specs.Buffer.{IsGrown, page_of}
use Rattle.hir_pretty_layout.proofs.PieceLemmas.{on_err}
use Rattle.hir_pretty_layout.proofs.BufferLemmas.{page, grown_back, grown_cut}
use Rattle.hir_pretty_layout.proofs.buffer.PageBuffer.all_or_none.Goals as goal

pub truncate-requires : goal.truncate-requires
truncate-requires c =
    let old = c.self.inside in
    let new = c.self-2.inside in
    let grown : IsGrown (page_of old) (page_of new) = rw (c.self.view_is, c.self-2.view_is) c.lines-written.ensures.grown in
    let len : c.len-len.result ≡ length (string_bytes old.text) = omega (arith, c.len-len.ensures, old.text.bytes.ok.0) in
    λ within. grown_cut (string_bytes old.text) (string_bytes new.text) c.len-len.result (IsUtf8-string_bytes old.text)
    (IsUtf8-string_bytes new.text) len (omega (arith, within, new.text.bytes.ok.0)) grown

pub invariant_of-self : goal.invariant_of-self
invariant_of-self c =
    let old = c.self.inside in
    let new = c.self-2.inside in
    let grown : IsGrown (page_of old) (page_of new) = rw (c.self.view_is, c.self-2.view_is) c.lines-written.ensures.grown in
    let len : c.len-len.result ≡ length (string_bytes old.text) = omega (arith, c.len-len.ensures, old.text.bytes.ok.0) in
    let bytes : string_bytes c.truncate.new.self ≡ string_bytes old.text = c.truncate.ensures.bytes
    ∙ grown_back (string_bytes old.text) (string_bytes new.text) c.len-len.result len grown in
    record { kept = rw bytes c.self.invariant.kept; spaces = c.self-2.invariant.spaces }

pub returns-then-is_err-clause-err : goal.returns-then-is_err-clause-err
returns-then-is_err-clause-err c =
    let old = c.self.inside in
    let new = c.self-2.inside in
    let grown : IsGrown (page_of old) (page_of new) = rw (c.self.view_is, c.self-2.view_is) c.lines-written.ensures.grown in
    let len : c.len-len.result ≡ length (string_bytes old.text) = omega (arith, c.len-len.ensures, old.text.bytes.ok.0) in
    let bytes : string_bytes c.truncate.new.self ≡ string_bytes old.text = c.truncate.ensures.bytes
    ∙ grown_back (string_bytes old.text) (string_bytes new.text) c.len-len.result len grown in
    on_err _ (ap₂ (λ bs l. page bs l old.format) bytes grown.level ∙ c.self.view_is)
