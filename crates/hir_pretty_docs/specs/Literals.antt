-- What literals are printed as.
use Rattle.std.specs.Prelude.{ℕ, Bool, true, false, List, ◌++◌, map, codes, decimal}
use Rattle.std.specs.Fmt.{signed_decimal}
use Rattle.hir_base.specs.OpTexts.{int_text, uint_text, float_text}
use Rattle.hir_node.specs.declared.literal.Literal.{Literal}
use Rattle.hir_node.specs.declared.literal.Literal.TheVariants as literal
use Rattle.hir_pretty_layout.specs.Literals.{string_literal, char_literal, bytes_literal, c_string_literal}
use Rattle.hir_pretty_docs.specs.Docs.{Doc, Put, text, opt}

abbrev pub bool_text : Bool → List ℕ
bool_text true = codes "true"
bool_text false = codes "false"

abbrev pub literal_docs : Literal → List Doc
literal_docs (literal.String text) = map Put (string_literal text)
literal_docs (literal.ByteString bytes) = map Put (bytes_literal bytes)
literal_docs (literal.CString bytes) = map Put (c_string_literal bytes)
literal_docs (literal.Char c) = map Put (char_literal c)
literal_docs (literal.Bool b) = text (bool_text b)
literal_docs (literal.Int n suffix) = text (signed_decimal n) ++ opt (λ s. text (int_text s)) suffix
literal_docs (literal.Uint n suffix) = text (decimal n) ++ opt (λ s. text (uint_text s)) suffix
literal_docs (literal.Float number suffix) = text number ++ opt (λ s. text (float_text s)) suffix
