use Rattle.hir_pretty_nodes.proofs.Common.{pieces_put}
use Rattle.hir_pretty_layout.specs.Literals.{string_literal, bytes_literal, c_string_literal}
use Rattle.hir_pretty_nodes.proofs.literals.write_literal.Goals as goal

pub returns-in-String : goal.returns-in-String
returns-in-String g c = rw (c.in-String.is, pieces_put (string_literal c.in-String.text)) (rw c.as_str.ensures at c.write_string_literal.ensures.ok)

pub returns-in-ByteString : goal.returns-in-ByteString
returns-in-ByteString g c = rw (c.in-ByteString.is, pieces_put (bytes_literal c.in-ByteString.bytes)) (rw c.as_slice.ensures at c.write_bytes_literal.ensures.ok)

pub returns-in-CString : goal.returns-in-CString
returns-in-CString g c = rw (c.in-CString.is, pieces_put (c_string_literal c.in-CString.bytes)) (rw c.as_slice-in-CString.ensures at c.write_c_string_literal.ensures.ok)
