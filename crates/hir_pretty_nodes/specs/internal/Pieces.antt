-- The layouts that are written of a token, and of what was found.
use Rattle.std.specs.Prelude.{ℕ, Bool, true, false, List, [], ◌∷◌, ◌++◌, map, codes, decimal}
use Rattle.hir_pretty_layout.specs.Layouts.{Layout, Text, SoftSpace, Break, Indent, Outdent}
use Rattle.hir_pretty_docs.specs.{Docs.Doc, Docs.Put, Names.name_parts, Names.annotation_docs, Literals.literal_docs}
use Rattle.hir_pretty_docs.specs.declared.token.Token.{Token}
use Rattle.hir_pretty_docs.specs.declared.token.Token.TheVariants as token
use Rattle.hir_pretty_nodes.specs.declared.lookups.Found.{Found}
use Rattle.hir_pretty_nodes.specs.declared.lookups.Found.TheVariants as found

-- the layouts among documents
abbrev pub put_pieces : List Doc → List Layout
put_pieces [] = []
put_pieces (Put piece ∷ is) = piece ∷ put_pieces is
put_pieces (item ∷ is) = put_pieces is

abbrev pub last_field_end : Bool → List Layout
last_field_end true = Text (codes " ") ∷ []
last_field_end false = Text (codes ",") ∷ Break ∷ []

-- of a token that is written as it is, by the words of an edition, in one line or in lines
abbrev pub plain_pieces : List (List ℕ) → Bool → Token → List Layout
plain_pieces words one_line (token.Text x) = Text x.now ∷ []
plain_pieces words one_line token.Space = SoftSpace ∷ []
plain_pieces words one_line token.Break = Break ∷ []
plain_pieces words one_line token.Indent = Indent ∷ []
plain_pieces words one_line token.Outdent = Outdent ∷ []
plain_pieces words one_line (token.Number n) = Text (decimal n) ∷ []
plain_pieces words one_line (token.Literal x) = put_pieces (literal_docs x.now)
plain_pieces words one_line (token.Name name) = map Text (name_parts words name.now)
plain_pieces words one_line token.LastFieldEnd = last_field_end one_line
plain_pieces words one_line w = []

abbrev pub found_pieces : List (List ℕ) → Found → List Layout
found_pieces words found.Nothing = []
found_pieces words (found.Text x) = Text x.now ∷ []
found_pieces words (found.Name name) = map Text (name_parts words name.now)
found_pieces words (found.Param n) = Text (codes "Param[") ∷ Text (decimal n) ∷ Text (codes "]") ∷ []
found_pieces words (found.Binding b) = put_pieces (annotation_docs b.now.mode) ++ map Text (name_parts words b.now.name)
