-- Documents that are layouts, and what printing makes of a value with them.
use Rattle.std.proofs.Common.{◌≡◌, ℕ, Bool, true, false, List, [], ◌∷◌, ◌++◌, map, codes, Some, None, refl, sym, ap, ◌∙◌, append-nil, flat_map}
use Rattle.std.proofs.lemmas.List.Concat.{flat_map-append}
use Rattle.hir_node.specs.declared.{literal.Literal.Literal, binding.BindingAnnotation.BindingAnnotation}
use Rattle.hir_node.specs.declared.literal.Literal.TheVariants as literal
use Rattle.hir_node.specs.declared.node_id.NodeId.TheVariants as node
use Rattle.hir_node.specs.declared.binding.BindingAnnotation.TheVariants as annotation
use Rattle.hir_pretty_docs.specs.declared.token.Token.{Token}
use Rattle.hir_pretty_docs.specs.declared.token.Token.TheVariants as token
use Rattle.hir_pretty_nodes.specs.declared.lookups.Found.{Found}
use Rattle.hir_pretty_nodes.specs.Prelude.{Missing, PrintEnv, Doc, Put, MissingDoc, ExprDoc, ExprIn, Pattern, TypeDoc, text, br}
use Rattle.hir_pretty_nodes.specs.Prelude.{name_parts, name_docs, annotation_docs, literal_docs, put_pieces, DocPiece, Present}
use Rattle.hir_pretty_nodes.specs.Prelude.{Absent, docs_of, doc_pieces, pieces, doc_list_pieces, with_parentheses, first_missing}
use Rattle.hir_pretty_nodes.specs.Prelude.{layout, DocsDecrease, stands_for, is_plain, found_docs, last_field_end, plain_pieces}
use Rattle.hir_pretty_nodes.specs.Prelude.{found_pieces, enclose, printing, PrintsAlike}
use Rattle.hir_pretty_nodes.specs.declared.lookups.Found.TheVariants as found
use Rattle.hir_pretty_layout.specs.Literals.{string_literal, char_literal, bytes_literal, c_string_literal}
use Rattle.hir_pretty_layout.specs.{Layouts.Layout, Layouts.Text, Steps.steps}
use Rattle.hir_pretty_nodes.proofs.StepLemmas.{pieces_at}

-- 1. Documents and doc pieces

pub printed-append : (s : PrintEnv) (xs ys : List Doc) → doc_list_pieces s (xs ++ ys) ≡ doc_list_pieces s xs ++ doc_list_pieces s ys
printed-append s xs ys = flat_map-append (doc_pieces s (pieces s)) xs ys

-- documents that are layouts
abbrev AllPut : List Doc → Type 0
AllPut [] = Unit {0}
AllPut (Put piece ∷ is) = AllPut is
AllPut (MissingDoc missing ∷ is) = ⊥
AllPut (ExprDoc id ∷ is) = ⊥
AllPut (ExprIn id parent ∷ is) = ⊥
AllPut (Pattern id ∷ is) = ⊥
AllPut (TypeDoc id ∷ is) = ⊥

put_printed : (s : PrintEnv) (is : List Doc) → AllPut is → doc_list_pieces s is ≡ map Present (put_pieces is)
put_printed s [] a = refl
put_printed s (Put piece ∷ is) a = ap (λ ps. Present piece ∷ ps) (put_printed s is a)
put_printed s (MissingDoc missing ∷ is) a = absurd a
put_printed s (ExprDoc id ∷ is) a = absurd a
put_printed s (ExprIn id parent ∷ is) a = absurd a
put_printed s (Pattern id ∷ is) a = absurd a
put_printed s (TypeDoc id ∷ is) a = absurd a

all_put : (ps : List Layout) → AllPut (map Put ps)
all_put [] = tt
all_put (piece ∷ ps) = all_put ps

literal_put : (x : Literal) → AllPut (literal_docs x)
literal_put (literal.String text) = all_put (string_literal text)
literal_put (literal.ByteString bytes) = all_put (bytes_literal bytes)
literal_put (literal.CString bytes) = all_put (c_string_literal bytes)
literal_put (literal.Char c) = all_put (char_literal c)
literal_put (literal.Bool b) = tt
literal_put (literal.Int n None) = tt
literal_put (literal.Int n (Some suffix)) = tt
literal_put (literal.Uint n None) = tt
literal_put (literal.Uint n (Some suffix)) = tt
literal_put (literal.Float n None) = tt
literal_put (literal.Float n (Some suffix)) = tt

pub pieces_put : (ps : List Layout) → put_pieces (map Put ps) ≡ ps
pieces_put [] = refl
pieces_put (piece ∷ ps) = ap (λ qs. piece ∷ qs) (pieces_put ps)

-- texts
printed_texts : (s : PrintEnv) (ts : List (List ℕ)) → doc_list_pieces s (flat_map text ts) ≡ map Present (map Text ts)
printed_texts s [] = refl
printed_texts s (t ∷ ts) = ap (λ ps. Present (Text t) ∷ ps) (printed_texts s ts)

pub name_printed : (s : PrintEnv) (name : List ℕ) → doc_list_pieces s (name_docs s name) ≡ map Present (map Text (name_parts s.words name))
name_printed s name = printed_texts s (name_parts s.words name)

pub literal_pieces : (s : PrintEnv) (x : Literal) → doc_list_pieces s (literal_docs x) ≡ map Present (put_pieces (literal_docs x))
literal_pieces s x = put_printed s (literal_docs x) (literal_put x)

-- what is written of a token as it is, and of what was found
last_end_printed : (s : PrintEnv) (b : Bool)
    → doc_list_pieces s (elim b [ true ↦ text (codes " ") | false ↦ text (codes ",") ++ br ]) ≡ map Present (last_field_end b)
last_end_printed s true = refl
last_end_printed s false = refl

pub plain_printed : (s : PrintEnv) (w : Token) → is_plain w ≡ true
    → doc_list_pieces s (stands_for s w) ≡ map Present (plain_pieces s.words s.one_line w)
plain_printed s (token.Text x) h = refl
plain_printed s token.Space h = refl
plain_printed s token.Break h = refl
plain_printed s token.Indent h = refl
plain_printed s token.Outdent h = refl
plain_printed s (token.Number n) h = refl
plain_printed s (token.Literal x) h = literal_pieces s x.now
plain_printed s (token.Name name) h = name_printed s name.now
plain_printed s token.LastFieldEnd h = last_end_printed s s.one_line
plain_printed s w h = absurd (cc)

binding_printed : (s : PrintEnv) (mode : BindingAnnotation) (name : List ℕ) → doc_list_pieces s (annotation_docs mode ++ name_docs s name)
    ≡ map Present (put_pieces (annotation_docs mode) ++ map Text (name_parts s.words name))
binding_printed s annotation.Unannotated name = name_printed s name
binding_printed s annotation.Mutable name = ap (λ ps. Present (Text (codes "mut ")) ∷ ps) (name_printed s name)
binding_printed s annotation.Ref name = ap (λ ps. Present (Text (codes "ref ")) ∷ ps) (name_printed s name)
binding_printed s annotation.RefMut name = ap (λ ps. Present (Text (codes "ref mut ")) ∷ ps) (name_printed s name)

pub found_printed : (s : PrintEnv) (x : Found) → doc_list_pieces s (found_docs s x) ≡ map Present (found_pieces s.words x)
found_printed s found.Nothing = refl
found_printed s (found.Text x) = refl
found_printed s (found.Name name) = name_printed s name.now
found_printed s (found.Param n) = refl
found_printed s (found.Binding b) = binding_printed s b.now.mode b.now.name

-- an expression in parentheses, or without
pub enclosed_printed : (s : PrintEnv) → DocsDecrease s → (b : Bool) (id : ℕ)
    → doc_list_pieces s (enclose b (docs_of s (node.Expr id))) ≡ with_parentheses b (pieces s (node.Expr id)) ++ []
enclosed_printed s fall false id = ap (doc_list_pieces s) (append-nil (docs_of s (node.Expr id)))
    ∙ sym (append-nil (pieces s (node.Expr id)) ∙ pieces_at s fall (node.Expr id))
enclosed_printed s fall true id =
    let close = Present (Text (codes ")")) ∷ [] in
    ap (λ ps. Present (Text (codes "(")) ∷ ps) (printed-append s (docs_of s (node.Expr id)) (text (codes ")"))
    ∙ ap (λ ps. ps ++ close) (sym (pieces_at s fall (node.Expr id))))
    ∙ sym (append-nil (Present (Text (codes "(")) ∷ (pieces s (node.Expr id) ++ close)))

-- 2. A value

module _ {W : Type 0} (step : Layout → W → W) where
  pub printing_pieces : (value : W) (ps : List Layout) (rest : List DocPiece) → printing step value (map Present ps ++ rest) ≡ printing step (steps step ps value) rest
  unfolding printing
  printing_pieces value [] rest = refl
  printing_pieces value (p ∷ ps) rest = printing_pieces (step p value) ps rest

  -- the first that is missing is told
  pub missing_is : (value : W) (ps : List DocPiece) → (printing step value ps).1 ≡ first_missing ps
  unfolding printing
  missing_is value [] = refl
  missing_is value (Present piece ∷ ps) = missing_is (step piece value) ps
  missing_is value (Absent missing ∷ ps) = refl

  pub value_of_pieces : (value : W) (ps : List DocPiece) → first_missing ps ≡ None → (printing step value ps).0 ≡ steps step (layout ps) value
  unfolding printing
  value_of_pieces value [] e = refl
  value_of_pieces value (Present piece ∷ ps) e = value_of_pieces (step piece value) ps e
  value_of_pieces value (Absent missing ∷ ps) e = absurd (cc)

  pub nothing_left : (value : W) → printing step value [] ≡ (value, None)
  unfolding printing
  nothing_left value = refl

  pub is_missing : (value : W) (missing : Missing) (ps : List DocPiece) → (printing step value (Absent missing ∷ ps)).1 ≡ Some missing
  unfolding printing
  is_missing value missing ps = refl

pub pieces_alike : {W : Type 0} {step : Layout → W → W} {s : PrintEnv} {value new : W} {is : List Doc} (ps : List Layout)
    → doc_list_pieces s is ≡ map Present ps → new ≡ steps step ps value
    → PrintsAlike step s value is new []
pieces_alike {step = step} {s} {value} {new} {is} ps e f = record {
  alike = λ more. ap (printing step value) (printed-append s is more ∙ ap (λ qs. qs ++ doc_list_pieces s more) e)
      ∙ printing_pieces step value ps (doc_list_pieces s more) ∙ ap (λ v. printing step v (doc_list_pieces s more)) (sym f);
}
