-- Arms and statements are read as they are written, and written as they are read.
use Rattle.std.proofs.Common.{◌≡◌, ℕ, true, false, List, [], ◌∷◌, Option, Some, refl, sym, ap, ◌∙◌, subst}
use Rattle.std.specs.Prelude.{codes}
use Rattle.std.specs.List.{AllZip}
use Rattle.std.proofs.lemmas.List.Splits.{join_with_byte-slice_split}
use Rattle.hir_node.specs.declared.expr_types.MatchArm.{MatchArm}
use Rattle.hir_node.specs.declared.expr_types.Statement.{Statement}
use Rattle.hir_node.specs.declared.expr_types.Statement.TheVariants.{Let, Expr, Item}
use Rattle.hir_node.specs.declared.expr_types.Item.TheVariants.{MacroDef, Other}
use Rattle.hir_show_grammar.specs.Readings.{whole, split_parts}
use Rattle.hir_show_grammar.specs.Words.{one_of}
use Rattle.hir_show_grammar.specs.ArmsAndStatements.{arm, arm_of, statement_of, statement_forms, let_statement, expr_statement, macro_statement, item_statement}
use Rattle.hir_show_grammar.specs.Tokens.{Token, Word, Number, Optional, IsWord, IsNumber, IsArm, IsStatement, colons}
use Rattle.hir_show_grammar.proofs.Forms.{Accepts, accept_head, whole_read, whole_found, Sound, sound_one_of, AllSound, no_form, form}
use Rattle.hir_show_grammar.proofs.Takes.{accepting, sounding}
use Rattle.hir_show_grammar.proofs.Separators.{AllLack, lacks, lacks-join, split_parts-join}
use Rattle.hir_show_grammar.proofs.Spellings.{number_lacks, optional_lacks}

pub arm_tokens : MatchArm → List Token
arm_tokens a = Number a.pat ∷ Optional a.guard ∷ Number a.expr ∷ []

pub statement_tokens : Statement → List Token
statement_tokens (Let pat type_ref initializer else_branch) = Word (codes "let") ∷ Number pat ∷ Optional type_ref ∷ Optional initializer ∷ Optional else_branch ∷ []
statement_tokens (Expr expr true) = Word (codes "semi") ∷ Number expr ∷ []
statement_tokens (Expr expr false) = Word (codes "expr") ∷ Number expr ∷ []
statement_tokens (Item (MacroDef definition)) = Word (codes "macro") ∷ Number definition ∷ []
statement_tokens (Item Other) = Word (codes "item") ∷ []

accepts_arm : (a : MatchArm) → Accepts (arm_tokens a) arm a
unfolding arm_tokens
accepts_arm a = search accepting

accepts_statement : (s : Statement) → Accepts (statement_tokens s) (one_of statement_forms) s
unfolding statement_tokens
accepts_statement (Let pat type_ref initializer else_branch) = accept_head statement_forms _ let_statement refl (search accepting)
accepts_statement (Expr expr true) = accept_head statement_forms _ (expr_statement true) refl (search accepting)
accepts_statement (Expr expr false) = accept_head statement_forms _ (expr_statement false) refl (search accepting)
accepts_statement (Item (MacroDef definition)) = accept_head statement_forms _ macro_statement refl (search accepting)
accepts_statement (Item Other) = accept_head statement_forms _ item_statement refl (search accepting)

-- these tokens are the node's
abbrev Has : {Y : Type 0} → (Y → List Token) → Y → List Token → Type 0
Has of y tokens = tokens ≡ of y

sound_arm : Sound (Has arm_tokens) arm
unfolding arm_tokens
sound_arm = search sounding

statements_sound : AllSound (Has statement_tokens) statement_forms
unfolding statement_tokens
statements_sound = form (search sounding) (form (search sounding) (form (search sounding) (form (search sounding) (form (search sounding) no_form))))

sound_statement : Sound (Has statement_tokens) (one_of statement_forms)
sound_statement = sound_one_of (Has statement_tokens) statement_forms statements_sound

-- the words of some tokens, one by one
data Spelt : List Token → List (List ℕ) → Type 0 where
  none : Spelt [] []
  one : {token : Token} {word : List ℕ} {tokens : List Token} {words : List (List ℕ)} → IsWord token word → Spelt tokens words → Spelt (token ∷ tokens) (word ∷ words)

spelt : (tokens : List Token) (words : List (List ℕ)) → AllZip IsWord tokens words → Spelt tokens words
spelt [] [] h = none
spelt (token ∷ tokens) (word ∷ words) h = one h.0 (spelt tokens words h.1)
spelt _ _ h = absurd h

-- the parts of a word that was joined by colons
parts_joined : (word part : List ℕ) (parts : List (List ℕ)) → word ≡ colons (part ∷ parts) → AllLack 58 (part ∷ parts) → split_parts 58 word ≡ part ∷ parts
parts_joined word part parts joined lack = ap (split_parts 58) joined ∙ split_parts-join 58 part parts lack

pub arm_reads : (a : MatchArm) (word : List ℕ) → IsArm a word → arm_of word ≡ Some a
unfolding arm_of arm_tokens
arm_reads a word h =
    let lack : AllLack 58 (h.0 ∷ h.1 ∷ h.2 ∷ []) = (number_lacks 58 refl a.pat h.0 h.3, (optional_lacks 58 refl refl a.guard h.1 h.4, (number_lacks 58 refl a.expr h.2 h.5, tt))) in
    ap (whole arm) (parts_joined word h.0 (h.1 ∷ h.2 ∷ []) h.6 lack)
    ∙ whole_read arm (h.0 ∷ h.1 ∷ h.2 ∷ []) a ((accepts_arm a).reads (h.0 ∷ h.1 ∷ h.2 ∷ []) (h.3, (h.4, (h.5, tt))))

arm_parts : (a : MatchArm) (word : List ℕ) (parts : List (List ℕ)) → word ≡ colons parts → Spelt (Number a.pat ∷ Optional a.guard ∷ Number a.expr ∷ []) parts → IsArm a word
arm_parts a word _ joined (one pat (one guard (one body none))) = (_, _, _, pat, guard, body, joined)

arm_written : (a : MatchArm) (word : List ℕ) (parts : List (List ℕ)) → word ≡ colons parts → AllZip IsWord (arm_tokens a) parts → IsArm a word
unfolding arm_tokens
arm_written a word parts joined h = arm_parts a word parts joined (spelt _ parts h)

joined_again : (word : List ℕ) → word ≡ colons (split_parts 58 word)
joined_again word = sym (join_with_byte-slice_split 58 word)

pub arm_spells : (a : MatchArm) (word : List ℕ) → arm_of word ≡ Some a → IsArm a word
unfolding arm_of
arm_spells a word e =
    let found = sound_arm.written (split_parts 58 word) a (whole_found (arm (split_parts 58 word)) a e) in
    arm_written a word (split_parts 58 word) (joined_again word) (subst (λ tokens. AllZip IsWord tokens (split_parts 58 word)) found.1 found.2)

statement_all_read : (s : Statement) (word : List ℕ) (part : List ℕ) (parts : List (List ℕ)) → word ≡ colons (part ∷ parts) → AllLack 58 (part ∷ parts) →
    AllZip IsWord (statement_tokens s) (part ∷ parts) → statement_of word ≡ Some s
unfolding statement_of
statement_all_read s word part parts joined lack h =
    ap (whole (one_of statement_forms)) (parts_joined word part parts joined lack)
    ∙ whole_read (one_of statement_forms) (part ∷ parts) s ((accepts_statement s).reads (part ∷ parts) h)

pub statement_reads : (s : Statement) (word : List ℕ) → IsStatement s word → statement_of word ≡ Some s
unfolding statement_tokens
statement_reads (Let pat type_ref initializer else_branch) word h =
    statement_all_read (Let pat type_ref initializer else_branch) word (codes "let") (h.0 ∷ h.1 ∷ h.2 ∷ h.3 ∷ []) h.8
    (refl, (number_lacks 58 refl pat h.0 h.4, (optional_lacks 58 refl refl type_ref h.1 h.5, (optional_lacks 58 refl refl initializer h.2 h.6, (optional_lacks 58 refl refl else_branch h.3 h.7, tt)))))
    (refl, (h.4, (h.5, (h.6, (h.7, tt)))))
statement_reads (Expr expr true) word h =
    statement_all_read (Expr expr true) word (codes "semi") (h.0 ∷ []) h.2 (refl, (number_lacks 58 refl expr h.0 h.1, tt)) (refl, (h.1, tt))
statement_reads (Expr expr false) word h =
    statement_all_read (Expr expr false) word (codes "expr") (h.0 ∷ []) h.2 (refl, (number_lacks 58 refl expr h.0 h.1, tt)) (refl, (h.1, tt))
statement_reads (Item (MacroDef definition)) word h =
    statement_all_read (Item (MacroDef definition)) word (codes "macro") (h.0 ∷ []) h.2 (refl, (number_lacks 58 refl definition h.0 h.1, tt)) (refl, (h.1, tt))
statement_reads (Item Other) word h = statement_all_read (Item Other) word (codes "item") [] h (refl, tt) (refl, tt)

let_parts : (p : ℕ) (t i e : Option ℕ) (word : List ℕ) (parts : List (List ℕ)) → word ≡ colons parts →
    Spelt (Word (codes "let") ∷ Number p ∷ Optional t ∷ Optional i ∷ Optional e ∷ []) parts → IsStatement (Let p t i e) word
let_parts p t i e word _ joined (one {words = words} head (one pat (one ty (one init (one els none))))) =
    (_, _, _, _, pat, ty, init, els, joined ∙ ap (λ w. colons (w ∷ words)) head)

-- a head and a number
number_parts : (head : List ℕ) (n : ℕ) (word : List ℕ) (parts : List (List ℕ)) → word ≡ colons parts → Spelt (Word head ∷ Number n ∷ []) parts →
    (text : List ℕ) × IsNumber n text × (word ≡ colons (head ∷ text ∷ []))
number_parts head n word _ joined (one {words = words} is (one number none)) = (_, number, joined ∙ ap (λ w. colons (w ∷ words)) is)

item_parts : (word : List ℕ) (parts : List (List ℕ)) → word ≡ colons parts → Spelt (Word (codes "item") ∷ []) parts → word ≡ codes "item"
item_parts word _ joined (one is none) = joined ∙ is

statement_written : (s : Statement) (word : List ℕ) (parts : List (List ℕ)) → word ≡ colons parts → AllZip IsWord (statement_tokens s) parts → IsStatement s word
unfolding statement_tokens
statement_written (Let p t i e) word parts joined h = let_parts p t i e word parts joined (spelt _ parts h)
statement_written (Expr expr true) word parts joined h = number_parts (codes "semi") expr word parts joined (spelt _ parts h)
statement_written (Expr expr false) word parts joined h = number_parts (codes "expr") expr word parts joined (spelt _ parts h)
statement_written (Item (MacroDef definition)) word parts joined h = number_parts (codes "macro") definition word parts joined (spelt _ parts h)
statement_written (Item Other) word parts joined h = item_parts word parts joined (spelt _ parts h)

pub statement_spells : (s : Statement) (word : List ℕ) → statement_of word ≡ Some s → IsStatement s word
unfolding statement_of
statement_spells s word e =
    let found = sound_statement.written (split_parts 58 word) s (whole_found (one_of statement_forms (split_parts 58 word)) s e) in
    statement_written s word (split_parts 58 word) (joined_again word) (subst (λ tokens. AllZip IsWord tokens (split_parts 58 word)) found.1 found.2)

-- no arm and no statement has a space
pub arm_lacks : (a : MatchArm) (word : List ℕ) → IsArm a word → lacks 32 word ≡ true
arm_lacks a word h =
    ap (lacks 32) h.6
    ∙ lacks-join 32 58 refl (h.0 ∷ h.1 ∷ h.2 ∷ []) (number_lacks 32 refl a.pat h.0 h.3, (optional_lacks 32 refl refl a.guard h.1 h.4, (number_lacks 32 refl a.expr h.2 h.5, tt)))

pub statement_lacks : (s : Statement) (word : List ℕ) → IsStatement s word → lacks 32 word ≡ true
statement_lacks (Let p t i e) word h =
    ap (lacks 32) h.8
    ∙ lacks-join 32 58 refl (codes "let" ∷ h.0 ∷ h.1 ∷ h.2 ∷ h.3 ∷ [])
    (refl, (number_lacks 32 refl p h.0 h.4, (optional_lacks 32 refl refl t h.1 h.5, (optional_lacks 32 refl refl i h.2 h.6, (optional_lacks 32 refl refl e h.3 h.7, tt)))))
statement_lacks (Expr expr true) word h = ap (lacks 32) h.2 ∙ lacks-join 32 58 refl (codes "semi" ∷ h.0 ∷ []) (refl, (number_lacks 32 refl expr h.0 h.1, tt))
statement_lacks (Expr expr false) word h = ap (lacks 32) h.2 ∙ lacks-join 32 58 refl (codes "expr" ∷ h.0 ∷ []) (refl, (number_lacks 32 refl expr h.0 h.1, tt))
statement_lacks (Item (MacroDef definition)) word h = ap (lacks 32) h.2 ∙ lacks-join 32 58 refl (codes "macro" ∷ h.0 ∷ []) (refl, (number_lacks 32 refl definition h.0 h.1, tt))
statement_lacks (Item Other) word h = ap (lacks 32) h
