-- Fields of patterns, and parameters of closures, one after another.
use Rattle.std.proofs.Common.{◌≡◌, ℕ, ◌+◌, ◌<◌, ◌≤◌, Bool, true, false, List, [], ◌∷◌, ◌++◌, codes, length, drop, get_or, Option}
use Rattle.std.proofs.Common.{refl, sym, ap, ◌∙◌, arith, append_assoc, append-nil, ◌||◌, ◌==◌, not, rules}
use Rattle.std.proofs.lemmas.List.{drop_all}
use Rattle.hir_node.specs.declared.pat.RecordFieldPat.{RecordFieldPat}
use Rattle.hir_pretty_docs.specs.Prelude.{PrintEnv, text, br, p, t, opt, when, field_pattern, after_last, field_patterns, params, following}
use Rattle.hir_pretty_docs.proofs.{ListLemmas.drop_item, ListLemmas.is_cons, OrderLemmas.not_empty}

field_more : (s : PrintEnv) (b : Bool) (f g : RecordFieldPat) (fs : List RecordFieldPat)
    → field_pattern s f ++ (text (codes ",") ++ br) ++ field_patterns s b (g ∷ fs) ≡ field_patterns s b (f ∷ g ∷ fs)
field_more s b f g fs = ap (λ is. is ++ field_patterns s b (g ∷ fs)) (sym (append_assoc (field_pattern s f) (text (codes ",")) br))

step : (s : PrintEnv) (b : Bool) (f : RecordFieldPat) (fs : List RecordFieldPat)
    → field_pattern s f ++ after_last s (b || is_cons fs) ++ field_patterns s b fs ≡ field_patterns s b (f ∷ fs)
step s true f [] = append-nil (field_pattern s f ++ after_last s true)
step s false f [] = append-nil (field_pattern s f ++ after_last s false)
step s true f (g ∷ fs) = field_more s true f g fs
step s false f (g ∷ fs) = field_more s false f g fs

pub field_step : (s : PrintEnv) (b : Bool) (f : RecordFieldPat) (fs : List RecordFieldPat)
    → field_pattern s f ++ after_last s (b || not (length fs == 0)) ++ field_patterns s b fs ≡ field_patterns s b (f ∷ fs)
field_step s b f fs = ap (λ m. field_pattern s f ++ after_last s (b || m) ++ field_patterns s b fs) (not_empty fs) ∙ step s b f fs

pub no_fields : (s : PrintEnv) (b : Bool) (fs : List RecordFieldPat) → length fs < 1 → [] ≡ field_patterns s b fs
no_fields s b [] h = refl
no_fields s b (f ∷ fs) h = absurd (omega arith)

pub param_step : (after : Bool) (args : List ℕ) (i : ℕ) (arg : ℕ) (types others : List (Option ℕ)) (type : Option ℕ)
    → i < length args → arg ≡ get_or args i arg → types ≡ type ∷ others
    → when after (text (codes ", ")) ++ p arg ++ opt (λ id. text (codes ": ") ++ t id) type ++ following (text (codes ", ")) true (params (drop (i + 1) args) others)
    ≡ following (text (codes ", ")) after (params (drop i args) types)
param_step after args i arg types others type h e k = search (rules, append_assoc, drop_item)

pub no_args : (after : Bool) (args : List ℕ) (i : ℕ) (types : List (Option ℕ)) → length args ≤ i → [] ≡ following (text (codes ", ")) after (params (drop i args) types)
no_args after args i types h = sym (ap (λ xs. following (text (codes ", ")) after (params xs types)) (drop_all i args h))

pub no_types : (after : Bool) (args : List ℕ) (types : List (Option ℕ)) → length types < 1 → [] ≡ following (text (codes ", ")) after (params args types)
no_types after [] types h = refl
no_types after (a ∷ args) [] h = refl
no_types after (a ∷ args) (x ∷ types) h = absurd (omega arith)
