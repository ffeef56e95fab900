-- Lists with separators, and places of arguments.
use Rattle.std.proofs.Common.{◌≡◌, ℕ, ◌+◌, ◌<◌, ◌≤◌, ◌==◌, Bool, true, false, List, [], ◌∷◌, ◌++◌, length, map, drop, get_or, Option, Some, None, refl, sym, ap, ap₂, subst, ◌∙◌, append_assoc, arith, codes, is_some, nat_lt, Ok, rules}
use Rattle.std.proofs.lemmas.{Bool.lt-ltb, Bool.true≢false, List.drop_all, List.get_or_read}
use Rattle.std.specs.List.{enumerate_from, list_any}
use Rattle.hir_base.specs.declared.mod_path.PathKind.{PathKind, TheVariants.Plain}
use Rattle.hir_signature.specs.declared.{param_data.LifetimeParamData.LifetimeParamData, predicate.WherePredicate.WherePredicate, any_param.TypeOrConstParamData.TypeOrConstParamData}
use Rattle.hir_signature.specs.declared.{signatures.FunctionParts.FunctionParts}
use Rattle.hir_body.specs.{Bodies.formals_of, declared.formals.Param.Param}
use Rattle.hir_pretty_nodes.specs.Prelude.{PrintEnv, Doc, text, br, into, out, t, p, opt, when, join, comma_joined, binding_docs, colons_first, type_param_docs, following}
use Rattle.hir_pretty_docs.proofs.ListLemmas.{drop_item, is_cons, following_append, following_joined}
use Rattle.hir_pretty.specs.Signatures.{type_name, argument_docs, arguments, function_types, each_lifetime, each_type_or_const, in_angles, each_predicate, where_docs}
use Rattle.hir_pretty.specs.{internal.AddedDocs.marked_docs, Bodies.formal_params, Bodies.formal_self, Variants.kind_word}

-- 1. Separators

pub is_longer : {X : Type 0} (f : X → List Doc) (xs : List X) (n : ℕ) → n ≡ length xs → nat_lt 0 n ≡ is_cons (map f xs)
is_longer f [] n e = subst (λ m. nat_lt 0 m ≡ false) (sym e) refl
is_longer f (x ∷ xs) n e = lt-ltb 0 n (omega (arith, e))

-- two lists one after the other, in `<` and `>`
pub angles : (xs ys : List (List Doc)) (b : Bool) → b ≡ is_cons xs
    → text (codes "<") ++ following (text (codes ", ")) false xs ++ following (text (codes ", ")) b ys ++ text (codes ">") ≡ text (codes "<") ++ comma_joined (xs ++ ys) ++ text (codes ">")
angles xs ys b e = search (rules, following_joined, following_append)

pub some_angles : (s : PrintEnv) (lifetimes : List LifetimeParamData) (types : List TypeOrConstParamData) → (types ≡ [] → lifetimes ≡ [] → ⊥)
    → (let each = each_lifetime s lifetimes ++ each_type_or_const s (enumerate_from 0 types) in text (codes "<") ++ comma_joined each ++ text (codes ">") ≡ in_angles each)
some_angles s [] [] both = absurd (both refl refl)
some_angles s [] (y ∷ ys) both = refl
some_angles s (x ∷ xs) types both = refl

pub some_where : (s : PrintEnv) (predicates : List WherePredicate) (b : Bool) → b ≡ (length predicates == 0) → b ≡ false
    → text (codes "\nwhere\n") ++ into ++ each_predicate s predicates ++ out ++ br ≡ where_docs s predicates
some_where s [] b e f = absurd (true≢false (sym e ∙ f))
some_where s (x ∷ xs) b e f = refl

-- a path's kind, and its names
pub kinds_first : (s : PrintEnv) (kind : PathKind) → colons_first kind ≡ is_cons (kind_word s kind)
kinds_first s Plain = refl
kinds_first s kind = refl

pub module_is : (s : PrintEnv) (kind : PathKind) (names : List (List Doc))
    → join (text (codes "::")) (kind_word s kind) ++ following (text (codes "::")) (colons_first kind) names ≡ join (text (codes "::")) (kind_word s kind ++ names)
module_is s kind names =
    ap (λ b. join (text (codes "::")) (kind_word s kind) ++ following (text (codes "::")) b names) (kinds_first s kind) ∙ following_append (text (codes "::")) (kind_word s kind) names

-- the binding of `self`, and the formal patterns
pub formals_begin : (s : PrintEnv) (self : Option (Param ℕ)) (b : Bool) (params : List (Param ℕ)) → b ≡ is_some self
    → opt (binding_docs s) (formal_self self) ++ following (text (codes ", ")) b (map p (formals_of params)) ≡ comma_joined (formal_params s (formal_self self) (formals_of params))
formals_begin s None b params e = ap (λ c. following (text (codes ", ")) c (map p (formals_of params))) e ∙ following_joined (text (codes ", ")) (map p (formals_of params))
formals_begin s (Some param) b params e =
    ap (λ c. binding_docs s param.formal ++ following (text (codes ", ")) c (map p (formals_of params))) e
    ∙ following_append (text (codes ", ")) (binding_docs s param.formal ∷ []) (map p (formals_of params))

pub formals_step : (after : Bool) (params : List (Param ℕ)) (i : ℕ) (x : Param ℕ) → i < length params → x ≡ get_or params i x
    → when after (text (codes ", ")) ++ p x.formal ++ following (text (codes ", ")) true (map p (formals_of (drop (i + 1) params)))
    ≡ following (text (codes ", ")) after (map p (formals_of (drop i params)))
formals_step after params i x h e = sym (ap (λ xs. following (text (codes ", ")) after (map p (formals_of xs))) (drop_item params i x h e))

pub formals_end : (after : Bool) (params : List (Param ℕ)) (i : ℕ) → length params ≤ i → [] ≡ following (text (codes ", ")) after (map p (formals_of (drop i params)))
formals_end after params i h = sym (ap (λ xs. following (text (codes ", ")) after (map p (formals_of xs))) (drop_all i params h))

-- 2. Places

-- entries without their places
pub map_second : {X Y : Type 0} (f : X → Y) (n : ℕ) (xs : List X) → map (λ (entry : ℕ × X). f entry.1) (enumerate_from n xs) ≡ map f xs
map_second f n [] = refl
map_second f n (x ∷ xs) = ap (λ ys. f x ∷ ys) (map_second f (n + 1) xs)

pub plain_arguments : (n : ℕ) (xs : List ℕ) → map (argument_docs None) (enumerate_from n xs) ≡ map t xs
plain_arguments n [] = refl
plain_arguments n (x ∷ xs) = ap (λ ys. t x ∷ ys) (plain_arguments (n + 1) xs)

pub marked_arguments : (marks : List Bool) (places : List ℕ) (n : ℕ) (xs : List ℕ)
    → ((i : ℕ) → i < n + length xs → get_or marks i false ≡ list_any (λ place. place == i) places)
    → map (marked_docs marks) (enumerate_from n xs) ≡ map (argument_docs (Some places)) (enumerate_from n xs)
marked_arguments marks places n [] h = refl
marked_arguments marks places n (x ∷ xs) h =
    ap₂ (λ b ys. (when b (text (codes "const: ")) ++ t x) ∷ ys) (h n (omega arith)) (marked_arguments marks places (n + 1) xs (λ i k. h i (omega (arith, k))))

-- a marked argument and those after it
pub marked_step : (sep : List Doc) (marks : List Bool) (at x : ℕ) (xs : List ℕ) (mark : Bool) → at < length marks → at < length xs → x ≡ get_or xs at x → mark ≡ get_or marks at mark
    → when (nat_lt 0 at) sep ++ when mark (text (codes "const: ")) ++ t x
    ++ following sep (nat_lt 0 (at + 1)) (map (marked_docs marks) (enumerate_from (at + 1) (drop (at + 1) xs)))
    ≡ following sep (nat_lt 0 at) (map (marked_docs marks) (enumerate_from at (drop at xs)))
marked_step sep marks at x xs mark k h e m = search (rules, lt-ltb, append_assoc, drop_item, get_or_read)

pub marked_end : (sep : List Doc) (b : Bool) (marks : List Bool) (at : ℕ) (xs : List ℕ) → length xs ≤ at → [] ≡ following sep b (map (marked_docs marks) (enumerate_from at (drop at xs)))
marked_end sep b marks at xs h = sym (ap (λ (r : List ℕ). following sep b (map (marked_docs marks) (enumerate_from at r))) (drop_all at xs h))

-- 3. What is read of a signature

pub types_is : (f : FunctionParts) (places : Option (List ℕ)) (params : List ℕ) (ret : Option ℕ) → places ≡ f.legacy_const_indices → params ≡ f.params → ret ≡ f.ret_type
    → text (codes "(") ++ arguments places params ++ text (codes ")") ++ opt (λ id. text (codes " -> ") ++ t id) ret ≡ function_types f
types_is f places params ret d e h = search rules

pub type_names : (s : PrintEnv) (at : ℕ) (name : Option (List ℕ)) → type_param_docs s at (Ok name) ≡ type_name s at name
type_names s at None = refl
type_names s at (Some name) = refl
