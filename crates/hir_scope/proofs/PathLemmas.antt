-- The paths of scopes: a scope's path is its id on its parent's path.
use Rattle.std.proofs.Common.{◌≡◌, ℕ, zero, suc, ◌+◌, ◌-◌, ◌<◌, ◌≤◌, List, [], ◌∷◌, ◌++◌, Option, Some, None, fold, get_or, length, refl, rules}
use Rattle.std.proofs.Common.{ap, sym, ◌∙◌, subst, arith, append_assoc}
use Rattle.std.proofs.lemmas.{Grind.fold-append, List.get_or_append_left, List.get_or_at, List.length_push}
use Rattle.std.proofs.lemmas.List.Elements.{All-nil, All-cons, All-append, All-weaker}
use Rattle.std.specs.List.{slice_get, All, range_with_len}
use Rattle.hir_validate.proofs.SoundLemmas.{item_at}
use Rattle.hir_scope.specs.Paths.{path_among, with_path, paths, path}
use Rattle.hir_scope.specs.Scopes.{Scope, IsBelow, ScopeIsInRange, ParentsStandEarlier}

length_with : (earlier : List (List ℕ)) (more : List Scope) → length (fold with_path earlier more) ≡ length earlier + length more
length_with earlier [] = omega arith
length_with earlier (s ∷ more) = search (rules, length_push, length_with (with_path earlier s) more)

kept_with : (earlier : List (List ℕ)) (more : List Scope) (i : ℕ) (d : List ℕ) → i < length earlier →
    get_or (fold with_path earlier more) i d ≡ get_or earlier i d
kept_with earlier [] i d h = refl
kept_with earlier (s ∷ more) i d h =
    kept_with (with_path earlier s) more i d (omega (arith, length_push earlier (length earlier ∷ path_among earlier s.parent)))
    ∙ get_or_append_left earlier ((length earlier ∷ path_among earlier s.parent) ∷ []) d i h

pub length_paths : (scopes : List Scope) → length (paths scopes) ≡ length scopes
unfolding paths
length_paths scopes = omega (arith, length_with [] scopes)

-- later scopes change no path
pub path_kept : (scopes more : List Scope) (o : Option ℕ) → IsBelow (length scopes) o → path (scopes ++ more) o ≡ path scopes o
unfolding paths
path_kept scopes more None h = refl
path_kept scopes more (Some s) h = search (rules, fold-append, kept_with, length_with)

-- the path of one scope more
pub path_new : (scopes : List Scope) (x : Scope) (s : ℕ) → s ≡ length scopes → path (scopes ++ x ∷ []) (Some s) ≡ s ∷ path scopes x.parent
unfolding paths
path_new scopes x s e = search (rules, length_with, fold-append, get_or_at)

split_at : (scopes : List Scope) (i : ℕ) (x : Scope) → slice_get scopes i ≡ Some x →
    (before : List Scope) × (after : List Scope) × (scopes ≡ before ++ x ∷ after) × (length before ≡ i)
split_at [] i x e = absurd cc
split_at (y ∷ scopes) zero x e = let q : y ≡ x = cc in ([], scopes, ap (λ z. z ∷ scopes) q, refl)
split_at (y ∷ scopes) (suc i) x e = let r = split_at scopes i x e in (y ∷ r.0, r.1, ap (λ zs. y ∷ zs) r.2, ap suc r.3)

-- a scope's path is its id on its parent's path
pub path_step : (scopes : List Scope) (s : ℕ) (x : Scope) → ParentsStandEarlier scopes → slice_get scopes s ≡ Some x →
    path scopes (Some s) ≡ s ∷ path scopes x.parent
path_step scopes s x earlier e =
    let w = split_at scopes s x e in
    let long : scopes ≡ (w.0 ++ x ∷ []) ++ w.1 = w.2 ∙ sym (append_assoc w.0 (x ∷ []) w.1) in
    let below : IsBelow (length w.0) x.parent = subst (λ n. IsBelow n x.parent) (sym w.3) (earlier s x e) in
    ap (λ (xs : List Scope). path xs (Some s)) long
    ∙ path_kept (w.0 ++ x ∷ []) w.1 (Some s) (omega (arith, w.3, length_push w.0 x))
    ∙ path_new w.0 x s (sym w.3)
    ∙ ap (λ (p : List ℕ). s ∷ p) (sym (ap (λ (xs : List Scope). path xs x.parent) w.2 ∙ path_kept w.0 (x ∷ w.1) x.parent below))

pub weaker : (m n : ℕ) (o : Option ℕ) → m ≤ n → IsBelow m o → IsBelow n o
weaker m n None l h = tt
weaker m n (Some s) l h = omega (arith, l, h)

path_short : (scopes : List Scope) → ParentsStandEarlier scopes → (n : ℕ) (o : Option ℕ) → n ≤ length scopes →
    IsBelow n o → length (path scopes o) ≤ n
path_short scopes earlier n None l h = omega arith
path_short scopes earlier zero (Some s) l h = absurd (omega (arith, h))
path_short scopes earlier (suc n) (Some s) l h =
    let x = item_at scopes s (omega (arith, l, h)) in
    let shorter = path_short scopes earlier n x.0.parent (omega (arith, l))
    (weaker s n x.0.parent (omega (arith, h)) (earlier s x.0 x.1)) in
    let long : length (path scopes (Some s)) ≡ suc (length (path scopes x.0.parent)) =
    ap (length {A = ℕ}) (path_step scopes s x.0 earlier x.1) in
    omega (arith, shorter, long)

-- a path has at most as many members as there are scopes
pub path_fits : (scopes : List Scope) → ParentsStandEarlier scopes → (o : Option ℕ) → ScopeIsInRange scopes o →
    length (path scopes o) ≤ length scopes
path_fits scopes earlier o h = path_short scopes earlier (length scopes) o (omega arith) h

-- each member of a path exists

abbrev Below : ℕ → List ℕ → Type 0
Below n p = All (λ x. x < n) p

among_below : (n : ℕ) (ps : List (List ℕ)) (o : Option ℕ) → All (Below n) ps → Below n (path_among ps o)
among_below n ps None h = All-nil (λ x. x < n)
among_below n [] (Some i) h = All-nil (λ x. x < n)
among_below n (p ∷ ps) (Some zero) h = h 0 p (omega arith)
among_below n (p ∷ ps) (Some (suc i)) h = among_below n ps (Some i) (λ k d l. h (suc k) d (omega (arith, l)))

below_with : (earlier : List (List ℕ)) (more : List Scope) → All (Below (length earlier)) earlier →
    All (Below (length (fold with_path earlier more))) (fold with_path earlier more)
below_with earlier [] h = h
below_with earlier (s ∷ more) h =
    let n = length earlier in
    let outer = path_among earlier s.parent in
    let m = length (with_path earlier s) in
    let long : m ≡ n + 1 = omega (arith, length_push earlier (n ∷ outer)) in
    let grown : (p : List ℕ) → Below n p → Below m p = λ p b. All-weaker (λ x. x < n) (λ x. x < m) (λ x l. omega (arith, l, long)) p b in
    let new = All-cons (λ x. x < m) n outer (omega (arith, long)) (grown outer (among_below n earlier s.parent h)) in
    below_with (with_path earlier s) more
    (All-append (Below m) earlier ((n ∷ outer) ∷ []) (All-weaker (Below n) (Below m) grown earlier h)
    (All-cons (Below m) (n ∷ outer) [] new (All-nil (Below m))))

pub path_members : (scopes : List Scope) (o : Option ℕ) → Below (length scopes) (path scopes o)
unfolding paths
path_members scopes o = search (rules, length_paths, among_below, below_with, All-nil)

-- the ids of all scopes

pub range_step : (a b : ℕ) → a < b → range_with_len a (b - a) ≡ a ∷ range_with_len (a + 1) (b - (a + 1))
range_step a b h = let one_less : b - a ≡ suc (b - (a + 1)) = omega (arith, h) in ap (range_with_len a) one_less

pub range_below : (a n m : ℕ) → a + n ≤ m → All (λ x. x < m) (range_with_len a n)
range_below a zero m h = All-nil (λ x. x < m)
range_below a (suc n) m h = search (rules, All-cons, range_below (a + 1) n m (omega (arith, h)))
