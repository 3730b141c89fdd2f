-- Lists as bags: what stands in a list, and what a flat_map and a filter do to a permutation.
use Rattle.std.proofs.Common.{◌≡◌, ℕ, zero, suc, ◌<◌, ◌≤◌, Bool, true, false, cond, List, [], ◌∷◌, ◌++◌, length, get_or, set, swap, All, Contains, filter, flat_map}
use Rattle.std.proofs.Common.{IsPermutation, ◌⊎◌, inl, inr, ⊎_elim, refl, sym, ap, ◌∙◌, subst, arith, true≢false, append_assoc}
use Rattle.std.proofs.lemmas.List.{get_or_default}
use Rattle.std.proofs.lemmas.List.Elements.{All-contains, All-contains_itself, All-nil, All-cons, All-head, All-tail, All-filter, filter_passes, filter-append}
use Rattle.std.proofs.lemmas.List.Elements.{Contains-get_or, Contains-append_left, Contains-append_right, Contains-append_cases}
use Rattle.std.proofs.lemmas.List.Sorted.{IsPermutation-refl, IsPermutation-trans, IsPermutation-append_left, IsPermutation-append_right, IsPermutation-append_comm, IsPermutation-keeps}

-- ---- what stands in a list

pub here : {X : Type 0} (x : X) (xs : List X) → Contains (x ∷ xs) x
here x xs = (0, omega arith, refl)

pub there : {X : Type 0} (x : X) (xs : List X) (y : X) → Contains xs y → Contains (x ∷ xs) y
there x xs y (k, below, is) = (suc k, omega arith, is)

pub cons_cases : {X : Type 0} (x : X) (xs : List X) (y : X) → Contains (x ∷ xs) y → (x ≡ y) ⊎ Contains xs y
cons_cases x xs y (zero, below, is) = inl is
cons_cases x xs y (suc k, below, is) = inr (k, omega arith, is)

pub none : {X : Type 0} (x : X) → Contains [] x → ⊥
none x (k, below, is) = absurd (omega arith)

pub only : {X : Type 0} (x y : X) → Contains (x ∷ []) y → x ≡ y
only x y h = ⊎_elim (λ e. e) (λ n. absurd (none y n)) (cons_cases x [] y h)

-- what holds of whatever stands in the list holds of each element
pub All-by : {X : Type 0} (P : X → Type 0) (xs : List X) → ((x : X) → Contains xs x → P x) → All P xs
All-by P xs each = λ k d below. each (get_or xs k d) (Contains-get_or xs k d below)

pub All-left : {X : Type 0} (P : X → Type 0) (xs ys : List X) → All P (xs ++ ys) → All P xs
All-left P xs ys h = All-by P xs (λ x at. All-contains P (xs ++ ys) x h (Contains-append_left xs ys x at))

pub All-right : {X : Type 0} (P : X → Type 0) (xs ys : List X) → All P (xs ++ ys) → All P ys
All-right P xs ys h = All-by P ys (λ x at. All-contains P (xs ++ ys) x h (Contains-append_right xs ys x at))

pub All-one : {X : Type 0} (P : X → Type 0) (x : X) → P x → All P (x ∷ [])
All-one P x h = All-cons P x [] h (All-nil P)

pub in_flat_map : {X A : Type 0} (f : X → List A) (xs : List X) (x : X) (a : A) → Contains xs x → Contains (f x) a → Contains (flat_map f xs) a
in_flat_map f [] x a h g = absurd (none x h)
in_flat_map f (y ∷ ys) x a h g =
    ⊎_elim
    (λ e. Contains-append_left (f y) (flat_map f ys) a (subst (λ z. Contains (f z) a) (sym e) g))
    (λ t. Contains-append_right (f y) (flat_map f ys) a (in_flat_map f ys x a t g))
    (cons_cases y ys x h)

pub from_flat_map : {X A : Type 0} (f : X → List A) (xs : List X) (a : A) → Contains (flat_map f xs) a → (x : X) × Contains xs x × Contains (f x) a
from_flat_map f [] a h = absurd (none a h)
from_flat_map f (y ∷ ys) a h =
    ⊎_elim
    (λ g. (y, here y ys, g))
    (λ t. let (x, at, g) = from_flat_map f ys a t in (x, there y ys x at, g))
    (Contains-append_cases (f y) (flat_map f ys) a h)

-- ---- filters

-- one element of a filter
abbrev pub passing : {X : Type 0} → (X → Bool) → X → List X
passing p x = cond (p x) (x ∷ []) []

filter_step : {X : Type 0} (x : X) (rest : List X) (b : Bool) → cond b (x ∷ rest) rest ≡ cond b (x ∷ []) [] ++ rest
filter_step x rest true = refl
filter_step x rest false = refl

pub filter_is : {X : Type 0} (p : X → Bool) (xs : List X) → filter p xs ≡ flat_map (passing p) xs
filter_is p [] = refl
filter_is p (x ∷ xs) = filter_step x (filter p xs) (p x) ∙ ap (λ rest. passing p x ++ rest) (filter_is p xs)

pub in_filter : {X : Type 0} (p : X → Bool) (xs : List X) (x : X) → Contains xs x → p x ≡ true → Contains (filter p xs) x
in_filter p xs x h e =
    subst (λ ys. Contains ys x) (sym (filter_is p xs))
    (in_flat_map (passing p) xs x x h (subst (λ b. Contains (cond b (x ∷ []) []) x) (sym e) (here x [])))

pub from_filter : {X : Type 0} (p : X → Bool) (xs : List X) (x : X) → Contains (filter p xs) x → Contains xs x × (p x ≡ true)
from_filter p xs x h = (
  All-contains (Contains xs) (filter p xs) x (All-filter p (Contains xs) xs (All-contains_itself xs)) h,
  All-contains (λ y. p y ≡ true) (filter p xs) x (filter_passes p xs) h,
)

filter_all_by : {X : Type 0} (x : X) (rest : List X) (b : Bool) → b ≡ true → cond b (x ∷ rest) rest ≡ x ∷ rest
filter_all_by x rest true e = refl
filter_all_by x rest false e = absurd (true≢false (sym e))

filter_none_by : {X : Type 0} (x : X) (rest : List X) (b : Bool) → b ≡ false → cond b (x ∷ rest) rest ≡ rest
filter_none_by x rest true e = absurd (true≢false e)
filter_none_by x rest false e = refl

pub filter_here : {X : Type 0} (p : X → Bool) (x : X) (xs : List X) → p x ≡ true → filter p (x ∷ xs) ≡ x ∷ filter p xs
filter_here p x xs e = filter_all_by x (filter p xs) (p x) e

pub filter_skips : {X : Type 0} (p : X → Bool) (x : X) (xs : List X) → p x ≡ false → filter p (x ∷ xs) ≡ filter p xs
filter_skips p x xs e = filter_none_by x (filter p xs) (p x) e

-- a filter leaves no more
pub filter_short : {X : Type 0} (p : X → Bool) (xs : List X) → length (filter p xs) ≤ length xs
filter_short p [] = omega arith
filter_short p (x ∷ xs) =
    let rest = filter_short p xs in
    let go : (b : Bool) → p x ≡ b → length (filter p (x ∷ xs)) ≤ length (x ∷ xs) =
    elim [ true ↦ λ e. (let same = ap length (filter_here p x xs e) in omega arith) | false ↦ λ e. (let same = ap length (filter_skips p x xs e) in omega arith) ] in
    go (p x) refl

pub filter_all : {X : Type 0} (p : X → Bool) (xs : List X) → All (λ x. p x ≡ true) xs → filter p xs ≡ xs
filter_all p [] h = refl
filter_all p (x ∷ xs) h =
    filter_here p x xs (All-head (λ y. p y ≡ true) x xs h) ∙ ap (λ rest. x ∷ rest) (filter_all p xs (All-tail (λ y. p y ≡ true) x xs h))

pub filter_none : {X : Type 0} (p : X → Bool) (xs : List X) → All (λ x. p x ≡ false) xs → filter p xs ≡ []
filter_none p [] h = refl
filter_none p (x ∷ xs) h =
    filter_skips p x xs (All-head (λ y. p y ≡ false) x xs h) ∙ filter_none p xs (All-tail (λ y. p y ≡ false) x xs h)

pub filter-flat_map : {X A : Type 0} (p : A → Bool) (f : X → List A) (xs : List X) → filter p (flat_map f xs) ≡ flat_map (λ x. filter p (f x)) xs
filter-flat_map p f [] = refl
filter-flat_map p f (x ∷ xs) = filter-append p (f x) (flat_map f xs) ∙ ap (λ rest. filter p (f x) ++ rest) (filter-flat_map p f xs)

filter_both_by : {X : Type 0} (p q : X → Bool) (x : X) (xs : List X) → (p x ≡ true → q x ≡ true) → filter p (filter q xs) ≡ filter p xs → (b : Bool) → q x ≡ b
    → filter p (filter q (x ∷ xs)) ≡ filter p (x ∷ xs)
filter_both_by p q x xs narrow rest true e =
    ap (filter p) (filter_here q x xs e) ∙ ap (λ ys. cond (p x) (x ∷ ys) ys) rest
filter_both_by p q x xs narrow rest false e =
    ap (filter p) (filter_skips q x xs e) ∙ rest
    ∙ sym (filter_skips p x xs (elim (p x) as (λ b. (b ≡ true → q x ≡ true) → b ≡ false) [ true ↦ λ h. absurd (true≢false (sym (h refl) ∙ e)) | false ↦ λ h. refl ] narrow))

-- a filter after a wider one is the filter alone
pub filter_both : {X : Type 0} (p q : X → Bool) → ((x : X) → p x ≡ true → q x ≡ true) → (xs : List X) → filter p (filter q xs) ≡ filter p xs
filter_both p q narrow [] = refl
filter_both p q narrow (x ∷ xs) = filter_both_by p q x xs (narrow x) (filter_both p q narrow xs) (q x) refl

-- ---- permutations

-- the first two parts change places
pub IsPermutation-exchange : {X : Type 0} (xs ys zs : List X) → IsPermutation (xs ++ (ys ++ zs)) (ys ++ (xs ++ zs))
IsPermutation-exchange xs ys zs =
    subst (λ l. IsPermutation l (ys ++ (xs ++ zs))) (append_assoc xs ys zs)
    (subst (λ l. IsPermutation ((xs ++ ys) ++ zs) l) (append_assoc ys xs zs)
    (IsPermutation-append_left zs (xs ++ ys) (ys ++ xs) (IsPermutation-append_comm xs ys)))

pub IsPermutation-same : {X : Type 0} (xs ys : List X) → xs ≡ ys → IsPermutation xs ys
IsPermutation-same xs ys e = subst (IsPermutation xs) e (IsPermutation-refl xs)

-- an exchange, at any default
swap_is : {X : Type 0} (xs : List X) (i j : ℕ) (d : X) → i < length xs → j < length xs → set (set xs i (get_or xs j d)) j (get_or xs i d) ≡ swap xs i j
swap_is [] i j d li lj = absurd (omega arith)
swap_is (e ∷ ys) i j d li lj =
    ap (λ x. set (set (e ∷ ys) i x) j (get_or (e ∷ ys) i d)) (get_or_default (e ∷ ys) j d e lj)
    ∙ ap (λ x. set (set (e ∷ ys) i (get_or (e ∷ ys) j e)) j x) (get_or_default (e ∷ ys) i d e li)

exchanged : {X A : Type 0} (f : X → List A) (x : X) (xs : List X) (j : ℕ) → j < length xs → IsPermutation (f x ++ flat_map f xs) (f (get_or xs j x) ++ flat_map f (set xs j x))
exchanged f x [] j below = absurd (omega arith)
exchanged f x (y ∷ ys) zero below = IsPermutation-exchange (f x) (f y) (flat_map f ys)
exchanged f x (y ∷ ys) (suc j) below =
    let z = get_or ys j x in
    IsPermutation-trans (f x ++ (f y ++ flat_map f ys)) (f y ++ (f x ++ flat_map f ys)) (f z ++ (f y ++ flat_map f (set ys j x)))
    (IsPermutation-exchange (f x) (f y) (flat_map f ys))
    (IsPermutation-trans (f y ++ (f x ++ flat_map f ys)) (f y ++ (f z ++ flat_map f (set ys j x))) (f z ++ (f y ++ flat_map f (set ys j x)))
    (IsPermutation-append_right (f y) (f x ++ flat_map f ys) (f z ++ flat_map f (set ys j x)) (exchanged f x ys j (omega arith)))
    (IsPermutation-exchange (f y) (f z) (flat_map f (set ys j x))))

flat_map-swap : {X A : Type 0} (f : X → List A) (xs : List X) (i j : ℕ) → i < length xs → j < length xs → IsPermutation (flat_map f xs) (flat_map f (swap xs i j))
flat_map-swap f [] i j li lj = absurd (omega arith)
flat_map-swap f (x ∷ xs) zero zero li lj = IsPermutation-refl (flat_map f (x ∷ xs))
flat_map-swap f (x ∷ xs) zero (suc j) li lj = exchanged f x xs j (omega arith)
flat_map-swap f (x ∷ xs) (suc i) zero li lj = exchanged f x xs i (omega arith)
flat_map-swap f (x ∷ xs) (suc i) (suc j) li lj =
    let bi : i < length xs = omega arith in
    let bj : j < length xs = omega arith in
    subst (λ (l : List _). IsPermutation (flat_map f (x ∷ xs)) (f x ++ flat_map f l)) (sym (swap_is xs i j x bi bj))
    (IsPermutation-append_right (f x) (flat_map f xs) (flat_map f (swap xs i j)) (flat_map-swap f xs i j bi bj))

-- a flat_map keeps a permutation
pub IsPermutation-flat_map : {X A : Type 0} (f : X → List A) (xs ys : List X) → IsPermutation xs ys → IsPermutation (flat_map f xs) (flat_map f ys)
IsPermutation-flat_map f xs ys h =
    IsPermutation-keeps xs (λ l. IsPermutation (flat_map f xs) (flat_map f l)) (IsPermutation-refl (flat_map f xs))
    (λ l i j li lj p. IsPermutation-trans (flat_map f xs) (flat_map f l) (flat_map f (swap l i j)) p (flat_map-swap f l i j li lj))
    ys h

-- a filter keeps a permutation
pub IsPermutation-filter : {X : Type 0} (p : X → Bool) (xs ys : List X) → IsPermutation xs ys → IsPermutation (filter p xs) (filter p ys)
IsPermutation-filter p xs ys h =
    subst (λ l. IsPermutation l (filter p ys)) (sym (filter_is p xs))
    (subst (IsPermutation (flat_map (passing p) xs)) (sym (filter_is p ys)) (IsPermutation-flat_map (passing p) xs ys h))
