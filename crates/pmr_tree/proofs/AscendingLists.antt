-- Ascending lists of numbers: filters, and numbers put in.
use Rattle.std.proofs.Common.{◌≡◌, ℕ, ◌+◌, ◌<◌, ◌≤◌, Bool, true, false, cond, not, List, [], ◌∷◌, ◌++◌, map, refl, sym, ◌∙◌, ap, subst, arith, append_assoc, append-nil}
use Rattle.std.specs.Prelude.{filter, nat_eq, nat_lt}
use Rattle.std.proofs.lemmas.Bool.Decides.{nat_tests}
use Rattle.sand_model.specs.Tree.{add, without}
use Rattle.pmr_tree.specs.Lists.{Each, Above, RiseStrictly, put_all, take_all}

-- a number is below another, the same or above it
pub data Order (x y : ℕ) : Type 0 where
  below : x < y → Order x y
  same : x ≡ y → Order x y
  above : y < x → Order x y

pub order : (x y : ℕ) → Order x y
order x y =
    let go : (b c : Bool) → nat_lt x y ≡ b → nat_lt y x ≡ c → Order x y =
    elim [
      | true ↦ λ c e f. below (grind (arith, nat_tests))
      | false ↦ elim [ true ↦ λ e f. above (grind (arith, nat_tests)) | false ↦ λ e f. same (grind (arith, nat_tests)) ]
    ] in
    go (nat_lt x y) (nat_lt y x) refl refl

-- a test is true or false
pub data Test (b : Bool) : Type 0 where
  holds : b ≡ true → Test b
  fails : b ≡ false → Test b

pub test : (b : Bool) → Test b
test true = holds refl
test false = fails refl

pub add_before : (x y : ℕ) (ys : List ℕ) → x < y → add x (y ∷ ys) ≡ x ∷ y ∷ ys
add_before x y ys h = grind (arith, nat_tests)

pub add_after : (x y : ℕ) (ys : List ℕ) → y < x → add x (y ∷ ys) ≡ y ∷ add x ys
add_after x y ys h = grind (arith, nat_tests)

pub add_here : (y : ℕ) (ys : List ℕ) → add y (y ∷ ys) ≡ y ∷ ys
add_here y ys = grind (arith, nat_tests)

pub add_first : (x : ℕ) (ys : List ℕ) → Above x ys → add x ys ≡ x ∷ ys
add_first x [] h = refl
add_first x (y ∷ ys) h = add_before x y ys h.0

pub each_map : {A : Type 0} (P Q : A → Type 0) → ((x : A) → P x → Q x) → (xs : List A) → Each P xs → Each Q xs
each_map P Q f [] h = tt
each_map P Q f (x ∷ xs) h = (f x h.0, each_map P Q f xs h.1)

pub each_append : {A : Type 0} (P : A → Type 0) (xs ys : List A) → Each P xs → Each P ys → Each P (xs ++ ys)
each_append P [] ys h k = k
each_append P (x ∷ xs) ys h k = (h.0, each_append P xs ys h.1 k)

pub each_filter : {A : Type 0} (P : A → Type 0) (p : A → Bool) (xs : List A) → Each P xs → Each P (filter p xs)
each_filter P p [] h = tt
each_filter P p (x ∷ xs) h =
    elim (p x) as (λ b. Each P (cond b (x ∷ filter p xs) (filter p xs))) [ true ↦ (h.0, each_filter P p xs h.1) | false ↦ each_filter P p xs h.1 ]

pub each_of_map : {A B : Type 0} (P : B → Type 0) (f : A → B) (xs : List A) → Each (λ x. P (f x)) xs → Each P (map f xs)
each_of_map P f [] h = tt
each_of_map P f (x ∷ xs) h = (h.0, each_of_map P f xs h.1)

pub each_add : (P : ℕ → Type 0) (x : ℕ) (ys : List ℕ) → P x → Each P ys → Each P (add x ys)
each_add P x [] p h = (p, tt)
each_add P x (y ∷ ys) p h =
    elim (order x y) [
      | below l ↦ subst (Each P) (sym (add_before x y ys l)) (p, h)
      | same e ↦ subst (λ x. Each P (add x (y ∷ ys))) (sym e) (subst (Each P) (sym (add_here y ys)) h)
      | above l ↦ subst (Each P) (sym (add_after x y ys l)) (h.0, each_add P x ys p h.1)
    ]

pub filter_all : {A : Type 0} (p : A → Bool) (xs : List A) → Each (λ x. p x ≡ true) xs → filter p xs ≡ xs
filter_all p [] h = refl
filter_all p (x ∷ xs) h = rw h.0 (ap (λ t. x ∷ t) (filter_all p xs h.1))

pub filter_none : {A : Type 0} (p : A → Bool) (xs : List A) → Each (λ x. p x ≡ false) xs → filter p xs ≡ []
filter_none p [] h = refl
filter_none p (x ∷ xs) h = rw h.0 (filter_none p xs h.1)

pub filter_same : {A : Type 0} (p q : A → Bool) (xs : List A) → Each (λ x. p x ≡ q x) xs → filter p xs ≡ filter q xs
filter_same p q [] h = refl
filter_same p q (x ∷ xs) h = rw (h.0, filter_same p q xs h.1) refl

pub filter_swap : {A : Type 0} (p q : A → Bool) (xs : List A) → filter p (filter q xs) ≡ filter q (filter p xs)
filter_swap p q [] = refl
filter_swap p q (x ∷ xs) =
    let more = filter_swap p q xs in
    elim (test (p x)) [
      | holds a ↦ elim (test (q x)) [ holds b ↦ rw (b, a, b) (ap (λ t. x ∷ t) more) | fails b ↦ rw (a, b) more ]
      | fails a ↦ elim (test (q x)) [ holds b ↦ rw (b, a) more | fails b ↦ rw (a, b) more ]
    ]

pub filter_weaker : {A : Type 0} (p q : A → Bool) → ((x : A) → q x ≡ true → p x ≡ true) → (xs : List A) → filter q (filter p xs) ≡ filter q xs
filter_weaker p q w [] = refl
filter_weaker p q w (x ∷ xs) =
    let more = filter_weaker p q w xs in
    elim (test (q x)) [
      | holds b ↦ (let a = w x b in rw (a, b) (ap (λ t. x ∷ t) more))
      | fails b ↦ elim (test (p x)) [ holds a ↦ rw (a, b) more | fails a ↦ rw (a, b) more ]
    ]

pub above_weaker : (x y : ℕ) → x ≤ y → (ys : List ℕ) → Above y ys → Above x ys
above_weaker x y h ys = each_map (λ k. y < k) (λ k. x < k) (λ k l. omega arith) ys

pub rises_filter : (p : ℕ → Bool) (xs : List ℕ) → RiseStrictly xs → RiseStrictly (filter p xs)
rises_filter p [] h = tt
rises_filter p (x ∷ xs) h =
    elim (p x) as (λ b. RiseStrictly (cond b (x ∷ filter p xs) (filter p xs))) [ true ↦ (each_filter (λ y. x < y) p xs h.0, rises_filter p xs h.1) | false ↦ rises_filter p xs h.1 ]

pub rises_add : (x : ℕ) (ys : List ℕ) → RiseStrictly ys → RiseStrictly (add x ys)
rises_add x [] h = (tt, tt)
rises_add x (y ∷ ys) h =
    elim (order x y) [
      | below l ↦ subst RiseStrictly (sym (add_before x y ys l)) ((l, above_weaker x y (omega arith) ys h.0), h)
      | same e ↦ subst (λ x. RiseStrictly (add x (y ∷ ys))) (sym e) (subst RiseStrictly (sym (add_here y ys)) h)
      | above l ↦ subst RiseStrictly (sym (add_after x y ys l)) (each_add (λ k. y < k) x ys l h.0, rises_add x ys h.1)
    ]

pub rises_append : (n : ℕ) (xs ys : List ℕ) → RiseStrictly xs → RiseStrictly ys → Each (λ x. x < n) xs → Each (λ y. n ≤ y) ys → RiseStrictly (xs ++ ys)
rises_append n [] ys h k a b = k
rises_append n (x ∷ xs) ys h k a b =
    (each_append (λ y. x < y) xs ys h.0 (each_map (λ y. n ≤ y) (λ y. x < y) (λ y l. omega (arith, a.0)) ys b), rises_append n xs ys h.1 k a.1 b)

-- a filter of a list with one number more
pub filter_add : (p : ℕ → Bool) (x : ℕ) (ys : List ℕ) → RiseStrictly ys → filter p (add x ys) ≡ cond (p x) (add x (filter p ys)) (filter p ys)
filter_add p x [] h = refl
filter_add p x (y ∷ ys) h =
    elim (order x y) [
      | below l ↦
          (let first = add_first x (filter p (y ∷ ys)) (each_filter (λ k. x < k) p (y ∷ ys) (l, above_weaker x y (omega arith) ys h.0)) in
          ap (filter p) (add_before x y ys l) ∙ ap (λ t. cond (p x) t (filter p (y ∷ ys))) (sym first))
      | same e ↦
          subst (λ x. filter p (add x (y ∷ ys)) ≡ cond (p x) (add x (filter p (y ∷ ys))) (filter p (y ∷ ys))) (sym e)
          (ap (filter p) (add_here y ys)
          ∙ elim (test (p y)) [ holds a ↦ rw a (sym (add_here y (filter p ys))) | fails a ↦ rw a refl ])
      | above l ↦
          (let more = filter_add p x ys h.1 in
          ap (filter p) (add_after x y ys l)
          ∙ elim (test (p y)) [
            | holds a ↦ elim (test (p x)) [
              | holds b ↦ rw (a, more, b) (sym (add_after x y (filter p ys) l))
              | fails b ↦ rw (a, more, b) refl
            ]
            | fails a ↦ rw a more
          ])
    ]

-- a filter of a list with many numbers more
pub filter_put_all : (p : ℕ → Bool) (xs ks : List ℕ) → RiseStrictly ks → filter p (put_all xs ks) ≡ put_all (filter p xs) (filter p ks)
filter_put_all p [] ks h = refl
filter_put_all p (x ∷ xs) ks h =
    filter_put_all p xs (add x ks) (rises_add x ks h)
    ∙ elim (test (p x)) [
      | holds a ↦ rw (filter_add p x ks h, a) refl
      | fails a ↦ rw (filter_add p x ks h, a) refl
    ]

pub rises_put_all : (xs ks : List ℕ) → RiseStrictly ks → RiseStrictly (put_all xs ks)
rises_put_all [] ks h = h
rises_put_all (x ∷ xs) ks h = rises_put_all xs (add x ks) (rises_add x ks h)

-- a number above all others goes to the end
pub add_last : (x : ℕ) (ys : List ℕ) → Each (λ y. y < x) ys → add x ys ≡ ys ++ (x ∷ [])
add_last x [] h = refl
add_last x (y ∷ ys) h = add_after x y ys h.0 ∙ ap (λ t. y ∷ t) (add_last x ys h.1)

pub put_all_last : (xs ks : List ℕ) → RiseStrictly xs → Each (λ k. Each (λ x. k < x) xs) ks → put_all xs ks ≡ ks ++ xs
put_all_last [] ks h k = sym (append-nil ks)
put_all_last (x ∷ xs) ks h k =
    ap (put_all xs) (add_last x ks (each_map (λ k. Each (λ x. k < x) (x ∷ xs)) (λ k. k < x) (λ k a. a.0) ks k))
    ∙ put_all_last xs (ks ++ (x ∷ [])) h.1 (each_append (λ k. Each (λ x. k < x) xs) ks (x ∷ []) (each_map (λ k. Each (λ x. k < x) (x ∷ xs)) (λ k. Each (λ x. k < x) xs) (λ k a. a.1) ks k) (h.0, tt))
    ∙ append_assoc ks (x ∷ []) xs

-- numbers that rise, put into nothing
pub put_all_new : (xs : List ℕ) → RiseStrictly xs → put_all xs [] ≡ xs
put_all_new xs h = put_all_last xs [] h tt

pub put_all_append : (xs ys ks : List ℕ) → put_all (xs ++ ys) ks ≡ put_all ys (put_all xs ks)
put_all_append [] ys ks = refl
put_all_append (x ∷ xs) ys ks = put_all_append xs ys (add x ks)

-- a number that is not there is not taken
pub without_none : (x : ℕ) (ks : List ℕ) → Above x ks → without x ks ≡ ks
without_none x ks h = filter_all (λ k. not (nat_eq k x)) ks (each_map (λ k. x < k) (λ k. not (nat_eq k x) ≡ true) (λ k l. differ k x l) ks h) where
  differ : (k x : ℕ) → x < k → not (nat_eq k x) ≡ true
  differ k x l = grind (arith, nat_tests)

pub take_all_cons : (x : ℕ) (xs ks : List ℕ) → Above x xs → take_all xs (x ∷ ks) ≡ x ∷ take_all xs ks
take_all_cons x [] ks h = refl
take_all_cons x (y ∷ xs) ks h =
    let e : not (nat_eq x y) ≡ true = differ x y h.0 in
    rw e (take_all_cons x xs (without y ks) h.1)
  where
    differ : (x y : ℕ) → x < y → not (nat_eq x y) ≡ true
    differ x y l = grind (arith, nat_tests)

-- all numbers of a kind taken
pub take_all_filter : (p : ℕ → Bool) (ks : List ℕ) → RiseStrictly ks → take_all (filter p ks) ks ≡ filter (λ k. not (p k)) ks
take_all_filter p [] h = refl
take_all_filter p (k ∷ ks) h =
    let more = take_all_filter p ks h.1 in
    let same : without k (k ∷ ks) ≡ ks = ap (λ b. cond (not b) (k ∷ without k ks) (without k ks)) (eq-refl k) ∙ without_none k ks h.0 in
    elim (test (p k)) [
      | holds a ↦ rw a (ap (take_all (filter p ks)) same ∙ more)
      | fails a ↦ rw a (take_all_cons k (filter p ks) ks (each_filter (λ y. k < y) p ks h.0) ∙ ap (λ t. k ∷ t) more)
    ]
  where
    eq-refl : (k : ℕ) → nat_eq k k ≡ true
    eq-refl k = grind (arith, nat_tests)
