-- The first k of each left id: what a list loses with its first element, and the case of one partner.
use Rattle.std.proofs.Common.{◌≡◌, ⊎_elim, ℕ, suc, ◌<◌, ◌≤◌, min, Bool, true, false, cond, not, ◌&&◌, List, [], ◌∷◌, filter, Contains, refl, sym, ap, ap₂, ◌∙◌, subst, arith}
use Rattle.std.specs.Prelude.{nat_eq, nat_lt}
use Rattle.std.proofs.lemmas.Bool.{eqb-true, lt-ltb, le-ltb, eq-eqb, cases_lt}
use Rattle.std.proofs.lemmas.Bool.Decides.{nat_tests}
use Rattle.sand_model.specs.Sources.{Found, first_of_each}
use Rattle.best_first.proofs.Bags.{here, there}
use Rattle.sand_model.specs.Sources.{with_one_more, nearest_after, nearest_of}

-- ---- counts up to k

-- the two ways of counting agree as far as k
abbrev pub AgreeUpTo : ℕ → (ℕ → ℕ) → (ℕ → ℕ) → Type 0
AgreeUpTo k a b = (id : ℕ) → min k (a id) ≡ min k (b id)

-- numbers that agree as far as k are below k alike
same_test : (k m n : ℕ) → min k m ≡ min k n → nat_lt m k ≡ nat_lt n k
same_test k m n e =
    ⊎_elim
    (λ h. lt-ltb m k h ∙ sym (lt-ltb n k (below k m n e h)))
    (λ h. le-ltb m k h ∙ sym (le-ltb n k (above k m n e h)))
    (cases_lt m k)
  where
    below : (k m n : ℕ) → min k m ≡ min k n → m < k → n < k
    below k m n e h = omega arith

    above : (k m n : ℕ) → min k m ≡ min k n → k ≤ m → k ≤ n
    above k m n e h = omega arith

-- they still agree with one more of an id
more_agree : (k : ℕ) (a b : ℕ → ℕ) (id : ℕ) → AgreeUpTo k a b → AgreeUpTo k (with_one_more a id) (with_one_more b id)
more_agree k a b id h other = go (nat_eq other id) where
  next : (k m n : ℕ) → min k m ≡ min k n → min k (suc m) ≡ min k (suc n)
  next k m n e = omega arith

  go : (t : Bool) → min k (cond t (suc (a other)) (a other)) ≡ min k (cond t (suc (b other)) (b other))
  go true = next k (a other) (b other) (h other)
  go false = h other

-- so they leave one list
pub same_nearest : (k : ℕ) (a b : ℕ → ℕ) (list : List Found) → AgreeUpTo k a b → nearest_after k a list ≡ nearest_after k b list
same_nearest k a b [] h = refl
same_nearest k a b (f ∷ fs) h =
    ap₂ (λ (t : Bool) (rest : List Found). cond t (f ∷ rest) rest) (same_test k (a f.left) (b f.left) (h f.left))
    (same_nearest k (with_one_more a f.left) (with_one_more b f.left) fs (more_agree k a b f.left h))

-- one more of an id of which k came changes nothing
full_agree : (k : ℕ) (a : ℕ → ℕ) (id : ℕ) → k ≤ a id → AgreeUpTo k (with_one_more a id) a
full_agree k a id full other = go (nat_eq other id) refl where
  both : (k m n : ℕ) → m ≡ n → k ≤ n → min k (suc m) ≡ min k m
  both k m n e h = omega arith

  go : (t : Bool) → nat_eq other id ≡ t → min k (cond t (suc (a other)) (a other)) ≡ min k (a other)
  go true e = both k (a other) (a id) (ap a (eqb-true other id e)) full
  go false e = refl

-- an element before which k have its left id is passed over
pub passed_first : (k : ℕ) (a : ℕ → ℕ) (f : Found) (fs : List Found) → k ≤ a f.left → nearest_after k a (f ∷ fs) ≡ nearest_after k a fs
passed_first k a f fs full =
    let rest = nearest_after k (with_one_more a f.left) fs in
    ap (λ (t : Bool). cond t (f ∷ rest) rest) (le-ltb (a f.left) k full) ∙ same_nearest k (with_one_more a f.left) a fs (full_agree k a f.left full)

-- any other is the first of those left
pub taken_first : (k : ℕ) (a : ℕ → ℕ) (f : Found) (fs : List Found) → a f.left < k → nearest_after k a (f ∷ fs) ≡ f ∷ nearest_after k (with_one_more a f.left) fs
taken_first k a f fs open_ =
    let rest = nearest_after k (with_one_more a f.left) fs in
    ap (λ (t : Bool). cond t (f ∷ rest) rest) (lt-ltb (a f.left) k open_)

-- where k came of each left id nothing is left
pub none_nearest : (k : ℕ) (a : ℕ → ℕ) (list : List Found) → ((f : Found) → Contains list f → k ≤ a f.left) → nearest_after k a list ≡ []
none_nearest k a [] full = refl
none_nearest k a (f ∷ fs) full = passed_first k a f fs (full f (here f fs)) ∙ none_nearest k a fs (λ g at. full g (there f fs g at))

-- what is left first stands in the list
pub first_nearest : (k : ℕ) (a : ℕ → ℕ) (list : List Found) (f : Found) (more : List Found) → nearest_after k a list ≡ f ∷ more → Contains list f
first_nearest k a [] f more e = absurd (let clash : ⊥ = cc in clash)
first_nearest k a (g ∷ gs) f more e =
    let rest = nearest_after k (with_one_more a g.left) gs in
    let go : (t : Bool) → cond t (g ∷ rest) rest ≡ f ∷ more → Contains (g ∷ gs) f = elim [
      | true ↦ λ e. subst (Contains (g ∷ gs)) (ap (first_or g) e) (here g gs)
      | false ↦ λ e. there g gs f (first_nearest k (with_one_more a g.left) gs f more e)
    ] in
    go (nat_lt (a g.left) k) e
  where
    first_or : Found → List Found → Found
    first_or other [] = other
    first_or other (x ∷ xs) = x

-- ---- one partner

-- an element that passes both tests
both_tests : (p q r : Found → Bool) → ((x : Found) → r x ≡ (q x && p x)) → (xs : List Found) → filter p (filter q xs) ≡ filter r xs
both_tests p q r h [] = refl
both_tests p q r h (x ∷ xs) =
    let rest = both_tests p q r h xs in
    let go : (t : Bool) → r x ≡ (t && p x) → filter p (cond t (x ∷ filter q xs) (filter q xs)) ≡ cond (r x) (x ∷ filter r xs) (filter r xs) = elim [
      | true ↦ λ e. ap (λ (l : List Found). cond (p x) (x ∷ l) l) rest ∙ ap (λ (t : Bool). cond t (x ∷ filter r xs) (filter r xs)) (sym e)
      | false ↦ λ e. rest ∙ ap (λ (t : Bool). cond t (x ∷ filter r xs) (filter r xs)) (sym e)
    ] in
    go (q x) (h x)

-- an element of whose left id none came
abbrev pub fresh : (ℕ → ℕ) → Found → Bool
fresh came f = nat_eq (came f.left) 0

below_one : (n : ℕ) → nat_lt n 1 ≡ nat_eq n 0
below_one n = ⊎_elim (λ h. lt-ltb n 1 h ∙ sym (eq-eqb n 0 (none n h))) (λ h. le-ltb n 1 h ∙ sym (some n h)) (cases_lt n 1)
  where
    none : (n : ℕ) → n < 1 → n ≡ 0
    none n h = omega arith

    some : (n : ℕ) → 1 ≤ n → nat_eq n 0 ≡ false
    some n h = grind (arith, nat_tests)

-- the first of each left id of which none came before
pub one_each : (came : ℕ → ℕ) (list : List Found) → nearest_after 1 came list ≡ filter (fresh came) (first_of_each list)
one_each came [] = refl
one_each came (f ∷ fs) =
    let others = filter (λ g. not (nat_eq g.left f.left)) (first_of_each fs) in
    let rest : nearest_after 1 (with_one_more came f.left) fs ≡ filter (fresh came) others =
    one_each (with_one_more came f.left) fs
    ∙ sym (both_tests (fresh came) (λ g. not (nat_eq g.left f.left)) (fresh (with_one_more came f.left)) (λ g. split (nat_eq g.left f.left) (came g.left)) (first_of_each fs)) in
    ap₂ (λ (t : Bool) (l : List Found). cond t (f ∷ l) l) (below_one (came f.left)) rest
  where
    never : (n : ℕ) → nat_eq (suc n) 0 ≡ false
    never n = grind (arith, nat_tests)

    split : (t : Bool) (n : ℕ) → nat_eq (cond t (suc n) n) 0 ≡ (not t && nat_eq n 0)
    split true n = never n
    split false n = refl

-- with one partner each, the first of each left id
pub one_is_semi : (answer : List Found) → nearest_of 1 answer ≡ first_of_each answer
one_is_semi answer = one_each (λ id. 0) answer ∙ all (first_of_each answer)
  where
    all : (xs : List Found) → filter (fresh (λ id. 0)) xs ≡ xs
    all [] = refl
    all (x ∷ xs) = ap (λ l. x ∷ l) (all xs)
