-- Pairs of an id and an int, sorted by the int and then by the id, are in the order of their numbers in an index.
use Rattle.std.proofs.Common.{◌≡◌, ◌≢◌, ℕ, ℤ, suc, ◌+◌, ◌*◌, ◌^◌, ◌<◌, ◌≤◌, ◌<ℤ◌, Bool, true, false, cond, List, [], ◌∷◌, map, refl, sym, ◌∙◌, ap, ap₂, inl, inr, arith, true≢false}
use Rattle.std.specs.Prelude.{nat_lt}
use Rattle.std.specs.Cmp.{int_ranks, nat_cmp_is}
use Rattle.std.specs.Ordering.{int_cmp, nat_cmp, is_lt, MatchOrdering}
use Rattle.std.specs.declared.cmp.Ordering.{Ordering}
use Rattle.std.specs.declared.cmp.Ordering.TheVariants as ordering
use Rattle.std.proofs.lemmas.Bool.Decides.{leb_tells}
use Rattle.code_btree.specs.Items.{Each}
use Rattle.code_btree.specs.Tree.{same, times}
use Rattle.code_btree.proofs.Lists.{same_cases, same_self, Each-map}
use Rattle.code_btree.proofs.Orders.{lt_is, lt_not}
use Rattle.sand_base.specs.InRange.{IsIntInRange}
use Rattle.sand_base.specs.declared.value.Value.{Value}
use Rattle.sand_base.specs.declared.value.Value.TheVariants as value
use Rattle.sand_model.specs.Answer.{number_cmp}
use Rattle.sand_model.specs.Sources.{placed, sorted}
use Rattle.attr_index.specs.Key.{value_key}
use Rattle.attr_index.proofs.Ints.{key_lt}
use Rattle.plan_names.proofs.IntColumns.{IsIntPair}
use Rattle.plan_names.proofs.Above.{Pairs, InOrder}

-- the numbers rise strictly
abbrev pub Rising : List ℕ → Type 0
Rising [] = Unit {0}
Rising (n ∷ ns) = Each (λ k. n < k) ns × Rising ns

-- none below all stands among them
none_among : (n : ℕ) (ns : List ℕ) → Each (λ k. n < k) ns → times n ns ≡ 0
none_among n [] h = refl
none_among n (k ∷ ns) h = elim (same_cases n k) [ inl x ↦ absurd (omega (arith, x.1, h.0)) | inr x ↦ omega (arith, x.0, none_among n ns h.1) ]

above_all : (n k : ℕ) (ns : List ℕ) → n ≤ k → Each (λ j. k < j) ns → Each (λ j. n < j) ns
above_all n k ns l h = Each-map (λ j. k < j) (λ j. n < j) (λ j m. omega (arith, l, m)) ns h

-- two rising lists with the same numbers are one
pub rising_same : (ns ks : List ℕ) → Rising ns → Rising ks → ((n : ℕ) → times n ns ≡ times n ks) → ns ≡ ks
rising_same [] [] h k e = refl
rising_same [] (k ∷ ks) h r e = absurd (omega (arith, e k, same_self k))
rising_same (n ∷ ns) [] h r e = absurd (omega (arith, e n, same_self n))
rising_same (n ∷ ns) (k ∷ ks) h r e = elim (leb_tells (suc n) k) [
  | inl x ↦ absurd (omega (arith, e n, same_self n, none_among n (k ∷ ks) (x.1, above_all n k ks (omega (arith, x.1)) r.0)))
  | inr x ↦ elim (leb_tells (suc k) n) [
    | inl y ↦ absurd (omega (arith, e k, same_self k, none_among k (n ∷ ns) (y.1, above_all k n ns (omega (arith, y.1)) h.0)))
    | inr y ↦
        let one : n ≡ k = omega (arith, x.1, y.1) in
        ap₂ (λ (i : ℕ) (is : List ℕ). i ∷ is) one (rising_same ns ks h.1 r.1 (λ i. (let s : same i n ≡ same i k = ap (λ (j : ℕ). same i j) one in omega (arith, e i, s))))
  ]
]

-- the number of a pair in an index
abbrev pub number_of : ℕ × Value → ℕ
number_of p = value_key p.1 * 2 ^ 32 + p.0

abbrev pub numbers : Pairs → List ℕ
numbers ps = map number_of ps

-- a pair is before another one where its number is less
less_is : (i j : ℕ) (n k : ℤ) → IsIntInRange n → IsIntInRange k → i < 2 ^ 32 → j < 2 ^ 32
    → is_lt (number_cmp (i, value.Int n) (j, value.Int k)) ≡ nat_lt (number_of (i, value.Int n)) (number_of (j, value.Int k))
less_is i j n k rn rk si sj = go (int_cmp n k) refl (int_ranks n k) where
  by_id : n ≡ k → is_lt (nat_cmp i j) ≡ nat_lt (number_of (i, value.Int n)) (number_of (j, value.Int k))
  by_id e =
      let same_key : value_key (value.Int n) ≡ value_key (value.Int k) = ap (λ (m : ℤ). value_key (value.Int m)) e in
      elim (leb_tells (suc i) j) [
        | inl x ↦
            rw (sym (nat_cmp_is i j ordering.Less x.1)) (sym (lt_is (number_of (i, value.Int n)) (number_of (j, value.Int k)) (omega (arith, same_key, x.1))))
        | inr x ↦
            let not_less : nat_lt (number_of (i, value.Int n)) (number_of (j, value.Int k)) ≡ false = lt_not (number_of (i, value.Int n)) (number_of (j, value.Int k)) (omega (arith, same_key, x.1)) in
            elim (leb_tells (suc j) i) [
              | inl y ↦ rw (sym (nat_cmp_is i j ordering.Greater y.1)) (sym not_less)
              | inr y ↦ (let at : i ≡ j = omega (arith, x.1, y.1) in rw (sym (nat_cmp_is i j ordering.Equal at)) (sym not_less))
            ]
      ]

  go : (o : Ordering) → int_cmp n k ≡ o → MatchOrdering o (n <ℤ k) (n ≡ k) (k <ℤ n)
      → is_lt (number_cmp (i, value.Int n) (j, value.Int k)) ≡ nat_lt (number_of (i, value.Int n)) (number_of (j, value.Int k))
  go ordering.Less e r = rw e (sym (lt_is (number_of (i, value.Int n)) (number_of (j, value.Int k)) (let l = key_lt n k rn rk r in omega (arith, l, si))))
  go ordering.Equal e r = rw e (by_id r)
  go ordering.Greater e r = rw e (sym (lt_not (number_of (i, value.Int n)) (number_of (j, value.Int k)) (let l = key_lt k n rk rn r in omega (arith, l, sj))))

less : (p q : ℕ × Value) → IsIntPair p → IsIntPair q → is_lt (number_cmp p q) ≡ nat_lt (number_of p) (number_of q)
less p q h k =
    let a : p ≡ (p.0, value.Int h.0) = ap (λ (v : Value). (p.0, v)) h.1.0 in
    let b : q ≡ (q.0, value.Int k.0) = ap (λ (v : Value). (q.0, v)) k.1.0 in
    ap₂ (λ (x y : ℕ × Value). is_lt (number_cmp x y)) a b ∙ less_is p.0 q.0 h.0 k.0 h.1.1.0 k.1.1.0 h.1.1.1 k.1.1.1
    ∙ sym (ap₂ (λ (x y : ℕ × Value). nat_lt (number_of x) (number_of y)) a b)

-- what holds of each pair holds of each in a sorted list
each_placed : (P : ℕ × Value → Type 0) (x : ℕ × Value) (ys : Pairs) → P x → Each P ys → Each P (placed number_cmp x ys)
each_placed P x [] p h = (p, tt)
each_placed P x (y ∷ ys) p h = elim (is_lt (number_cmp y x)) as (λ b. Each P (cond b (y ∷ placed number_cmp x ys) (x ∷ y ∷ ys))) [
  | true ↦ (h.0, each_placed P x ys p h.1)
  | false ↦ (p, h)
]

pub each_sorted : (P : ℕ × Value → Type 0) (xs : Pairs) → Each P xs → Each P (sorted number_cmp xs)
each_sorted P [] h = tt
each_sorted P (x ∷ xs) h = each_placed P x (sorted number_cmp xs) h.0 (each_sorted P xs h.1)

-- each number stands as often
times_placed : (n : ℕ) (x : ℕ × Value) (ys : Pairs) → times n (numbers (placed number_cmp x ys)) ≡ times n (numbers (x ∷ ys))
times_placed n x [] = refl
times_placed n x (y ∷ ys) = elim (is_lt (number_cmp y x)) as (λ b. times n (numbers (cond b (y ∷ placed number_cmp x ys) (x ∷ y ∷ ys))) ≡ times n (numbers (x ∷ y ∷ ys))) [
  | true ↦ omega (arith, times_placed n x ys)
  | false ↦ refl
]

pub times_sorted : (n : ℕ) (xs : Pairs) → times n (numbers (sorted number_cmp xs)) ≡ times n (numbers xs)
times_sorted n [] = refl
times_sorted n (x ∷ xs) = omega (arith, times_placed n x (sorted number_cmp xs), times_sorted n xs)

each_numbers : (P : ℕ → Type 0) (ps : Pairs) → Each (λ p. P (number_of p)) ps → Each P (numbers ps)
each_numbers P [] h = tt
each_numbers P (p ∷ ps) h = (h.0, each_numbers P ps h.1)

each_of_numbers : (P : ℕ → Type 0) (ps : Pairs) → Each P (numbers ps) → Each (λ p. P (number_of p)) ps
each_of_numbers P [] h = tt
each_of_numbers P (p ∷ ps) h = (h.0, each_of_numbers P ps h.1)

-- a pair is placed among others of other ids, which rise
rising_placed : (x : ℕ × Value) (ys : Pairs) → IsIntPair x → Each IsIntPair ys → Each (λ y. y.0 ≢ x.0) ys → Rising (numbers ys) → Rising (numbers (placed number_cmp x ys))
rising_placed x [] i is d h = (tt, tt)
rising_placed x (y ∷ ys) i is d h =
    let go : (b : Bool) → is_lt (number_cmp y x) ≡ b → Rising (numbers (cond b (y ∷ placed number_cmp x ys) (x ∷ y ∷ ys))) =
    elim [
      | true ↦ λ e.
          let l : number_of y < number_of x = elim (leb_tells (suc (number_of y)) (number_of x)) [
            | inl z ↦ z.1
            | inr z ↦ absurd (true≢false (sym e ∙ (less y x is.0 i ∙ lt_not (number_of y) (number_of x) (omega (arith, z.1)))))
          ] in (
            each_numbers (λ k. number_of y < k) (placed number_cmp x ys) (each_placed (λ p. number_of y < number_of p) x ys l (each_of_numbers (λ k. number_of y < k) ys h.0)),
            rising_placed x ys i is.1 d.1 h.1,
          )
      | false ↦ λ e.
          let n : number_of y ≢ number_of x = λ s. d.0 (omega (arith, s, i.1.1.1, is.0.1.1.1)) in
          let l : number_of x < number_of y = elim (leb_tells (suc (number_of x)) (number_of y)) [
            | inl z ↦ z.1
            | inr z ↦ elim (leb_tells (suc (number_of y)) (number_of x)) [
              | inl w ↦ absurd (true≢false (sym (less y x is.0 i ∙ lt_is (number_of y) (number_of x) w.1) ∙ e))
              | inr w ↦ absurd (n (omega (arith, z.1, w.1)))
            ]
          ] in
          ((l, above_all (number_of x) (number_of y) (numbers ys) (omega (arith, l)) h.0), h)
    ] in
    go (is_lt (number_cmp y x)) refl

-- Sorted pairs of ints, whose ids rise before, are in the order of their numbers.
pub rising_sorted : (xs : Pairs) → Each IsIntPair xs → InOrder xs → Rising (numbers (sorted number_cmp xs))
rising_sorted [] is o = tt
rising_sorted (x ∷ xs) is o =
    rising_placed x (sorted number_cmp xs) is.0 (each_sorted IsIntPair xs is.1)
    (each_sorted (λ y. y.0 ≢ x.0) xs (Each-map (λ y. x.0 < y.0) (λ y. y.0 ≢ x.0) (λ y l e. absurd (omega (arith, l, e))) xs o.0)) (rising_sorted xs is.1 o.1)
