-- The books of page numbers: a number is taken, is given back, or changes nothing.
use Rattle.std.proofs.Common.{◌≡◌, ◌≢◌, ◌≤◌, ◌+◌, ℕ, List, Bool, true, false, cond, not, ◌&&◌, ◌||◌, refl, sym, ap, subst, ◌∙◌, Option, Some, is_some, IsTrue, ◌⊎◌, inl, inr, arith}
use mathlib.Core.Bool.{true≢false}
use Rattle.std.specs.Ordering.{nat_cmp, eq_by_cmp}
use Rattle.std.specs.Cmp.{nat_cmp_total}
use Rattle.std.specs.FinMap as map
use Rattle.std.specs.FinSet as set
use Rattle.page_pool.specs.Disk.{DigestMap, NumberSet}
use Rattle.page_pool.specs.Inside.{ChangeMap, NumbersState, TakesNumber, IsAccount, is_used}
use Rattle.page_pool.proofs.Maps.{get-insert, tie_itself, tied}

-- a test of two parts
either : (a b : Bool) → (a || b) ≡ true → (a ≡ true) ⊎ (b ≡ true)
either true b h = inl refl
either false b h = inr h

left_of : (a b : Bool) → a ≡ true → (a || b) ≡ true
left_of a b h = ap (λ x. x || b) h

right_of : (a b : Bool) → b ≡ true → (a || b) ≡ true
right_of true b h = refl
right_of false b h = h

pub both_of : (a b : Bool) → (a && b) ≡ true → b ≡ true
both_of true b h = h
both_of false b h = absurd (true≢false (sym h))

nothing_in : (n : ℕ) → set.contains {R = nat_cmp} set.empty n ≡ true → (P : Type 0) → P
nothing_in n h P = absurd (true≢false (sym h ∙ set.contains-empty nat_cmp n))

-- the same numbers are in use
pub account-same : (f g : ℕ → Bool) (top : ℕ) (spare : NumberSet) → ((q : ℕ) → g q ≡ f q) → IsAccount f top spare → IsAccount g top spare
account-same f g top spare is a = record {
  all = λ n low high. elim (a.all n low high) [ inl used ↦ inl (is n ∙ used) | inr free ↦ inr free ];
  positive = λ n used. a.positive n (sym (is n) ∙ used);
  given = λ n used. a.given n (sym (is n) ∙ used);
  apart = λ n used. a.apart n (sym (is n) ∙ used);
  spare_positive = a.spare_positive;
  spare_given = a.spare_given;
}

-- whether a number is used after one more change
pub used-insert : (changes : ChangeMap) (kept : DigestMap) (n : ℕ) (change : Option (List ℕ)) (q : ℕ) → is_used (map.insert changes n change) kept q ≡ (eq_by_cmp nat_cmp q n || is_used changes kept q)
used-insert changes kept n change q = ap (λ c. is_some c || map.contains_key kept q) (get-insert changes n change q)
    ∙ elim (eq_by_cmp nat_cmp q n) as (λ b. (is_some (cond b (Some change) (map.get changes q)) || map.contains_key kept q)
    ≡ (b || (map.contains_key changes q || map.contains_key kept q))) [ true ↦ refl | false ↦ refl ]

-- a change of a number that is used
pub used-again : (changes : ChangeMap) (kept : DigestMap) (n : ℕ) (change : Option (List ℕ)) → is_used changes kept n ≡ true → (q : ℕ)
    → is_used (map.insert changes n change) kept q ≡ is_used changes kept q
used-again changes kept n change used q = used-insert changes kept n change q
    ∙ (elim (eq_by_cmp nat_cmp q n) as (λ b. eq_by_cmp nat_cmp q n ≡ b → (b || is_used changes kept q) ≡ is_used changes kept q) [
      | true ↦ λ tie. sym (ap (is_used changes kept) (tied q n tie) ∙ used)
      | false ↦ λ _. refl
    ]) refl

-- the number that is taken was not in use
pub taken_free : (f : ℕ → Bool) (old new : NumbersState) (n : ℕ) → IsAccount f old.top old.spare → TakesNumber old new n → f n ≡ false
taken_free f old new n a takes = (elim (f n) as (λ b. f n ≡ b → b ≡ false) [
  | true ↦ λ used. absurd (elim takes.again [
    | inl above ↦ let small : n ≤ old.top = a.given n used in let big : n ≡ old.top + 1 = above.0 in omega arith
    | inr again ↦ true≢false (sym again.0 ∙ a.apart n used)
  ])
  | false ↦ λ _. refl
]) refl

pub taken_positive : (f : ℕ → Bool) (old new : NumbersState) (n : ℕ) → IsAccount f old.top old.spare → TakesNumber old new n → 1 ≤ n
taken_positive f old new n a takes = elim takes.again [
  | inl above ↦ let big : n ≡ old.top + 1 = above.0 in omega arith
  | inr again ↦ a.spare_positive n again.0
]

-- the number above all is taken
above : (f g : ℕ → Bool) (top : ℕ) (spare none : NumberSet) → ((q : ℕ) → g q ≡ (eq_by_cmp nat_cmp q (top + 1) || f q)) → spare ≡ set.empty → none ≡ set.empty
    → IsAccount f top spare → IsAccount g (top + 1) none
above f g top spare none is empty gone a = record {
  all = λ m low high. (elim (eq_by_cmp nat_cmp m (top + 1)) as (λ b. eq_by_cmp nat_cmp m (top + 1) ≡ b → IsTrue (g m) ⊎ IsTrue (set.contains none m)) [
    | true ↦ λ tie. inl (is m ∙ left_of _ (f m) tie)
    | false ↦ λ tie. let other : m ≢ top + 1 = λ e. true≢false (sym (tie_itself (top + 1)) ∙ ap (λ k. eq_by_cmp nat_cmp k (top + 1)) (sym e) ∙ tie) in
        elim (a.all m low (omega arith)) [
          | inl used ↦ inl (is m ∙ right_of _ (f m) used)
          | inr free ↦ inr (ap (λ s. set.contains s m) (gone ∙ sym empty) ∙ free)
        ]
  ]) refl;
  positive = λ m used. elim (either _ (f m) (sym (is m) ∙ used)) [
    | inl tie ↦ let same : m ≡ top + 1 = tied m (top + 1) tie in omega arith
    | inr was ↦ a.positive m was
  ];
  given = λ m used. elim (either _ (f m) (sym (is m) ∙ used)) [
    | inl tie ↦ let same : m ≡ top + 1 = tied m (top + 1) tie in omega arith
    | inr was ↦ let low : m ≤ top = a.given m was in omega arith
  ];
  apart = λ m used. ap (λ s. set.contains s m) gone ∙ set.contains-empty nat_cmp m;
  spare_positive = λ m free. nothing_in m (ap (λ s. set.contains s m) (sym gone) ∙ free) _;
  spare_given = λ m free. nothing_in m (ap (λ s. set.contains s m) (sym gone) ∙ free) _;
}

-- whether a set without n has a number
without : (s : NumberSet) (n m : ℕ) → set.contains (set.remove s n) m ≡ (not (eq_by_cmp nat_cmp m n) && set.contains s m)
without s n m = set.contains-remove nat_cmp_total s n m

-- a freed number is taken again
again : (f g : ℕ → Bool) (top : ℕ) (spare : NumberSet) (n : ℕ) → ((q : ℕ) → g q ≡ (eq_by_cmp nat_cmp q n || f q)) → set.contains spare n ≡ true → IsAccount f top spare
    → IsAccount g top (set.remove spare n)
again f g top spare n is waits a = record {
  all = λ m low high. (elim (eq_by_cmp nat_cmp m n) as (λ b. eq_by_cmp nat_cmp m n ≡ b → IsTrue (g m) ⊎ IsTrue (set.contains (set.remove spare n) m)) [
    | true ↦ λ tie. inl (is m ∙ left_of _ (f m) tie)
    | false ↦ λ tie. elim (a.all m low high) [
      | inl used ↦ inl (is m ∙ right_of _ (f m) used)
      | inr free ↦ inr (without spare n m ∙ (λ i. not (tie i) && free i))
    ]
  ]) refl;
  positive = λ m used. elim (either _ (f m) (sym (is m) ∙ used)) [
    | inl tie ↦ subst (λ k. 1 ≤ k) (sym (tied m n tie)) (a.spare_positive n waits)
    | inr was ↦ a.positive m was
  ];
  given = λ m used. elim (either _ (f m) (sym (is m) ∙ used)) [
    | inl tie ↦ subst (λ k. k ≤ top) (sym (tied m n tie)) (a.spare_given n waits)
    | inr was ↦ a.given m was
  ];
  apart = λ m used. without spare n m ∙ elim (either _ (f m) (sym (is m) ∙ used)) [
    | inl tie ↦ (λ i. not (tie i) && set.contains spare m)
    | inr was ↦ ap (λ b. not (eq_by_cmp nat_cmp m n) && b) (a.apart m was) ∙ nor (not (eq_by_cmp nat_cmp m n))
  ];
  spare_positive = λ m free. a.spare_positive m (both_of _ _ (sym (without spare n m) ∙ free));
  spare_given = λ m free. a.spare_given m (both_of _ _ (sym (without spare n m) ∙ free));
}
  where
    nor : (b : Bool) → (b && false) ≡ false
    nor true = refl
    nor false = refl

-- a number is taken, and is in use from then on
pub account-taken : (f g : ℕ → Bool) (old new : NumbersState) (n : ℕ) → ((q : ℕ) → g q ≡ (eq_by_cmp nat_cmp q n || f q)) → IsAccount f old.top old.spare
    → TakesNumber old new n → IsAccount g new.top new.spare
account-taken f g old new n is a takes = elim takes.again [
  | inl next ↦ subst (λ top. IsAccount g top new.spare) (sym (next.1 ∙ next.0))
      (above f g old.top old.spare new.spare (λ q. is q ∙ ap (λ k. eq_by_cmp nat_cmp q k || f q) next.0) next.2 next.3 a)
  | inr freed ↦ subst (λ top. IsAccount g top new.spare) (sym freed.2)
      (subst (IsAccount g old.top) (sym freed.1) (again f g old.top old.spare n is freed.0 a))
]

-- whether a set with n has a number
with_one : (s : NumberSet) (n m : ℕ) → set.contains (set.insert s n) m ≡ (eq_by_cmp nat_cmp m n || set.contains s m)
with_one s n m = set.contains-insert nat_cmp_total s n m

-- a number that was in use is so no more, and is spare
pub account-freed : (f g : ℕ → Bool) (top : ℕ) (spare : NumberSet) (n : ℕ) → ((q : ℕ) → f q ≡ (eq_by_cmp nat_cmp q n || g q)) → g n ≡ false → IsAccount f top spare
    → IsAccount g top (set.insert spare n)
account-freed f g top spare n is gone a =
    let was : f n ≡ true = is n ∙ left_of _ (g n) (tie_itself n) in
    record {
      all = λ m low high. elim (a.all m low high) [
        | inl used ↦ elim (either _ (g m) (sym (is m) ∙ used)) [
          | inl tie ↦ inr (with_one spare n m ∙ left_of _ _ tie)
          | inr still ↦ inl still
        ]
        | inr free ↦ inr (with_one spare n m ∙ right_of _ _ free)
      ];
      positive = λ m used. a.positive m (is m ∙ right_of _ (g m) used);
      given = λ m used. a.given m (is m ∙ right_of _ (g m) used);
      apart = λ m used. with_one spare n m ∙ (elim (eq_by_cmp nat_cmp m n) as (λ b. eq_by_cmp nat_cmp m n ≡ b → (b || set.contains spare m) ≡ false) [
        | true ↦ λ tie. absurd (true≢false (sym used ∙ ap g (tied m n tie) ∙ gone))
        | false ↦ λ _. a.apart m (is m ∙ right_of _ (g m) used)
      ]) refl;
      spare_positive = λ m free. elim (either _ _ (sym (with_one spare n m) ∙ free)) [
        | inl tie ↦ subst (λ k. 1 ≤ k) (sym (tied m n tie)) (a.positive n was)
        | inr still ↦ a.spare_positive m still
      ];
      spare_given = λ m free. elim (either _ _ (sym (with_one spare n m) ∙ free)) [
        | inl tie ↦ subst (λ k. k ≤ top) (sym (tied m n tie)) (a.given n was)
        | inr still ↦ a.spare_given m still
      ];
    }

pub account-none : (f : ℕ → Bool) → ((q : ℕ) → f q ≡ false) → IsAccount f 0 set.empty
account-none f none = record {
  all = λ n low high. absurd (omega arith);
  positive = λ n used. absurd (true≢false (sym used ∙ none n));
  given = λ n used. absurd (true≢false (sym used ∙ none n));
  apart = λ n used. set.contains-empty nat_cmp n;
  spare_positive = λ n free. nothing_in n free _;
  spare_given = λ n free. nothing_in n free _;
}
