-- The least number that passes a test, where there is one.
use Rattle.std.proofs.Common.{◌≡◌, ℕ, zero, suc, ◌+◌, ◌<◌, ◌≤◌, Bool, true, false, cond, refl, sym, ◌∙◌, ap, subst, arith, inl, inr, le_antisymm, true≢false, eq-or-lt_of_le}
use Rattle.std.proofs.lemmas.Bool.{cases_lt}
use Rattle.sand_model.specs.Taken.{least_from}

-- a number that passes isn't the one that fails
after : (test : ℕ → Bool) (at n : ℕ) → at ≤ n → test n ≡ true → test at ≡ false → at + 1 ≤ n
after test at n l e k =
    elim (eq-or-lt_of_le l) [
      | inl same ↦ absurd (true≢false (sym e ∙ ap test (sym same) ∙ k))
      | inr less ↦ omega arith
    ]

-- where a number passes, what is found passes
pub least_passes : (test : ℕ → Bool) (at left n : ℕ) → at ≤ n → n ≤ at + left → test n ≡ true → test (least_from test at left) ≡ true
least_passes test at zero n l h e = subst (λ k. test k ≡ true) (between at n l h) e
  where
    between : (at n : ℕ) → at ≤ n → n ≤ at + 0 → n ≡ at
    between at n l h = omega arith
least_passes test at (suc left) n l h e =
    go (test at) refl (least_from test (at + 1) left) (λ m. least_passes test (at + 1) left n m (omega arith) e)
  where
    go : (b : Bool) → test at ≡ b → (r : ℕ) → (at + 1 ≤ n → test r ≡ true) → test (cond b at r) ≡ true
    go true k r more = k
    go false k r more = more (after test at n l e k)

-- a number before what is found doesn't pass
pub least_fails : (test : ℕ → Bool) (at left n : ℕ) → at ≤ n → n < least_from test at left → test n ≡ false
least_fails test at zero n l h = absurd (omega arith)
least_fails test at (suc left) n l h =
    go (test at) refl (least_from test (at + 1) left) (λ m k. least_fails test (at + 1) left n m k) h
  where
    go : (b : Bool) → test at ≡ b → (r : ℕ) → (at + 1 ≤ n → n < r → test n ≡ false) → n < cond b at r → test n ≡ false
    go true k r more h = absurd (omega arith)
    go false k r more h =
        elim (eq-or-lt_of_le l) [
          | inl same ↦ ap test (sym same) ∙ k
          | inr less ↦ more (omega arith) h
        ]

-- no number that passes is before what is found
pub least_most : (test : ℕ → Bool) (at left n : ℕ) → at ≤ n → test n ≡ true → least_from test at left ≤ n
least_most test at left n l e =
    elim (cases_lt n (least_from test at left)) [
      | inl less ↦ absurd (true≢false (sym e ∙ least_fails test at left n l less))
      | inr most ↦ most
    ]

-- what passes, and before which nothing does, is found
pub least_is : (test : ℕ → Bool) (at left n : ℕ) → at ≤ n → n ≤ at + left → at ≤ least_from test at left → test n ≡ true
    → ((k : ℕ) → at ≤ k → k < n → test k ≡ false) → least_from test at left ≡ n
least_is test at left n l h start e f =
    elim (cases_lt (least_from test at left) n) [
      | inl less ↦ absurd (true≢false (sym (least_passes test at left n l h e) ∙ f (least_from test at left) start less))
      | inr most ↦ le_antisymm (least_most test at left n l e) most
    ]

-- where none passes, the last is found
pub least_none : (test : ℕ → Bool) (at left : ℕ) → ((k : ℕ) → at ≤ k → k < at + left → test k ≡ false) → least_from test at left ≡ at + left
least_none test at zero f = omega arith
least_none test at (suc left) f =
    go (test at) refl (least_from test (at + 1) left) (least_none test (at + 1) left (λ k l h. f k (omega arith) (omega arith)))
  where
    go : (b : Bool) → test at ≡ b → (r : ℕ) → r ≡ at + 1 + left → cond b at r ≡ at + suc left
    go true k r more = absurd (true≢false (sym k ∙ f at (omega arith) (omega arith)))
    go false k r more = omega arith
