-- How many rows of its source a plan has taken: the rows that it needed for the next row of its answer, and none where it is full.
use Rattle.std.proofs.Common.{◌≡◌, ℕ, ◌+◌, ◌<◌, ◌≤◌, Bool, true, false, List, length, take, nat_le, refl, ◌∙◌, arith}
use Rattle.std.proofs.Math.Dec.{leb-zero}
use Rattle.std.proofs.lemmas.Bool.{le-leb, leb-true}
use Rattle.sand_model.specs.Answer.{source}
use Rattle.sand_model.specs.Database.{Database}
use Rattle.sand_model.specs.Measure.{Measure}
use Rattle.sand_model.specs.Operators.{PlanRow, over}
use Rattle.statements.specs.Plan.{Plan}
use Rattle.sand_model.specs.Taken.{least_from, taken, is_full, spent}
use Rattle.plan_iterator.proofs.LeastNumbers.{least_is, least_none}

-- too few rows are no match
few_fails : (few rows : ℕ) → few < rows → nat_le rows few ≡ false
few_fails few rows h = go (nat_le rows few) refl
  where
    go : (b : Bool) → nat_le rows few ≡ b → b ≡ false
    go true e = let k = leb-true rows few e in absurd (omega (arith, k))
    go false e = refl

module _ (gap : Measure) (d : Database) (p : Plan) where
  -- so many rows of the source, and no more than it has
  abbrev pub first_rows : ℕ → List PlanRow
  first_rows k = take k (source gap d p)

  -- how many rows the plan has over the first rows of its source
  abbrev pub rows_over : ℕ → ℕ
  rows_over k = length (over gap d p (first_rows k))

  -- the fewest source rows over which there are so many are taken
  pub taken_is : (t r : ℕ) → t ≤ length (source gap d p) → r + 1 ≤ rows_over t → ((k : ℕ) → k < t → rows_over k ≤ r) → taken gap d p (r + 1) ≡ t
  taken_is t r within enough needed =
      let all = source gap d p in
      let test : ℕ → Bool = λ k. nat_le (r + 1) (rows_over k) in
      least_is test 0 (length all) t (omega arith) (omega arith) (omega arith) (le-leb (r + 1) (rows_over t) enough)
      (λ k _ h. few_fails (rows_over k) (r + 1) (let n = needed k h in omega (arith, n)))

  -- for no row none is taken
  pub taken_none : taken gap d p 0 ≡ 0
  taken_none =
      let test : ℕ → Bool = λ k. nat_le 0 (rows_over k) in
      least_is test 0 (length (source gap d p)) 0 (omega arith) (omega arith) (omega arith) (leb-zero (rows_over 0)) (λ k _ h. absurd (omega arith))

  -- where a `first n` is full over the rows that were taken, and wasn't before, no more are spent
  pub spent_full : (t : ℕ) → t ≤ length (source gap d p) → ((k : ℕ) → k < t → is_full gap d p (first_rows k) ≡ false)
      → is_full gap d p (first_rows t) ≡ true → spent gap d p ≡ record { rows = t; is_ended = false }
  spent_full t within asks full =
      let all = source gap d p in
      let test : ℕ → Bool = λ k. is_full gap d p (first_rows k) in
      let found : least_from test 0 (length all) ≡ t = least_is test 0 (length all) t (omega arith) (omega arith) (omega arith) full (λ k _ h. asks k h) in
      rw found (rw full refl)

  -- where none is, all are spent, and the end
  pub spent_all : ((k : ℕ) → k < length (source gap d p) → is_full gap d p (first_rows k) ≡ false)
      → is_full gap d p (first_rows (length (source gap d p))) ≡ false → spent gap d p ≡ record { rows = length (source gap d p); is_ended = true }
  spent_all asks last =
      let all = source gap d p in
      let test : ℕ → Bool = λ k. is_full gap d p (first_rows k) in
      let found : least_from test 0 (length all) ≡ length all = least_none test 0 (length all) (λ k _ h. asks k (omega arith)) ∙ omega arith in
      rw found (rw last refl)
