-- What the model says a plan has taken after a row is itself no more than the rows need, so each step reaches as far as those before it.
use Rattle.std.proofs.Common.{◌≡◌, inl, inr, ℕ, ◌+◌, ◌<◌, ◌≤◌, Bool, true, false, cond, nat_le, true≢false, [], ◌∷◌, length, take, Some, refl, sym, ap, ◌∙◌, subst, arith, le_refl, take_all}
use Rattle.std.proofs.lemmas.Bool.{le-leb, leb-true}
use Rattle.sand_model.specs.Answer.{source, answer}
use Rattle.sand_model.specs.Database.{Database, element}
use Rattle.sand_model.specs.Operators.{PlanRow, over}
use Rattle.statements.specs.Plan.{Plan}
use Rattle.sand_model.specs.Reach.{reach, reach_of_last}
use Rattle.sand_model.specs.Taken.{least_from, taken, is_full, is_lazy, beneath_sort, has_taken}
use Rattle.plan_iterator.specs.Needed.{IsNeeded}
use Rattle.plan_iterator.specs.Lowest.{least_bounds}
use Rattle.plan_iterator.specs.Rows.{plan_measure}
use Rattle.plan_iterator.proofs.GrowingReach.{IsBefore}
use Rattle.plan_iterator.proofs.LeastNumbers.{least_passes, least_fails}
use Rattle.plan_iterator.proofs.ModelSteps as model
use Rattle.plan_iterator.proofs.ModelSteps.{element_below}
use Rattle.plan_iterator.proofs.OverPrefixes.{full_answer}
use Rattle.plan_iterator.proofs.SortedPlans.{beneath_itself, lazy_given, sort_given, source_beneath}
use Rattle.plan_iterator.proofs.NextNeeds.{needed_given}
use Rattle.plan_iterator.proofs.TakenSoFar.{needed_before}
use Rattle.plan_iterator.proofs.RowGaps.{row_reached}

-- ---- over a sort

module _ (d : Database) (p : Plan) (given : ℕ) (sorts : is_lazy p ≡ false) where
  -- whether a `first n` beneath the innermost sort is full over so many rows
  abbrev full_at : ℕ → Bool
  full_at k = is_full plan_measure d (beneath_sort p) (take k (source plan_measure d p))

  abbrev enough : ℕ
  enough = least_from full_at 0 (length (source plan_measure d p))

  never_full : full_at enough ≡ false → (k : ℕ) → k ≤ length (source plan_measure d p) → full_at k ≡ false
  never_full e k h = go (full_at k) refl
    where
      go : (b : Bool) → full_at k ≡ b → full_at k ≡ false
      go true full =
          absurd (true≢false (sym (least_passes full_at 0 (length (source plan_measure d p)) k (omega arith) (omega arith) full) ∙ e))
      go false full = full

  needed_spent : (b : Bool) → full_at enough ≡ b
      → IsNeeded plan_measure d p given (cond b (record { rows = enough; is_ended = false }) (record { rows = length (source plan_measure d p); is_ended = true }))
  needed_spent true e = record {
    within = let bound = (least_bounds full_at 0 (length (source plan_measure d p))).1 in omega (arith, bound);
    ended = λ h. absurd (true≢false (sym h));
    asks = λ k was.
        elim was [
          | inl below ↦ least_fails full_at 0 (length (source plan_measure d p)) k (omega arith) below
          | inr end ↦ absurd (true≢false (sym end.0))
        ];
    few = λ lazy k was. absurd (true≢false (sym lazy ∙ sorts));
  }
  needed_spent false e = record {
    within = le_refl (length (source plan_measure d p));
    ended = λ h. refl;
    asks = λ k was.
        elim was [
          | inl below ↦ never_full e k (omega arith)
          | inr end ↦ let last = end.1 in never_full e k (omega (arith, last))
        ];
    few = λ lazy k was. absurd (true≢false (sym lazy ∙ sorts));
  }

  needed_sort : IsNeeded plan_measure d p given (has_taken plan_measure d p (given + 1) false)
  needed_sort =
      let same = source_beneath plan_measure d p in
      subst (IsNeeded plan_measure d p given)
      (ap (λ all. let most = least_from (λ k. is_full plan_measure d (beneath_sort p) (take k all)) 0 (length all) in
      cond (is_full plan_measure d (beneath_sort p) (take most all)) (record { rows = most; is_ended = false }) (record { rows = length all; is_ended = true })) (sym same)
      ∙ sym (sort_given plan_measure d p sorts given)) (needed_spent (full_at enough) refl)

-- ---- without one

module _ (d : Database) (p : Plan) (given : ℕ) (lazy : is_lazy p ≡ true) (some : given < length (answer plan_measure d p)) where
  -- whether the plan has one more row over so many
  abbrev more_over : ℕ → Bool
  more_over k = nat_le (given + 1) (length (over plan_measure d p (take k (source plan_measure d p))))

  abbrev found : ℕ
  found = taken plan_measure d p (given + 1)

  found_passes : more_over found ≡ true
  found_passes =
      let all = source plan_measure d p in
      let whole : over plan_measure d p (take (length all) all) ≡ answer plan_measure d p = ap (over plan_measure d p) (take_all (length all) all (le_refl (length all))) in
      let long : given + 1 ≤ length (over plan_measure d p (take (length all) all)) = subst (λ rows. given + 1 ≤ length rows) (sym whole) (omega arith) in
      least_passes more_over 0 (length all) (length all) (omega arith) (omega arith) (le-leb (given + 1) (length (over plan_measure d p (take (length all) all))) long)

  -- there are enough for the row
  found_enough : given + 1 ≤ length (over plan_measure d p (take found (source plan_measure d p)))
  found_enough = leb-true (given + 1) (length (over plan_measure d p (take found (source plan_measure d p)))) found_passes

  -- and too few before
  few_before : (k : ℕ) → k < found → length (over plan_measure d p (take k (source plan_measure d p))) ≤ given
  few_before k below =
      let fails = least_fails more_over 0 (length (source plan_measure d p)) k (omega arith) below in
      go (length (over plan_measure d p (take k (source plan_measure d p)))) fails
    where
      go : (n : ℕ) → nat_le (given + 1) n ≡ false → n ≤ given
      go n e = elim (Rattle.std.proofs.lemmas.Bool.cases_lt given n) [
        | inl less ↦ absurd (true≢false (sym (le-leb (given + 1) n (omega arith)) ∙ e))
        | inr most ↦ most
      ]

  needed_found : IsNeeded plan_measure d p given (record { rows = found; is_ended = false })
  needed_found = record {
    within = let bound = (least_bounds more_over 0 (length (source plan_measure d p))).1 in omega (arith, bound);
    ended = λ h. absurd (true≢false (sym h));
    asks = λ k was.
        elim was [
          | inl below ↦ open_before k below
          | inr end ↦ absurd (true≢false (sym end.0))
        ];
    few = λ _ k was.
        elim was [
          | inl below ↦ few_before k below
          | inr end ↦ absurd (true≢false (sym end.0))
        ];
  }
    where
      open_before : (k : ℕ) → k < found → is_full plan_measure d (beneath_sort p) (take k (source plan_measure d p)) ≡ false
      open_before k below = subst (λ q. is_full plan_measure d q (take k (source plan_measure d p)) ≡ false) (sym (beneath_itself p lazy))
          (go (is_full plan_measure d p (take k (source plan_measure d p))) refl)
        where
          go : (b : Bool) → is_full plan_measure d p (take k (source plan_measure d p)) ≡ b → is_full plan_measure d p (take k (source plan_measure d p)) ≡ false
          go true full =
              let whole = full_answer plan_measure d p lazy k full in
              let few = few_before k below in
              let long : length (over plan_measure d p (take k (source plan_measure d p))) ≡ length (answer plan_measure d p) = ap length whole in
              absurd (omega (arith, few, long, some))
          go false full = full

-- ---- both

module _ (d : Database) (p : Plan) (given : ℕ) (some : given < length (answer plan_measure d p)) where
  -- what is taken after a row is no more than the rows need
  pub model_needed : IsNeeded plan_measure d p given (has_taken plan_measure d p (given + 1) false)
  model_needed = go (is_lazy p) refl
    where
      go : (b : Bool) → is_lazy p ≡ b → IsNeeded plan_measure d p given (has_taken plan_measure d p (given + 1) false)
      go true lazy = subst (IsNeeded plan_measure d p given) (sym (lazy_given plan_measure d p lazy (given + 1))) (needed_found d p given lazy some)
      go false sorts = needed_sort d p given sorts

  -- the next step takes no less
  pub model_later : IsBefore (has_taken plan_measure d p (given + 1) false) (model.step_taken plan_measure d p (given + 1))
  model_later =
      needed_before plan_measure d p (given + 1) (has_taken plan_measure d p (given + 1) false)
      (needed_given plan_measure d p given (given + 1) (has_taken plan_measure d p (given + 1) false) (omega arith) model_needed)

-- without a sort, what is taken for a row reaches up to its gap
pub model_reach : (d : Database) (p : Plan) (given : ℕ) (row : PlanRow) → is_lazy p ≡ true → element (answer plan_measure d p) given ≡ Some row
    → reach plan_measure d p (has_taken plan_measure d p (given + 1) false) ≡ reach_of_last (row ∷ [])
model_reach d p given row lazy e =
    let some = element_below (answer plan_measure d p) given row e in
    ap (reach plan_measure d p) (lazy_given plan_measure d p lazy (given + 1))
    ∙ row_reached d p given (record { rows = found d p given lazy some; is_ended = false }) (needed_found d p given lazy some) lazy (found_enough d p given lazy some) row e
