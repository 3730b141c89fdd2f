-- What an operator has taken of its source when it asks for no row that it doesn't need: exactly what the model says after each step.
use Rattle.std.proofs.Common.{◌≡◌, inl, inr, ℕ, ◌+◌, ◌<◌, ◌≤◌, Bool, true, false, cond, nat_le, nat_lt, true≢false, List, length, take, Option, None, Some, refl}
use Rattle.std.proofs.Common.{sym, ap, ◌∙◌, subst, arith, le_antisymm, le_refl, le_of_eq, take_all, eq-or-lt_of_le}
use Rattle.std.proofs.lemmas.Bool.{cases_lt, ltb-true, ltb-false, lt-ltb, le-leb, leb-true}
use Rattle.sand_model.specs.Answer.{source, answer}
use Rattle.sand_model.specs.Database.{Database, element}
use Rattle.sand_model.specs.Measure.{Measure}
use Rattle.sand_model.specs.Operators.{PlanRow, over}
use Rattle.statements.specs.Plan.{Plan}
use Rattle.sand_model.specs.Taken.{Taken, least_from, taken, is_full, is_lazy, spent, beneath_sort, has_taken}
use Rattle.plan_iterator.specs.Needed.{IsNeeded, WasAsked}
use Rattle.plan_iterator.specs.Lowest.{least_bounds}
use Rattle.plan_iterator.specs.Rows.{plan_measure}
use Rattle.plan_iterator.specs.SourceSteps.{next_taken}
use Rattle.plan_iterator.proofs.GrowingReach.{IsBefore}
use Rattle.plan_iterator.proofs.LeastNumbers.{least_passes}
use Rattle.plan_iterator.proofs.ModelSteps.{step_taken, step_taken_row, step_taken_end, element_below}
use Rattle.plan_iterator.proofs.SortedPlans.{lazy_given, sort_given, ended_taken, source_beneath}
use Rattle.plan_iterator.proofs.NextNeeds.{next_of}

-- before a row that isn't the last one yet, the next row is taken
next_is_row : (n long more : ℕ) → n < more → more ≤ long → IsBefore (next_of n long) (record { rows = more; is_ended = false })
next_is_row n long more h k =
    subst (λ b. IsBefore (cond b (record { rows = n + 1; is_ended = false }) (record { rows = n; is_ended = true })) (record { rows = more; is_ended = false }))
    (sym (lt-ltb n long (omega arith))) (omega arith, λ e. e)

-- and no more than all of them and the end
next_is_within : (n long : ℕ) → n ≤ long → IsBefore (next_of n long) (record { rows = long; is_ended = true })
next_is_within n long h = go (nat_lt n long) refl
  where
    go : (b : Bool) → nat_lt n long ≡ b
        → IsBefore (cond b (record { rows = n + 1; is_ended = false }) (record { rows = n; is_ended = true })) (record { rows = long; is_ended = true })
    go true e = let less = ltb-true n long e in (omega (arith, less), λ _. refl)
    go false e = (h, λ _. refl)

module _ (gap : Measure) (d : Database) where
  -- what a plan spends of some rows
  abbrev spent_of : Plan → List PlanRow → Taken
  spent_of q rows =
      let enough = least_from (λ t. is_full gap d q (take t rows)) 0 (length rows) in
      cond (is_full gap d q (take enough rows)) (record { rows = enough; is_ended = false }) (record { rows = length rows; is_ended = true })

  -- a plan that isn't full yet spends the next row, or the end
  spent_later : (q : Plan) (rows : List PlanRow) (n : ℕ) → n ≤ length rows → ((k : ℕ) → k ≤ n → is_full gap d q (take k rows) ≡ false)
      → IsBefore (next_of n (length rows)) (spent_of q rows)
  spent_later q rows n within asks =
      go (least_from (λ t. is_full gap d q (take t rows)) 0 (length rows)) (least_bounds (λ t. is_full gap d q (take t rows)) 0 (length rows)).1
    where
      go : (enough : ℕ) → enough ≤ 0 + length rows
          → IsBefore (next_of n (length rows))
          (cond (is_full gap d q (take enough rows)) (record { rows = enough; is_ended = false }) (record { rows = length rows; is_ended = true }))
      go enough bound = either (is_full gap d q (take enough rows)) refl
        where
          either : (b : Bool) → is_full gap d q (take enough rows) ≡ b
              → IsBefore (next_of n (length rows)) (cond b (record { rows = enough; is_ended = false }) (record { rows = length rows; is_ended = true }))
          either true e =
              elim (cases_lt n enough) [
                | inl more ↦ next_is_row n (length rows) enough more (omega arith)
                | inr least ↦ absurd (true≢false (sym e ∙ asks enough least))
              ]
          either false e = next_is_within n (length rows) within

  -- over what is taken for a row the plan has it
  taken_enough : (p : Plan) (given : ℕ) → given < length (answer gap d p)
      → (taken gap d p (given + 1) ≤ length (source gap d p)) × (given + 1 ≤ length (over gap d p (take (taken gap d p (given + 1)) (source gap d p))))
  taken_enough p given some =
      let all = source gap d p in
      let whole : over gap d p (take (length all) all) ≡ answer gap d p = ap (over gap d p) (take_all (length all) all (le_refl (length all))) in
      let test : ℕ → Bool = λ k. nat_le (given + 1) (length (over gap d p (take k all))) in
      let long : given + 1 ≤ length (over gap d p (take (length all) all)) = subst (λ rows. given + 1 ≤ length rows) (sym whole) (omega arith) in
      let passes = least_passes test 0 (length all) (length all) (omega arith) (omega arith)
      (le-leb (given + 1) (length (over gap d p (take (length all) all))) long) in
      let bound = (least_bounds test 0 (length all)).1 in
      (omega (arith, bound), leb-true (given + 1) (length (over gap d p (take (taken gap d p (given + 1)) all))) passes)

  -- a plan that has no row more than it has given takes the next row for the next one
  taken_later : (p : Plan) (given n : ℕ) → given < length (answer gap d p) → ((k : ℕ) → k ≤ n → length (over gap d p (take k (source gap d p))) ≤ given)
      → IsBefore (next_of n (length (source gap d p))) (record { rows = taken gap d p (given + 1); is_ended = false })
  taken_later p given n some few =
      go (taken gap d p (given + 1)) (taken_enough p given some)
    where
      go : (found : ℕ) → (found ≤ length (source gap d p)) × (given + 1 ≤ length (over gap d p (take found (source gap d p))))
          → IsBefore (next_of n (length (source gap d p))) (record { rows = found; is_ended = false })
      go found has =
          elim (cases_lt n found) [
            | inl more ↦ next_is_row n (length (source gap d p)) found more has.0
            | inr least ↦ let had = few found least in absurd (omega (arith, had, has.1))
          ]

module _ (d : Database) (p : Plan) where
  -- the source is asked, since nothing beneath the innermost sort is full and, without a sort, the plan has no more rows than it has given
  module _ (given : ℕ) (t : Taken) (needed : IsNeeded plan_measure d p given t)
      (asks : is_full plan_measure d (beneath_sort p) (take t.rows (source plan_measure d p)) ≡ false)
      (few : is_lazy p ≡ true → length (over plan_measure d p (take t.rows (source plan_measure d p))) ≤ given) where
    asks_all : (k : ℕ) → k ≤ t.rows → is_full plan_measure d (beneath_sort p) (take k (source plan_measure d p)) ≡ false
    asks_all k h =
        elim (eq-or-lt_of_le h) [
          | inl same ↦ ap (λ n. is_full plan_measure d (beneath_sort p) (take n (source plan_measure d p))) same ∙ asks
          | inr less ↦ needed.asks k (inl less)
        ]

    few_all : is_lazy p ≡ true → (k : ℕ) → k ≤ t.rows → length (over plan_measure d p (take k (source plan_measure d p))) ≤ given
    few_all lazy k h =
        elim (eq-or-lt_of_le h) [
          | inl same ↦ subst (λ n. length (over plan_measure d p (take n (source plan_measure d p))) ≤ given) (sym same) (few lazy)
          | inr less ↦ needed.few lazy k (inl less)
        ]

    -- what was taken is still all needed
    pub needed_asked : IsNeeded plan_measure d p given (next_taken d p t)
    needed_asked = go (nat_lt t.rows (length (source plan_measure d p))) refl
      where
        go : (b : Bool) → nat_lt t.rows (length (source plan_measure d p)) ≡ b
            → IsNeeded plan_measure d p given (cond b (record { rows = t.rows + 1; is_ended = false }) (record { rows = t.rows; is_ended = true }))
        go true e = record {
          within = let less = ltb-true t.rows (length (source plan_measure d p)) e in omega (arith, less);
          ended = λ h. absurd (true≢false (sym h));
          asks = λ k h. asks_all k (one_more k h);
          few = λ lazy k h. few_all lazy k (one_more k h);
        }
          where
            one_more : (k : ℕ) → WasAsked (record { rows = t.rows + 1; is_ended = false }) k → k ≤ t.rows
            one_more k h = elim h [ inl below ↦ omega arith | inr last ↦ absurd (true≢false (sym last.0)) ]
        go false e = record {
          within = needed.within;
          ended = λ h. let all = ltb-false t.rows (length (source plan_measure d p)) e in le_antisymm needed.within all;
          asks = λ k h. asks_all k (no_more k h);
          few = λ lazy k h. few_all lazy k (no_more k h);
        }
          where
            no_more : (k : ℕ) → WasAsked (record { rows = t.rows; is_ended = true }) k → k ≤ t.rows
            no_more k h = elim h [ inl below ↦ omega arith | inr last ↦ le_of_eq last.1 ]

    -- and no more than the model says after the step
    before_spent : IsBefore (next_taken d p t) (spent plan_measure d (beneath_sort p))
    before_spent =
        subst (IsBefore (next_taken d p t)) (ap (spent_of plan_measure d (beneath_sort p)) (sym (source_beneath plan_measure d p)))
        (spent_later plan_measure d (beneath_sort p) (source plan_measure d p) t.rows needed.within asks_all)

    pub asked_before : IsBefore (next_taken d p t) (step_taken plan_measure d p given)
    asked_before = go (element (answer plan_measure d p) given) refl
      where
        sorts : (b : Bool) → is_lazy p ≡ b → given < length (answer plan_measure d p) → IsBefore (next_taken d p t) (has_taken plan_measure d p (given + 1) false)
        sorts true lazy some =
            subst (IsBefore (next_taken d p t)) (sym (lazy_given plan_measure d p lazy (given + 1)))
            (taken_later plan_measure d p given t.rows some (few_all lazy))
        sorts false sort some = subst (IsBefore (next_taken d p t)) (sym (sort_given plan_measure d p sort given)) before_spent

        go : (o : Option PlanRow) → element (answer plan_measure d p) given ≡ o → IsBefore (next_taken d p t) (step_taken plan_measure d p given)
        go (Some row) e =
            subst (IsBefore (next_taken d p t)) (sym (step_taken_row plan_measure d p given row e))
            (sorts (is_lazy p) refl (element_below (answer plan_measure d p) given row e))
        go None e =
            subst (IsBefore (next_taken d p t)) (sym (step_taken_end plan_measure d p given e))
            (subst (IsBefore (next_taken d p t)) (sym (ended_taken plan_measure d p given)) before_spent)

module _ (gap : Measure) (d : Database) (p : Plan) (given : ℕ) (t : Taken) (needed : IsNeeded gap d p given t) where
  -- what is spent is no less than what was needed
  needed_spent : IsBefore t (spent_of gap d (beneath_sort p) (source gap d p))
  needed_spent =
      let all = source gap d p in
      let test : ℕ → Bool = λ k. is_full gap d (beneath_sort p) (take k all) in
      go (least_from test 0 (length all)) (least_bounds test 0 (length all)).1
    where
      go : (enough : ℕ) → enough ≤ 0 + length (source gap d p)
          → IsBefore t (cond (is_full gap d (beneath_sort p) (take enough (source gap d p))) (record { rows = enough; is_ended = false })
          (record { rows = length (source gap d p); is_ended = true }))
      go enough bound = either (is_full gap d (beneath_sort p) (take enough (source gap d p))) refl
        where
          asked : enough ≤ t.rows → WasAsked t enough → is_full gap d (beneath_sort p) (take enough (source gap d p)) ≡ true → ⊥
          asked least was full = true≢false (sym full ∙ needed.asks enough was)

          either : (b : Bool) → is_full gap d (beneath_sort p) (take enough (source gap d p)) ≡ b
              → IsBefore t (cond b (record { rows = enough; is_ended = false }) (record { rows = length (source gap d p); is_ended = true }))
          either true e =
              elim (cases_lt enough t.rows) [
                | inl less ↦ absurd (true≢false (sym e ∙ needed.asks enough (inl less)))
                | inr most ↦ (
                  most,
                  λ end.
                      let all = needed.ended end in
                      absurd (true≢false (sym e ∙ needed.asks enough (inr (end, le_antisymm (omega (arith, all)) most)))),
                )
              ]
          either false e = (needed.within, λ _. refl)

  -- and what is taken for the next row isn't
  needed_row : given < length (answer gap d p) → is_lazy p ≡ true → IsBefore t (record { rows = taken gap d p (given + 1); is_ended = false })
  needed_row some lazy = go (taken gap d p (given + 1)) (taken_enough gap d p given some)
    where
      go : (found : ℕ) → (found ≤ length (source gap d p)) × (given + 1 ≤ length (over gap d p (take found (source gap d p))))
          → IsBefore t (record { rows = found; is_ended = false })
      go found has = (
        elim (cases_lt found t.rows) [
          | inl less ↦ let had = needed.few lazy found (inl less) in absurd (omega (arith, had, has.1))
          | inr most ↦ most
        ],
        λ end.
            let all = needed.ended end in
            let had = needed.few lazy t.rows (inr (end, refl)) in
            let whole : take t.rows (source gap d p) ≡ source gap d p = take_all t.rows (source gap d p) (le_of_eq (sym all)) in
            let answered : length (answer gap d p) ≤ given = subst (λ rows. length (over gap d p rows) ≤ given) whole had in
            absurd (omega (arith, answered)),
      )

  -- what was taken is no more than the model says after the next step
  pub needed_before : IsBefore t (step_taken gap d p given)
  needed_before = go (element (answer gap d p) given) refl
    where
      before_spent : IsBefore t (spent gap d (beneath_sort p))
      before_spent = subst (IsBefore t) (ap (spent_of gap d (beneath_sort p)) (sym (source_beneath gap d p))) needed_spent

      sorts : (b : Bool) → is_lazy p ≡ b → given < length (answer gap d p) → IsBefore t (has_taken gap d p (given + 1) false)
      sorts true lazy some = subst (IsBefore t) (sym (lazy_given gap d p lazy (given + 1))) (needed_row some lazy)
      sorts false sort some = subst (IsBefore t) (sym (sort_given gap d p sort given)) before_spent

      go : (o : Option PlanRow) → element (answer gap d p) given ≡ o → IsBefore t (step_taken gap d p given)
      go (Some row) e = subst (IsBefore t) (sym (step_taken_row gap d p given row e)) (sorts (is_lazy p) refl (element_below (answer gap d p) given row e))
      go None e = subst (IsBefore t) (sym (step_taken_end gap d p given e)) (subst (IsBefore t) (sym (ended_taken gap d p given)) before_spent)
