-- From what was taken and counted to the step of the model's cursor: a row, the end, or a refusal.
use Rattle.std.proofs.Common.{◌≡◌, ℕ, ◌+◌, ◌≤◌, Bool, true, false, length, take, None, Some, refl, sym, ap, ◌∙◌, subst}
use Rattle.sand_base.specs.declared.refusal.Refusal.{Refusal}
use Rattle.sand_model.specs.Answer.{source, answer}
use Rattle.sand_model.specs.Cursor.{Cursor, Row, End, step_of, IsRefusedStep}
use Rattle.sand_model.specs.Database.{Database, element}
use Rattle.sand_model.specs.Operators.{PlanRow, over}
use Rattle.statements.specs.Plan.{Plan}
use Rattle.sand_model.specs.Reach.{Counts, counts}
use Rattle.sand_model.specs.Taken.{Taken, is_lazy}
use Rattle.plan_iterator.specs.Needed.{AreAtMost, AreTakenCounts, IsNeeded}
use Rattle.plan_iterator.specs.Rows.{plan_measure}
use Rattle.plan_iterator.specs.SourceSteps.{counts_taken}
use Rattle.plan_iterator.proofs.CountedVisits.{between_is}
use Rattle.plan_iterator.proofs.ModelSteps.{step_row, step_end, step_counts}
use Rattle.plan_iterator.proofs.StepCalls.{counted_row, counted_spent, counted_before}
use Rattle.plan_iterator.proofs.NextNeeds.{IsSpent, row_taken, sort_taken, end_taken}

-- A row is to be given: without a sort the plan has one more over what was taken, and with one all was taken that will be.
pub record HasRow (d : Database) (p : Plan) (given : ℕ) (t : Taken) : Type 0 where
  pub more : is_lazy p ≡ true → given + 1 ≤ length (over plan_measure d p (take t.rows (source plan_measure d p)))
  pub spent : is_lazy p ≡ false → IsSpent plan_measure d p t

module _ (d : Database) (p : Plan) (given : ℕ) (t : Taken) (seen : Counts) (needed : IsNeeded plan_measure d p given t) (counted : AreTakenCounts d p given t seen) where
  -- the counts after a row
  pub row_counts : HasRow d p given t → seen ≡ counts plan_measure d p (given + 1) false
  row_counts has = go (is_lazy p) refl
    where
      go : (b : Bool) → is_lazy p ≡ b → seen ≡ counts plan_measure d p (given + 1) false
      go true lazy =
          counted_row d p given t seen needed counted lazy (has.more lazy)
          ∙ ap (counts_taken d p) (sym (row_taken plan_measure d p given t needed lazy (has.more lazy)))
      go false sorts =
          counted_spent d p given t seen needed counted (has.spent sorts)
          ∙ ap (counts_taken d p) (sym (sort_taken plan_measure d p given t needed sorts (has.spent sorts) given))

  -- and at the end
  pub end_counts : IsSpent plan_measure d p t → seen ≡ counts plan_measure d p given true
  end_counts spent_it =
      counted_spent d p given t seen needed counted spent_it
      ∙ ap (counts_taken d p) (sym (end_taken plan_measure d p given t needed spent_it given))

module _ (cursor : Cursor) (t : Taken) (seen : Counts) (needed : IsNeeded plan_measure cursor.database cursor.plan cursor.given t)
    (counted : AreTakenCounts cursor.database cursor.plan cursor.given t seen) where
  -- the next row of the answer is given
  pub gives_row : (row : PlanRow) → element (answer plan_measure cursor.database cursor.plan) cursor.given ≡ Some row
      → HasRow cursor.database cursor.plan cursor.given t
      → step_of plan_measure cursor ≡ (Row row, record cursor { given = cursor.given + 1; counts = seen })
  gives_row row e has =
      step_row plan_measure cursor row e
      ∙ ap (λ c. (Row row, record cursor { given = cursor.given + 1; counts = c }))
      (sym (row_counts cursor.database cursor.plan cursor.given t seen needed counted has))

  -- the end is given
  pub gives_end : element (answer plan_measure cursor.database cursor.plan) cursor.given ≡ None → IsSpent plan_measure cursor.database cursor.plan t
      → step_of plan_measure cursor ≡ (End, record cursor { is_ended = true; counts = seen })
  gives_end e spent_it =
      step_end plan_measure cursor e
      ∙ ap (λ c. (End, record cursor { is_ended = true; counts = c }))
      (sym (end_counts cursor.database cursor.plan cursor.given t seen needed counted spent_it))

  -- a refused step leaves all but the counts
  pub gives_none : AreAtMost cursor.counts seen → (refusal : Refusal) → IsRefusedStep plan_measure cursor refusal (record cursor { counts = seen })
  gives_none up refusal = (
    seen,
    between_is cursor.counts (step_of plan_measure cursor).1.counts seen up
        (subst (AreAtMost seen) (sym (step_counts plan_measure cursor)) (counted_before cursor.database cursor.plan cursor.given t seen needed counted)),
    refl,
  )
