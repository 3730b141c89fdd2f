-- A step of an operator asks its source at most once: what was taken is still all needed, and what was visited is counted.
use Rattle.std.proofs.Common.{◌≡◌, inl, inr, ℕ, false, List, length, take, Option, Result, Ok, Err, sym, ap, ◌∙◌, subst, le_of_eq}
use Rattle.page_pool.specs.Desk.{DeskState}
use Rattle.page_pool.specs.Disk.{PageMap}
use Rattle.page_pool.specs.declared.fault.PageFault.{PageFault}
use Rattle.sand_model.specs.Database.{Database}
use Rattle.sand_model.specs.Operators.{PlanRow}
use Rattle.statements.specs.Plan.{Plan}
use Rattle.sand_model.specs.Reach.{Counts}
use Rattle.sand_model.specs.Taken.{Taken, is_full, beneath_sort}
use Rattle.plan_iterator.specs.Needed.{AreTakenCounts, IsNeeded, MayBeAsked}
use Rattle.plan_iterator.specs.Rows.{plan_measure}
use Rattle.plan_iterator.specs.SourceSteps.{MakesVisits, taken_after}
use Rattle.plan_iterator.specs.declared.answer.Answer.{Answer}
use Rattle.plan_iterator.proofs.ModelSteps.{step_taken}
use Rattle.plan_iterator.proofs.SortedPlans.{source_beneath}
use Rattle.plan_iterator.proofs.StepCalls.{VisitsWithin, within_none, within_call, counted_call}
use Rattle.plan_iterator.proofs.TakenSoFar.{needed_asked, asked_before}
use Rattle.plan_iterator.specs.Steps.{IsAsked, AsksOnce}
use Rattle.plan_iterator.specs.declared.step.Step.{Step}

-- After the step what was taken is needed and counted, and each visit lies within the reach of the whole step of the cursor.
pub record IsKept (pages : PageMap) (d : Database) (p : Plan) (given : ℕ) (after : Taken) (before now : Counts) (old new : DeskState) (result : Result Step PageFault) : Type 0 where
  pub needed : IsNeeded plan_measure d p given after
  pub counted : AreTakenCounts d p given after now
  pub visits : VisitsWithin pages d p (step_taken plan_measure d p given) before now old new result

module _ (pages : PageMap) (d : Database) (p : Plan) (rows : List PlanRow) (given : ℕ) (long : length rows ≡ given) (t : Taken) (before now : Counts) (old new : DeskState)
    (needed : IsNeeded plan_measure d p given t) (counted : AreTakenCounts d p given t before) where
  -- where all rows that were taken make were given, there are no more of them
  asked_open : IsAsked d p t rows → MayBeAsked d p given t
  asked_open a = (
    subst (λ all. is_full plan_measure d (beneath_sort p) (take t.rows all) ≡ false) (source_beneath plan_measure d p) a.open_,
    λ lazy. le_of_eq (ap length (a.dry lazy) ∙ long),
  )

  -- the source was asked
  kept_call : (answer : Result (Option Answer) PageFault) → MayBeAsked d p given t → MakesVisits pages d p t before now old new answer
      → (result : Result Step PageFault) → ((fault : PageFault) → answer ≡ Err fault → result ≡ Err fault) → IsKept pages d p given (taken_after d p t answer) before now old new result
  kept_call answer asks call result refused = record {
    needed = needed_after answer;
    counted = counted_call pages d p given t before now old new answer asks counted call;
    visits =
        within_call pages d p (step_taken plan_measure d p given) t before now old new answer result refused (asked_before d p given t needed asks.0 asks.1) call;
  }
    where
      needed_after : (answer : Result (Option Answer) PageFault) → IsNeeded plan_measure d p given (taken_after d p t answer)
      needed_after (Ok row) = needed_asked d p given t needed asks.0 asks.1
      needed_after (Err fault) = needed

  -- after the step
  pub kept : (after : Taken) (result : Result Step PageFault) → AsksOnce pages d p t after rows before now old new result → IsKept pages d p given after before now old new result
  kept after result (inl a) =
      subst (λ u. IsKept pages d p given u before now old new result) (sym a.taken) (kept_call a.answer (asked_open a.asked) a.visits result a.refused)
  kept after result (inr r) =
      subst (λ u. IsKept pages d p given u before now old new result) (sym r.taken)
      (subst (λ counts. IsKept pages d p given t before counts old new result) (sym r.counts) record {
        needed = needed;
        counted = counted;
        visits = within_none pages d p (step_taken plan_measure d p given) before old new result r.log r.up;
      })
