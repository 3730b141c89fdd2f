-- A call of a cursor is one step of the cursor of the model: the row, the counts, and the visits, which lie within the reach of what the source then has taken.
use Rattle.std.specs.Prelude.{◌≡◌, ℕ, ◌+◌, ◌-◌, ◌≤◌, min, true, false, cond, nat_lt, List, [], ◌∷◌, ◌++◌, length, All, Option, None, Some, Result, Ok, Err, OnOk, ⊤}
use Rattle.sand_base.specs.Faults.{last_count}
use Rattle.sand_base.specs.declared.refusal.Refusal.{Refusal}
use Rattle.sand_base.specs.declared.visit.Visit.{Visit}
use Rattle.page_pool.specs.Desk.{DeskState}
use Rattle.page_pool.specs.Disk.{PageMap}
use Rattle.page_pool.specs.declared.fault.PageFault.{PageFault}
use Rattle.sand_model.specs.Answer.{answer}
use Rattle.sand_model.specs.Cursor.{Cursor, AreBetween, Row, End, step_of, IsRefusedStep}
use Rattle.sand_model.specs.Reach.{Reach, reach, reach_of_last}
use Rattle.sand_model.specs.Taken.{Taken, has_taken, is_lazy}
use Rattle.plan_iterator.specs.Rows.{plan_measure, row_of}
use Rattle.plan_iterator.specs.SourceSteps.{node_count}
use Rattle.plan_iterator.specs.Visited.{◌plus◌, visit_counts, LiesWithin}
use Rattle.plan_iterator.specs.declared.answer.Answer.{Answer}

-- the cursor of the model after the call: its next step gives the row or the end, and a refused step changes the counts alone
abbrev pub GivesStep : Cursor → Result (Option Answer) PageFault → Cursor → Type 0
GivesStep c (Ok (Some a)) after = step_of plan_measure c ≡ (Row (row_of a), after)
GivesStep c (Ok None) after = step_of plan_measure c ≡ (End, after)
GivesStep c (Err fault) after = (refusal : Refusal) → IsRefusedStep plan_measure c refusal after

-- the number of rows given after a call: one more where a row was given, and the same at the end and after a refusal
abbrev pub number_after : ℕ → Result (Option Answer) PageFault → ℕ
number_after n (Ok (Some a)) = min (n + 1) last_count
number_after n (Ok None) = n
number_after n (Err fault) = n

-- what the source has taken after the next step: what one more row needs, or the end where there is none
abbrev pub step_taken : Cursor → Taken
step_taken c =
    cond (nat_lt c.given (length (answer plan_measure c.database c.plan))) (has_taken plan_measure c.database c.plan (c.given + 1) false)
    (has_taken plan_measure c.database c.plan c.given true)

-- how far the source reaches then
abbrev pub step_reach : Cursor → Reach
step_reach c = reach plan_measure c.database c.plan (step_taken c)

-- up to the gap of a row, and to nothing where it has none
abbrev pub row_reach : Answer → Reach
row_reach a = reach_of_last (row_of a ∷ [])

-- where a plan without a sort gives a row, the visits lie within the gap of this row
abbrev pub LieWithinRow : PageMap → Cursor → Result (Option Answer) PageFault → List Visit → Type 0
LieWithinRow pages c (Ok (Some a)) noted = is_lazy c.plan ≡ true → All (LiesWithin plan_measure pages c.database c.plan (row_reach a)) noted
LieWithinRow pages c (Ok None) noted = ⊤
LieWithinRow pages c (Err fault) noted = ⊤

-- The visits of a call: they were noted behind those before, those completed and after them, only in a refused call, at most one that was
-- attempted in vain; each lies within the reach of the step, also of one that is refused. The counts rise by just the completed ones, to at
-- most those of the step that is made or would have been made, and at least one page get was made for each node that was counted.
pub record StepVisits (pages : PageMap) (c after : Cursor) (old new : DeskState) (result : Result (Option Answer) PageFault) : Type 0 where
  pub completed : List Visit
  pub attempted : List Visit
  pub log : new.visits ≡ old.visits ++ (completed ++ attempted)
  pub few : length attempted ≤ 1
  pub settled : OnOk result (attempted ≡ [])
  pub counted : after.counts ≡ c.counts plus visit_counts completed
  pub near : All (LiesWithin plan_measure pages c.database c.plan (step_reach c)) (completed ++ attempted)
  pub row : LieWithinRow pages c result (completed ++ attempted)
  pub between : AreBetween c.counts (step_of plan_measure c).1.counts after.counts
  pub rose : min (old.pool.gets + (node_count after.counts - node_count c.counts)) last_count ≤ new.pool.gets

-- A call where the cursor of the model stands at c. At says where the cursor stands.
pub record CursorStep (pages : PageMap) (c : Cursor) (old new : DeskState) (result : Result (Option Answer) PageFault) (At : Cursor → Type 0) : Type 0 where
  pub after : Cursor
  pub gives : GivesStep c result after
  pub at : At after
  pub visits : StepVisits pages c after old new result
