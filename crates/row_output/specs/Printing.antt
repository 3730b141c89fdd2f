-- Some steps of a cursor with their lines, written one after the other.
use Rattle.std.specs.Prelude.{◌≡◌, ℕ, zero, suc, ◌+◌, ◌-◌, ◌<◌, ◌≤◌, min, Bool, true, false, cond, nat_lt, List, [], ◌∷◌, ◌++◌, length, All, Result, Ok, Err, OnOk, ⊤}
use Rattle.sand_base.specs.Faults.{last_count, next_count}
use Rattle.sand_base.specs.Streams.{Adds}
use Rattle.sand_base.specs.declared.refusal.Refusal.{Refusal}
use Rattle.sand_base.specs.declared.source.Failed.{Failed}
use Rattle.sand_base.specs.declared.visit.Visit.{Visit}
use Rattle.page_pool.specs.Desk.{DeskState}
use Rattle.page_pool.specs.Disk.{PageMap}
use Rattle.page_pool.specs.declared.fault.PageFault.{PageFault}
use Rattle.sand_model.specs.Cursor as line
use Rattle.sand_model.specs.Cursor.{Cursor, OutputLine, Steps}
use Rattle.sand_model.specs.Operators.{PlanRow}
use Rattle.sand_model.specs.OutputText.{IsText}
use Rattle.sand_model.specs.PlainLines.{AreLinesOfRows, IsPlainLine}
use Rattle.sand_model.specs.Reach.{Counts, reach, reach_of_last}
use Rattle.sand_model.specs.Taken.{Taken, has_taken, is_lazy}
use Rattle.output_text.specs.Writing.{Writes, WritesPrefix}
use Rattle.plan_iterator.specs.Rows.{plan_measure}
use Rattle.plan_iterator.specs.SourceSteps.{node_count}
use Rattle.plan_iterator.specs.Visited.{◌plus◌, visit_counts, LiesWithin}
use Rattle.plan_iterator.specs.CursorStep.{step_taken}
use Rattle.plan_iterator.specs.PaidCalls.{left_at, IsAtPaid}
use Rattle.plan_iterator.specs.Standing.{IsAt}
use Rattle.plan_iterator.specs.declared.cursor.RowCursor.{RowCursor}
use Rattle.plan_iterator.specs.Following.{Taking}
use Rattle.plan_iterator.specs.Paying.{Prices, owed_by}
use Rattle.plan_iterator.specs.Stages.{Standing}
use Rattle.plan_iterator.specs.declared.operator.Operator.{Operator}
use Rattle.row_output.specs.declared.rows.Printed.{Printed}
use Rattle.row_output.specs.declared.rows.Printed.TheVariants.{Rows, Refused}

-- the lines of so many rows, and the end behind them where this is said
abbrev pub AreRowsThen : ℕ → Bool → List OutputLine → Type 0
AreRowsThen rows false lines = AreLinesOfRows rows lines
AreRowsThen rows true lines = (front : List OutputLine) × AreLinesOfRows rows front × (lines ≡ front ++ line.End ∷ [])

-- the refusal of a page in what was printed
abbrev pub refusal_in : Result Printed Failed → Result Unit PageFault
refusal_in (Ok (Rows rows end)) = Ok tt
refusal_in (Ok (Refused rows fault)) = Err fault
refusal_in (Err failed) = Ok tt

-- the lines that are printed, by what is answered, over any disk: `end` is true exactly where fewer rows are given than asked
abbrev pub AreCountedLines : ℕ → Result Printed Failed → List OutputLine → Type 0
AreCountedLines count (Ok (Rows rows end)) lines = (rows ≤ count) × (end ≡ nat_lt rows count) × AreRowsThen rows end lines
AreCountedLines count (Ok (Refused rows fault)) lines = (rows < count) × AreLinesOfRows rows lines
AreCountedLines count (Err failed) lines = (rows : ℕ) × (end : Bool) × (rows + cond end 1 0 ≤ count) × AreRowsThen rows end lines

-- the number of a cursor's rows after so many more
abbrev pub number_behind : ℕ → ℕ → ℕ
number_behind before zero = before
number_behind before (suc rows) = next_count (number_behind before rows)

-- the number of a cursor's rows is as many more as lines of rows are answered
abbrev pub CountsRows : ℕ → ℕ → Result Printed Failed → Type 0
CountsRows before now (Ok (Rows rows end)) = now ≡ number_behind before rows
CountsRows before now (Ok (Refused rows fault)) = now ≡ number_behind before rows
CountsRows before now (Err failed) = ⊤

-- Up to so many steps were made with these lines, none of them refused: so many rows, and the end where this is said. The last step says how much of the source was taken.
pub record MakesSteps (c : Cursor) (count rows : ℕ) (end : Bool) (lines : List OutputLine) (after : Cursor) (last : Taken) : Type 0 where
  pub steps : Steps plan_measure (λ refusal. ⊥) count c lines after
  pub given : after.given ≡ c.given + rows
  pub long : length lines ≡ rows + cond end 1 0
  pub taken : last ≡ has_taken plan_measure c.database c.plan after.given end

-- So many rows were given with these lines, fewer than asked, and then a step was refused, whose line is still to be written.
pub record IsRefusedAfter (c : Cursor) (count rows : ℕ) (lines : List OutputLine) (after : Cursor) (last : Taken) : Type 0 where
  pub steps : (refusal : Refusal) → Steps plan_measure (λ why. why ≡ refusal) count c (lines ++ line.Refused refusal ∷ []) after
  pub given : after.given ≡ c.given + rows
  pub long : length lines ≡ rows
  pub few : rows < count
  pub taken : last ≡ step_taken after

-- the steps that were made, by what is answered: `end` is true exactly where fewer rows were given than asked
abbrev pub GivesLines : Cursor → ℕ → Result Printed Failed → List OutputLine → Cursor → Taken → Type 0
GivesLines c count (Ok (Rows rows end)) lines after last =
    (rows ≤ count) × (end ≡ nat_lt rows count) × MakesSteps c count rows end lines after last
GivesLines c count (Ok (Refused rows fault)) lines after last = IsRefusedAfter c count rows lines after last
GivesLines c count (Err failed) lines after last =
    (made : ℕ) × (rows : ℕ) × (end : Bool) × (made ≤ count) × MakesSteps c made rows end lines after last

-- the lines were written, or a prefix of them where the sink failed
abbrev pub WritesLines : Result Printed Failed → List OutputLine → (List ℕ → Type 0) → (List ℕ → Type 0) → Type 0
WritesLines (Ok printed) lines before now = Writes (IsText lines) before now
WritesLines (Err failed) lines before now = WritesPrefix (IsText lines) before now

-- over any disk, lines of rows were written, as many as is answered, or a prefix of them where the sink failed
abbrev pub WritesCounted : ℕ → Result Printed Failed → (List ℕ → Type 0) → (List ℕ → Type 0) → Type 0
WritesCounted count result before now = (lines : List OutputLine) × AreCountedLines count result lines × WritesLines result lines before now

-- The lines before the last one were written whole, and of the last one a prefix: no row was taken before the lines of those before it were written.
pub record IsCutInLast (lines : List OutputLine) (before now : List ℕ → Type 0) : Type 0 where
  pub front : List OutputLine
  pub last : OutputLine
  pub split : lines ≡ front ++ last ∷ []
  pub text : List ℕ
  pub whole : IsText front text
  pub line : List ℕ
  pub of_last : IsText (last ∷ []) line
  pub prefix : List ℕ
  pub rest : List ℕ
  pub cut : line ≡ prefix ++ rest
  pub written : Adds before now (text ++ prefix)

-- where the sink failed, it failed in the line of the last step that was made
abbrev pub CutsLast : Result Printed Failed → List OutputLine → (List ℕ → Type 0) → (List ℕ → Type 0) → Type 0
CutsLast (Ok printed) lines before now = ⊤
CutsLast (Err failed) lines before now = IsCutInLast lines before now

-- where the last step gave a row of a plan without a sort, the visits lie within the gap of this row
abbrev pub LieWithinLast : PageMap → Cursor → Result Printed Failed → List OutputLine → List Visit → Type 0
LieWithinLast pages c (Ok (Refused rows fault)) lines noted = ⊤
LieWithinLast pages c (Ok (Rows rows end)) lines noted =
    is_lazy c.plan ≡ true → (front : List OutputLine) (row : PlanRow) → lines ≡ front ++ line.Row row ∷ []
    → All (LiesWithin plan_measure pages c.database c.plan (reach_of_last (row ∷ []))) noted
LieWithinLast pages c (Err failed) lines noted =
    is_lazy c.plan ≡ true → (front : List OutputLine) (row : PlanRow) → lines ≡ front ++ line.Row row ∷ []
    → All (LiesWithin plan_measure pages c.database c.plan (reach_of_last (row ∷ []))) noted

-- Some steps of the cursor of the model were made, and their lines were written. The visits were noted behind those before, those completed
-- and after them, only where a step was refused, at most one that was attempted in vain; all lie within the reach of the last step, also of
-- one that was refused, and the counts rise by just the completed ones.
pub record PrintsRows (pages : PageMap) (c : Cursor) (count : ℕ) (old new : DeskState) (before now : List ℕ → Type 0) (result : Result Printed Failed) (At : Cursor → Type 0) : Type 0 where
  pub lines : List OutputLine
  pub after : Cursor
  pub last : Taken
  pub at : At after
  pub gives : GivesLines c count result lines after last
  pub plain : All IsPlainLine lines
  pub writes : WritesLines result lines before now
  pub cuts : CutsLast result lines before now
  pub completed : List Visit
  pub attempted : List Visit
  pub log : new.visits ≡ old.visits ++ (completed ++ attempted)
  pub few : length attempted ≤ 1
  pub settled : OnOk (refusal_in result) (attempted ≡ [])
  pub counted : after.counts ≡ c.counts plus visit_counts completed
  pub near : All (LiesWithin plan_measure pages c.database c.plan (reach plan_measure c.database c.plan last)) (completed ++ attempted)
  pub row : LieWithinLast pages c result lines (completed ++ attempted)
  pub rose : min (old.pool.gets + (node_count after.counts - node_count c.counts)) last_count ≤ new.pool.gets

-- what is left to pay after what was printed: at the end, and where the sink failed, no step of the source, and after a refused step nothing
abbrev pub left_by_lines : {S T : Type 0} → (T → Bool) → Prices S T → Operator S T → PageMap → Cursor → Result Printed Failed → ℕ
left_by_lines closed q o pages c (Ok (Rows rows end)) = cond end (owed_by q o pages c.database c.plan) (left_at closed q o pages c)
left_by_lines closed q o pages c (Ok (Refused rows fault)) = 0
left_by_lines closed q o pages c (Err failed) = owed_by q o pages c.database c.plan

-- wherever the cursor of the model stands: some steps of it were made with their lines, and the page gets of them all are paid
abbrev pub PrintsRowsPaid : {S T : Type 0} → (S → Taking) → (T → Standing) → (T → Bool) → Prices S T → (S → Counts) → RowCursor S T → RowCursor S T → ℕ
    → DeskState → DeskState → (List ℕ → Type 0) → (List ℕ → Type 0) → Result Printed Failed → PageMap → Type 0
PrintsRowsPaid At Stands closed q seen cursor cursor' count old new before now result pages =
    (c : Cursor) (at : IsAt At Stands closed seen cursor pages c)
    → PrintsRows pages c count old new before now result (IsAtPaid At Stands closed q seen cursor cursor' pages c at old new (λ after. left_by_lines closed q cursor'.operator pages after result))
