-- One step of a cursor, and its line.
use Rattle.std.specs.Prelude.{◌≡◌, ℕ, Bool, List, [], ◌∷◌, Option, None, Some, Result, Ok, Err, ⊤}
use Rattle.sand_base.specs.Faults.{next_count}
use Rattle.sand_base.specs.Streams.{Stays}
use Rattle.sand_base.specs.declared.source.Failed.{Failed}
use Rattle.page_pool.specs.Desk.{DeskState}
use Rattle.page_pool.specs.Disk.{PageMap}
use Rattle.page_pool.specs.declared.fault.PageFault.{PageFault}
use Rattle.sand_model.specs.Cursor as line
use Rattle.sand_model.specs.Cursor.{Cursor}
use Rattle.sand_model.specs.OutputText.{IsText}
use Rattle.sand_model.specs.Reach.{Counts}
use Rattle.output_text.specs.Writing.{Writes, WritesPrefix}
use Rattle.plan_iterator.specs.Rows.{row_of}
use Rattle.plan_iterator.specs.declared.answer.Answer.{Answer}
use Rattle.plan_iterator.specs.CursorStep.{CursorStep}
use Rattle.plan_iterator.specs.PaidCalls.{left_at, IsAtPaid}
use Rattle.plan_iterator.specs.Standing.{IsAt}
use Rattle.plan_iterator.specs.declared.cursor.RowCursor.{RowCursor}
use Rattle.plan_iterator.specs.Following.{Taking}
use Rattle.plan_iterator.specs.Paying.{Prices, owed_by}
use Rattle.plan_iterator.specs.Stages.{Standing}
use Rattle.plan_iterator.specs.declared.operator.Operator.{Operator}
use Rattle.row_output.specs.declared.next.Next.{Next}
use Rattle.row_output.specs.declared.next.Next.TheVariants.{Row, End, Refused}

-- the refusal of a page in what was printed
abbrev pub printed_refusal : Result Next Failed → Result Unit PageFault
printed_refusal (Ok (Refused fault)) = Err fault
printed_refusal (Ok Row) = Ok tt
printed_refusal (Ok End) = Ok tt
printed_refusal (Err failed) = Ok tt

-- the number of a cursor's rows is one more behind the line of a row, and the same behind that of the end and after a refused step
abbrev pub CountsStep : ℕ → ℕ → Result Next Failed → Type 0
CountsStep before now (Ok Row) = now ≡ next_count before
CountsStep before now (Ok End) = now ≡ before
CountsStep before now (Ok (Refused fault)) = now ≡ before
CountsStep before now (Err failed) = ⊤

-- the line of a step was written, or a prefix of it where the sink failed; a refused step has no line yet
abbrev pub PrintsStep : Result (Option Answer) PageFault → Result Next Failed → (List ℕ → Type 0) → (List ℕ → Type 0) → Type 0
PrintsStep (Ok (Some a)) (Ok Row) before now = Writes (IsText (line.Row (row_of a) ∷ [])) before now
PrintsStep (Ok (Some a)) (Ok End) before now = ⊥
PrintsStep (Ok (Some a)) (Ok (Refused fault)) before now = ⊥
PrintsStep (Ok (Some a)) (Err failed) before now = WritesPrefix (IsText (line.Row (row_of a) ∷ [])) before now
PrintsStep (Ok None) (Ok Row) before now = ⊥
PrintsStep (Ok None) (Ok End) before now = Writes (IsText (line.End ∷ [])) before now
PrintsStep (Ok None) (Ok (Refused fault)) before now = ⊥
PrintsStep (Ok None) (Err failed) before now = WritesPrefix (IsText (line.End ∷ [])) before now
PrintsStep (Err why) (Ok Row) before now = ⊥
PrintsStep (Err why) (Ok End) before now = ⊥
PrintsStep (Err why) (Ok (Refused fault)) before now = (fault ≡ why) × Stays before now
PrintsStep (Err why) (Err failed) before now = ⊥

-- A step of the cursor of the model was made, and its line was written.
pub record PrintsNext (pages : PageMap) (c : Cursor) (old new : DeskState) (before now : List ℕ → Type 0) (result : Result Next Failed) (At : Cursor → Type 0) : Type 0 where
  pub answer : Result (Option Answer) PageFault
  pub step : CursorStep pages c old new answer At
  pub prints : PrintsStep answer result before now

-- what is left to pay after a step and its line: at the end, and where the sink failed, no step of the source, and after a refused step nothing
abbrev pub left_by_line : {S T : Type 0} → (T → Bool) → Prices S T → Operator S T → PageMap → Cursor → Result Next Failed → ℕ
left_by_line closed q o pages c (Ok Row) = left_at closed q o pages c
left_by_line closed q o pages c (Ok End) = owed_by q o pages c.database c.plan
left_by_line closed q o pages c (Ok (Refused fault)) = 0
left_by_line closed q o pages c (Err failed) = owed_by q o pages c.database c.plan

-- wherever the cursor of the model stands: one step of it was made with its line, and its page gets are paid
abbrev pub PrintsNextPaid : {S T : Type 0} → (S → Taking) → (T → Standing) → (T → Bool) → Prices S T → (S → Counts) → RowCursor S T → RowCursor S T
    → DeskState → DeskState → (List ℕ → Type 0) → (List ℕ → Type 0) → Result Next Failed → PageMap → Type 0
PrintsNextPaid At Stands closed q seen cursor cursor' old new before now result pages =
    (c : Cursor) (at : IsAt At Stands closed seen cursor pages c)
    → PrintsNext pages c old new before now result (IsAtPaid At Stands closed q seen cursor cursor' pages c at old new (λ after. left_by_line closed q cursor'.operator pages after result))
