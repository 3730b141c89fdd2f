-- What a call of a cursor pays: its page gets are paid by the visits that it noted, by the steps of the source and by the rows that operators handled.
use Rattle.std.specs.Prelude.{ℕ, ◌+◌, ◌≤◌, Bool, List, Option, None, Some, Result, Ok, Err}
use Rattle.sand_base.specs.declared.visit.Visit.{Visit}
use Rattle.page_pool.specs.Desk.{DeskState}
use Rattle.page_pool.specs.Disk.{PageMap}
use Rattle.page_pool.specs.declared.fault.PageFault.{PageFault}
use Rattle.sand_model.specs.Cursor.{Cursor}
use Rattle.sand_model.specs.Reach.{Counts}
use Rattle.plan_iterator.specs.declared.answer.Answer.{Answer}
use Rattle.plan_iterator.specs.Following.{Taking}
use Rattle.plan_iterator.specs.Paying.{Prices, owed_by, left_of, paid, HasSamePrices}
use Rattle.plan_iterator.specs.Stages.{Standing}
use Rattle.plan_iterator.specs.declared.operator.Operator.{Operator}
use Rattle.plan_iterator.specs.CursorStep.{CursorStep}
use Rattle.plan_iterator.specs.Standing.{KeepsRows, IsAt}
use Rattle.plan_iterator.specs.declared.cursor.RowCursor.{RowCursor}

-- what is left to pay before a call: what stages have still to do for the rows that they hold, the entries of an index still to pass, and one step of a source that may still be asked
abbrev pub left_at : {S T : Type 0} → (T → Bool) → Prices S T → Operator S T → PageMap → Cursor → ℕ
left_at closed q o pages c = left_of closed q o pages c.database c.plan

-- what is left to pay after a call: at the end no step of the source, and after a refusal nothing
abbrev pub left_behind : {S T : Type 0} → (T → Bool) → Prices S T → Operator S T → PageMap → Cursor → Result (Option Answer) PageFault → ℕ
left_behind closed q o pages c (Ok (Some a)) = left_at closed q o pages c
left_behind closed q o pages c (Ok None) = owed_by q o pages c.database c.plan
left_behind closed q o pages c (Err fault) = 0

-- the price of these visits, and of all steps of the source and rows of operators so far
abbrev pub paid_so_far : {S T : Type 0} (At : S → Taking) (Stands : T → Standing) (closed : T → Bool) (q : Prices S T) (seen : S → Counts) (o : Operator S T) (pages : PageMap) (c : Cursor)
    → KeepsRows At Stands closed seen o pages c → List Visit → ℕ
paid_so_far At Stands closed q seen o pages c k visits = paid At Stands closed q o pages c.database c.plan k.taken k.rows k.follows visits

-- The page gets from one moment to a later one, with what is then left to pay, are at most what was left to pay before and the price of what was noted, asked and handled in between.
pub record Pays {S T : Type 0} (At : S → Taking) (Stands : T → Standing) (closed : T → Bool) (q : Prices S T) (seen : S → Counts) (o o' : Operator S T) (pages : PageMap) (c after : Cursor)
    (k : KeepsRows At Stands closed seen o pages c) (k' : KeepsRows At Stands closed seen o' pages after) (old new : DeskState) (left : ℕ) : Type 0 where
  pub same : HasSamePrices q o o'
  pub most : new.pool.gets + left + paid_so_far At Stands closed q seen o pages c k old.visits
      ≤ old.pool.gets + left_at closed q o pages c + paid_so_far At Stands closed q seen o' pages after k' new.visits

-- An operator keeps to the cursor of the model after a call, and the call is paid.
pub record KeepsPaid {S T : Type 0} (At : S → Taking) (Stands : T → Standing) (closed : T → Bool) (q : Prices S T) (seen : S → Counts) (o o' : Operator S T) (pages : PageMap) (c : Cursor)
    (k : KeepsRows At Stands closed seen o pages c) (old new : DeskState) (left : Cursor → ℕ) (after : Cursor) : Type 0 where
  pub keeps : KeepsRows At Stands closed seen o' pages after
  pub pays : Pays At Stands closed q seen o o' pages c after k keeps old new (left after)

-- A cursor stands where that of the model does after a call, and the call is paid.
pub record IsAtPaid {S T : Type 0} (At : S → Taking) (Stands : T → Standing) (closed : T → Bool) (q : Prices S T) (seen : S → Counts) (cursor cursor' : RowCursor S T) (pages : PageMap) (c : Cursor)
    (at : IsAt At Stands closed seen cursor pages c) (old new : DeskState) (left : Cursor → ℕ) (after : Cursor) : Type 0 where
  pub stands : IsAt At Stands closed seen cursor' pages after
  pub pays : Pays At Stands closed q seen cursor.operator cursor'.operator pages c after at.keeps stands.keeps old new (left after)

-- wherever the cursor of the model stands that an operator keeps to: the call is one step of it, and is paid
abbrev pub AdvancesPaid : {S T : Type 0} → (S → Taking) → (T → Standing) → (T → Bool) → Prices S T → (S → Counts) → Operator S T → Operator S T → DeskState → DeskState
    → Result (Option Answer) PageFault → PageMap → Type 0
AdvancesPaid At Stands closed q seen o o' old new result pages =
    (c : Cursor) (k : KeepsRows At Stands closed seen o pages c)
    → CursorStep pages c old new result (KeepsPaid At Stands closed q seen o o' pages c k old new (λ after. left_behind closed q o' pages after result))

-- wherever the cursor of the model stands: the call is one step of it, and is paid
abbrev pub StepsPaid : {S T : Type 0} → (S → Taking) → (T → Standing) → (T → Bool) → Prices S T → (S → Counts) → RowCursor S T → RowCursor S T → DeskState → DeskState
    → Result (Option Answer) PageFault → PageMap → Type 0
StepsPaid At Stands closed q seen cursor cursor' old new result pages =
    (c : Cursor) (at : IsAt At Stands closed seen cursor pages c)
    → CursorStep pages c old new result (IsAtPaid At Stands closed q seen cursor cursor' pages c at old new (λ after. left_behind closed q cursor'.operator pages after result))
