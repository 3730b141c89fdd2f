-- How cursors go on: each `next` prints the following rows of its cursor's answer, over the database at its opening.
use Rattle.std.specs.Prelude.{◌≡◌, ◌⊎◌, ℕ, ◌+◌, ◌<◌, ◌≤◌, Bool, true, false, cond, nat_lt, not, ◌&&◌, ◌||◌, List, [], ◌∷◌, ◌++◌, length, map, take, drop, Some}
use Rattle.std.specs.List.{list_any}
use Rattle.sand_base.specs.declared.refusal.Refusal.{Refusal}
use Rattle.sand_base.specs.declared.refusal.Refusal.TheVariants as why
use Rattle.sand_model.specs.Answer.{answer}
use Rattle.sand_model.specs.Cursor.{State, Cursor, OutputLine, Accepted, Row, End, Refused, Steps, new_cursor}
use Rattle.sand_model.specs.Database.{same_name}
use Rattle.sand_model.specs.Measure.{Measure}
use Rattle.sand_model.specs.Operators.{PlanRow}
use Rattle.sand_model.specs.Outcome.{Rises, IsLicensed, IsRefusedBy, Outcome}
use Rattle.sand_model.specs.OutputText.{is_refused}
use Rattle.statements.specs.Plan.{Plan}
use Rattle.sand_model.specs.Run.{LineOutcome, Run}
use Rattle.statements.specs.Statement.{Statement, OpenCursor, Next, CloseCursor}
use Rattle.sand_model.specs.ScriptLine.{ScriptLine, Says}
use Rattle.sand_model.specs.StatementChecks.{Setting, cursor_named}

-- the rows of a cursor's answer, from scratch over the database at its opening, that follow those given
abbrev pub rows_left : Measure → Cursor → List PlanRow
rows_left gap cursor = drop cursor.given (answer gap cursor.database cursor.plan)

-- a cursor gave so many rows more and has this mark now; its name, its plan and its database stay
pub record Gave (rows : ℕ) (is_ended : Bool) (old new : Cursor) : Type 0 where
  pub name : new.name ≡ old.name
  pub plan : new.plan ≡ old.plan
  pub database : new.database ≡ old.database
  pub given : new.given ≡ old.given + rows
  pub mark : new.is_ended ≡ is_ended

-- all rows that were asked are printed
abbrev pub GivesAll : List PlanRow → ℕ → Cursor → List OutputLine → Cursor → Type 0
GivesAll left count old lines new =
    (count ≤ length left) × (lines ≡ map Row (take count left)) × Gave count old.is_ended old new

-- fewer rows are left than were asked: they are printed, and then `end`
abbrev pub GivesTheLast : List PlanRow → ℕ → Cursor → List OutputLine → Cursor → Type 0
GivesTheLast left count old lines new =
    (length left < count) × (lines ≡ map Row left ++ End ∷ []) × Gave (length left) true old new

-- the first of them are printed, and then a refusal that `may` allows
abbrev pub GivesSomeRows : (Refusal → Type 0) → List PlanRow → ℕ → Cursor → List OutputLine → Cursor → Type 0
GivesSomeRows may left count old lines new =
    (rows : ℕ) × (refusal : Refusal) × may refusal × (rows < count) × (rows ≤ length left)
    × (lines ≡ map Row (take rows left) ++ Refused refusal ∷ []) × Gave rows old.is_ended old new

-- one of these, by how many rows are left
abbrev pub GoesOnPrinting : (Refusal → Type 0) → List PlanRow → ℕ → Cursor → List OutputLine → Cursor → Type 0
GoesOnPrinting may left count old lines new =
    GivesAll left count old lines new ⊎ (GivesTheLast left count old lines new ⊎ GivesSomeRows may left count old lines new)

-- steps of a cursor print the following rows of its answer, and `end` exactly where fewer are left than were asked, or a refusal after the first of them
abbrev pub StepsGiveTheAnswer : Type 0
StepsGiveTheAnswer =
    (setting : Setting) (rises : Rises) (state : State) (statement : Statement)
    → (count : ℕ) (old : Cursor) (lines : List OutputLine) (new : Cursor)
    → Steps setting.gap (IsLicensed setting rises state statement) count old lines new
    → GoesOnPrinting (IsLicensed setting rises state statement) (rows_left setting.gap old) count old lines new

-- where `open` is accepted, a cursor of the name is open on the plan over the database as it stands, and has given nothing
abbrev pub OpenedCursorsAreNew : Type 0
OpenedCursorsAreNew =
    (setting : Setting) (rises : Rises) (old new : State) (name : List ℕ) (p : Plan)
    → Outcome setting rises old (OpenCursor name p) (Accepted ∷ []) new
    → (new.database ≡ old.database) × (cursor_named new name ≡ Some (new_cursor name p old.database))

-- the line is a `next` of the cursor of this name
abbrev pub asks : List ℕ → ScriptLine → Bool
asks name (Says (Next other count)) = same_name other name
asks name line = false

-- the line closes the cursor of this name
abbrev pub closes : List ℕ → ScriptLine → Bool
closes name (Says (CloseCursor other)) = same_name other name
closes name line = false

-- an open cursor stays as it is through every run without a line that asks or closes it
abbrev pub CursorsAreMovedByTheirNext : Type 0
CursorsAreMovedByTheirNext =
    (setting : Setting) (old new : State) (script : List ScriptLine) (rises : Rises) (printed : List OutputLine)
    → Run setting old script rises printed new → (name : List ℕ) (cursor : Cursor)
    → cursor_named old name ≡ Some cursor → list_any (asks name) script ≡ false → list_any (closes name) script ≡ false
    → cursor_named new name ≡ Some cursor

-- the rows among lines
abbrev pub rows_among : List OutputLine → List PlanRow
rows_among [] = []
rows_among (Row row ∷ lines) = row ∷ rows_among lines
rows_among (line ∷ lines) = rows_among lines

-- the rows that the `next`s of a cursor print in a run, one after the other
abbrev pub rows_given : List ℕ → (setting : Setting) (old : State) (script : List ScriptLine) (rises : Rises) (printed : List OutputLine) (new : State)
    → Run setting old script rises printed new → List PlanRow
rows_given name setting old [] rises printed new run = []
rows_given name setting old (line ∷ script) rises printed new run =
    cond (asks name line) (rows_among run.first) [] ++ rows_given name setting run.mid script run.others run.more new run.goes

-- the line is `end`
abbrev pub is_end : OutputLine → Bool
is_end End = true
is_end line = false

-- a `next` of a cursor prints `end` in a run
abbrev pub is_end_given : List ℕ → (setting : Setting) (old : State) (script : List ScriptLine) (rises : Rises) (printed : List OutputLine) (new : State)
    → Run setting old script rises printed new → Bool
is_end_given name setting old [] rises printed new run = false
is_end_given name setting old (line ∷ script) rises printed new run =
    (asks name line && list_any is_end run.first) || is_end_given name setting run.mid script run.others run.more new run.goes

-- The cursor of this name is as it was but for these rows, which it gave, the first of those that were left; and where it gave `end` it is marked, and gave all that were left.
pub record HasGiven (gap : Measure) (name : List ℕ) (old : Cursor) (rows : List PlanRow) (gave_end : Bool) (state : State) : Type 0 where
  pub now : Cursor
  pub found : cursor_named state name ≡ Some now
  pub gave : Gave (length rows) (old.is_ended || gave_end) old now
  pub first : rows ≡ take (length rows) (rows_left gap old)
  pub all : gave_end ≡ true → rows ≡ rows_left gap old

-- through every run that doesn't close it, whatever else its lines are, the `next`s of an open cursor print the following rows of its answer
abbrev pub NextsFollowTheAnswer : Type 0
NextsFollowTheAnswer =
    (setting : Setting) (old new : State) (script : List ScriptLine) (rises : Rises) (printed : List OutputLine)
    → (run : Run setting old script rises printed new) → (name : List ℕ) (cursor : Cursor)
    → cursor_named old name ≡ Some cursor → list_any (closes name) script ≡ false
    → HasGiven setting.gap name cursor (rows_given name setting old script rises printed new run) (is_end_given name setting old script rises printed new run) new

-- after such a run the next `next` of the cursor prints `end` exactly where fewer rows were left than the run printed of them and this one asks for, and it isn't refused
abbrev pub NextsEndWithTheAnswer : Type 0
NextsEndWithTheAnswer =
    (setting : Setting) (own rises : Rises) (old mid new : State) (script : List ScriptLine) (printed lines : List OutputLine)
    → (run : Run setting old script rises printed mid) → (name : List ℕ) (cursor : Cursor)
    → cursor_named old name ≡ Some cursor → list_any (closes name) script ≡ false
    → (count : ℕ) → LineOutcome setting own mid (Says (Next name count)) lines new ⊎ IsRefusedBy why.Memory mid lines new
    → list_any is_end lines
    ≡ nat_lt (length (rows_left setting.gap cursor)) (length (rows_given name setting old script rises printed mid run) + count) && not (list_any is_refused lines)

-- after an `open` that was accepted the `next`s of its cursor print the first rows of the plan's answer, over the database at the opening,
-- through every run that doesn't close it; all of them where one prints `end`
abbrev pub NextsGiveTheAnswer : Type 0
NextsGiveTheAnswer =
    (setting : Setting) (own rises : Rises) (old mid new : State) (name : List ℕ) (p : Plan) (script : List ScriptLine) (printed : List OutputLine)
    → Outcome setting own old (OpenCursor name p) (Accepted ∷ []) mid
    → (run : Run setting mid script rises printed new) → list_any (closes name) script ≡ false
    → (count : ℕ) × (rows_given name setting mid script rises printed new run ≡ take count (answer setting.gap old.database p))
    × (is_end_given name setting mid script rises printed new run ≡ true
    → rows_given name setting mid script rises printed new run ≡ answer setting.gap old.database p)
