-- A run between two of its lines, with the cursors that are open, for the proofs alone.
use Rattle.std.specs.Prelude.{◌≡◌, ⊤, ℕ, ◌+◌, ◌*◌, ◌^◌, Bool, List, Option, Some, None, is_some, length}
use Rattle.line_exec.specs.Keeping.{TakesUpTo, most_kept, tape_count}
use Rattle.line_exec.specs.KeptChanges.{KeepsAll}
use Rattle.line_exec.specs.LineCarried.{most_rows}
use Rattle.line_meaning.specs.Carrying.{FollowsMoment}
use Rattle.open_cursors.specs.Carried.{GaveAtMost}
use Rattle.open_cursors.specs.OpenCursors.{AreHeld, HaveOwnNames}
use Rattle.open_cursors.specs.OverPages.{StandOver}
use Rattle.open_cursors.specs.declared.open_cursor.OpenCursor.{OpenCursor}
use Rattle.plan_ops.specs.declared.source.Source.{Source}
use Rattle.plan_ops.specs.declared.stage.Stage.{Stage}
use Rattle.sand_base.specs.Shelf.{Files}
use Rattle.sand_journal.specs.ChangeBody.{ChangeValue}
use Rattle.sand_journal.specs.Tape.{TapeView}
use Rattle.sand_journal.specs.declared.journal.Journal.{Journal}
use Rattle.sand_model.specs.Cursor.{Cursor, State}
use Rattle.sand_store.specs.Catalog.{StoreState}
use Rattle.script_lines.specs.Reading.{ReadsLines}
use Rattle.script_lines.specs.declared.script_lines.ScriptLines.{ScriptLines}
use Rattle.statement_exec.specs.Moment.{Moment, while_open}
use Rattle.session.specs.RunStates.{Leads, IsBetweenLines, RunState, run_state}

-- the reader has read some of its script, and has given so many lines of it
pub record HasGivenLines (reader : ScriptLines) (left : Option (List ℕ)) (count : ℕ) : Type 0 where
  pub bytes : List ℕ
  pub given : List (List ℕ)
  pub reads : ReadsLines reader left bytes given
  pub counted : length given ≡ count

-- where a run stands: the reader and what is left of the script, the store, the shelf's files and count, the open cursors, whether a line was refused, and what the sink took
pub record Spot : Type 1 where
  pub reader : ScriptLines
  pub left : Option (List ℕ)
  pub store : StoreState
  pub files : Option Files
  pub shelf : ℕ
  pub items : List (OpenCursor Source Stage)
  pub refused : Bool
  pub took : List ℕ → Type 0

-- the spot of these
abbrev pub spot_of : ScriptLines → Option (List ℕ) → StoreState → Option Files → ℕ → List (OpenCursor Source Stage) → Bool → (List ℕ → Type 0) → Spot
spot_of reader left store files shelf items refused took =
    record { reader = reader; left = left; store = store; files = files; shelf = shelf; items = items; refused = refused; took = took }

-- the state of a run at a spot, while these cursors are open, with the changes that were kept
abbrev pub state_at : Spot → List Cursor → Option (List ChangeValue) → RunState
state_at at cs kept = run_state at.reader at.left (while_open at.store at.files at.shelf cs) at.refused kept

-- The run went on from its start to this spot: cursors of the model with names of their own stand where the open ones do, each of which has
-- a stamp of its own, and none gave more rows than the lines asked for.
pub record OpenRun (start : RunState) (before : List ℕ → Type 0) (at : Spot) : Type 0 where
  pub cs : List Cursor
  pub own : HaveOwnNames cs
  pub stand : StandOver at.store.pool at.items cs
  pub held : AreHeld at.store.pool.stamps at.items
  pub count : ℕ
  pub counted : HasGivenLines at.reader at.left count
  pub given : GaveAtMost (count * most_rows) cs
  pub kept : Option (List ChangeValue)
  pub goes : Leads IsBetweenLines IsBetweenLines start (state_at at cs kept) before at.took

-- Behind so many lines there is a journal where there was one, it has room for more, and its tape counted no fault.
pub record KeepsJournal {T : Type 0} (seen : T → TapeView) (old new : Option (Journal T)) (count : ℕ) : Type 0 where
  pub there : is_some new ≡ is_some old
  pub takes : TakesUpTo seen (2 ^ 62 + count * most_kept) new
  pub counted : tape_count seen new ≡ tape_count seen old

-- The changes of the lines so far lead from the first moment to this state, and their records were appended to the journal, where there is one.
abbrev pub HasKeptIfAny : {T : Type 0} → (T → TapeView) → Option (Journal T) → Option (Journal T) → Option (List ChangeValue) → Moment → State → Type 0
HasKeptIfAny seen None new kept first state = ⊤
HasKeptIfAny seen (Some old) (Some new) (Some changes) first state = KeepsAll seen old new changes first state (λ P. P)
HasKeptIfAny seen (Some old) _ _ first state = ⊥

-- The moment follows the first, and these changes of the lines so far are kept.
pub record HasKept {T : Type 0} (seen : T → TapeView) (old new : Option (Journal T)) (kept : Option (List ChangeValue)) (first now : Moment) : Type 0 where
  pub follows : FollowsMoment first now
  pub keeps : HasKeptIfAny seen old new kept first now.state
