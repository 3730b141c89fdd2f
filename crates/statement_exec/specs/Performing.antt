-- What carrying a statement out does: the outcome of the model, where the disk tells its pages and no count of faults is at its end; and
-- over any disk lines that have their causes and are decided by the checks that need no page. The shelf may be any: a load over one that
-- doesn't tell its data files has the outcome of some files.
use Rattle.std.specs.Prelude.{ℕ, ◌<◌, IsTrue, List, [], ◌∷◌, Option, Result, Ok, Err}
use Rattle.sand_base.specs.Faults.{last_count}
use Rattle.sand_base.specs.Shelf.{Files}
use Rattle.sand_base.specs.declared.refusal.Refusal.{Refusal}
use Rattle.sand_model.specs.Cursor.{Cursor, State, OutputLine, Accepted, Id, Loaded, Refused}
use Rattle.sand_model.specs.Outcome.{Rises, Outcome}
use Rattle.statements.specs.Statement.{Statement, Load}
use Rattle.sand_model.specs.StatementChecks.{Setting}
use Rattle.sand_store.specs.Catalog.{StoreState}
use Rattle.statement_exec.specs.Causes.{AreCaused}
use Rattle.statement_exec.specs.Deciding.{Decides}
use Rattle.statement_exec.specs.Moment.{AreTold, Moment, while_open, rises_between, IsSettingOf}
use Rattle.statement_exec.specs.Outline.{outline_of}
use Rattle.statement_exec.specs.declared.reply.Reply.{Reply}
use Rattle.statement_exec.specs.declared.reply.Reply.TheVariants as reply

-- The outcome of a statement over a shelf: that of the model, but that a load finds data files which the setting may not have, where the shelf doesn't tell its own.
abbrev pub ShelfOutcome : Option Files → Setting → Rises → State → Statement → List OutputLine → State → Type 0
ShelfOutcome files setting rises old (Load relation file header) lines new =
    (found : Files) × AreTold files found × Outcome (record setting { files = found }) rises old (Load relation file header) lines new
ShelfOutcome files setting rises old statement lines new = Outcome setting rises old statement lines new

-- in every setting of the first moment the lines are such as the checks decide in its outline, and the outline of the other moment follows from them
abbrev pub IsDecided : Statement → Moment → Moment → List OutputLine → Type 0
IsDecided statement old new lines = (setting : Setting) → IsSettingOf old setting → Decides old.files setting (outline_of old.state) statement lines (outline_of new.state)

-- the lines have their causes and are decided, over any disk
abbrev pub PerformsAnywhere : Statement → Moment → Moment → List OutputLine → Type 0
PerformsAnywhere statement old new lines = AreCaused old new lines × IsDecided statement old new lines

-- the statement led from one moment to another and gave these lines, over any disk, and as the outcome of the model says, in every setting of the first
abbrev pub Performs : Statement → Moment → Moment → List OutputLine → Type 0
Performs statement old new lines =
    PerformsAnywhere statement old new lines × (IsTrue old.told → new.disk < last_count → new.shelf < last_count → (setting : Setting) → IsSettingOf old setting
    → ShelfOutcome old.files setting (rises_between old new) old.state statement lines new.state)

-- the line of a reply
abbrev pub reply_line : Reply → OutputLine
reply_line reply.Accepted = Accepted
reply_line (reply.Id id) = Id id
reply_line (reply.Loaded rows) = Loaded rows

-- the line of a statement that changes relations: that of its reply, or of its refusal
abbrev pub line_of_answer : Result Reply Refusal → OutputLine
line_of_answer (Ok reply) = reply_line reply
line_of_answer (Err refusal) = Refused refusal

-- a statement that touches no data file was carried out on a store and was answered so, whatever cursors are open and whatever the shelf
abbrev pub ChangesStore : Statement → StoreState → StoreState → Result Reply Refusal → Type 0
ChangesStore statement old new answer =
    (cs : List Cursor) (files : Option Files) (shelf : ℕ) → Performs statement (while_open old files shelf cs) (while_open new files shelf cs) (line_of_answer answer ∷ [])
