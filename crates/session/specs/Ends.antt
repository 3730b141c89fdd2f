-- How a run may end: the whole promise, by the status.
use Rattle.std.specs.Prelude.{◌≡◌, ◌≢◌, ⊤, ℕ, ◌+◌, ◌≤◌, Bool, true, false, List, [], ◌∷◌, ◌++◌, length, take, Option}
use Rattle.std.specs.Io.KnownBytes.{Consumes, IsAtEnd}
use Rattle.clap.specs.Words.{fault_of}
use Rattle.page_pool.specs.declared.fault.PageFault.{PageFault}
use Rattle.page_pool.specs.declared.fault.PageFault.TheVariants as page
use Rattle.run_words.specs.Command.{sand_app}
use Rattle.sand_base.specs.Faults.{next_count}
use Rattle.sand_base.specs.Streams.{Stays}
use Rattle.sand_base.specs.declared.limits.Limits.{Limits}
use Rattle.sand_model.specs.Cursor.{State, OutputLine}
use Rattle.sand_model.specs.Run.{no_state}
use Rattle.sand_model.specs.ScriptLine.{ScriptLine}
use Rattle.output_text.specs.Writing.{Writes, WritesPrefix}
use Rattle.script_lines.specs.Lines.{lines, ended_lines}
use Rattle.script_lines.specs.declared.TheConstants.{LONGEST_SCRIPT}
use Rattle.line_meaning.specs.Carrying.{InEach}
use Rattle.line_meaning.specs.Said.{AreAnswered}
use Rattle.line_meaning.specs.ShelfRun.{ShelfRun}
use Rattle.line_meaning.specs.Spoken.{AreLines}
use Rattle.statement_exec.specs.Causes.{AreCaused}
use Rattle.statement_exec.specs.Moment.{Moment, rises_between}
use Rattle.statement_exec.specs.Printing.{Prints, PrintsSome}
use Rattle.session.specs.Outside.{SourceView, SinkView, Outside}
use Rattle.session.specs.declared.status.Status.{Status}
use Rattle.session.specs.declared.status.Status.TheVariants as status

-- The lines say this script. These lines of output, whose refusals from outside have their causes and which each line of the script printed
-- as it is decided in the outline that the lines before it left, are those of a run over the shelf that led from one moment to another; the
-- run where the disk tells its pages and no count is at its end.
abbrev pub RunsOver : Moment → Moment → List (List ℕ) → List OutputLine → Type 0
RunsOver old new lines printed =
    (script : List ScriptLine) × AreLines lines script × AreCaused old new printed × AreAnswered script old new printed
    × InEach old new (λ setting. ShelfRun old.files setting old.state script (rises_between old new) printed new.state)

-- what is said of lines that were carried out, and of the lines of output that they printed
abbrev pub OfLines : Type 1
OfLines = List (List ℕ) → List OutputLine → Type 0

-- these lines were carried out so, the text that they printed was written, and the mark says whether a line was refused
abbrev pub WritesRun : OfLines → List (List ℕ) → Bool → SinkView → SinkView → Type 0
WritesRun Runs script some_refused before now = Writes (Prints (Runs script) some_refused) before.took now.took

-- the first of these lines were carried out so, and a prefix of the text that they printed was written
pub record BreaksRun (Runs : OfLines) (script : List (List ℕ)) (before now : SinkView) : Type 0 where
  pub carried_out : List (List ℕ)
  pub others : List (List ℕ)
  pub first_of : script ≡ carried_out ++ others
  pub prefix : WritesPrefix (PrintsSome (Runs carried_out)) before.took now.took

-- these bytes were read of the script, and have what is said of them
abbrev pub HasRead : Option (List ℕ) → Option (List ℕ) → (List ℕ → Type 0) → Type 0
HasRead before left P = (bytes : List ℕ) × Consumes before left bytes × P bytes

-- the source is at its end: the bytes read are its whole script, which isn't too long and has what is said of it
abbrev pub HasReadAll : Option (List ℕ) → Option (List ℕ) → (List ℕ → Type 0) → Type 0
HasReadAll before left P = IsAtEnd left × HasRead before left (λ bytes. (length bytes ≤ LONGEST_SCRIPT) × P bytes)

-- The lines before one of these were carried out so, and the text that they printed was written; the one is in hand, and of it the second
-- holds.
pub record StopsBefore (Runs : OfLines) (Hand : List ℕ → Type 0) (script : List (List ℕ)) (before now : SinkView) : Type 0 where
  pub carried_out : List (List ℕ)
  pub in_hand : List ℕ
  pub others : List (List ℕ)
  pub first_of : script ≡ carried_out ++ in_hand ∷ others
  pub hand : Hand in_hand
  pub written : Writes (PrintsSome (Runs carried_out)) before.took now.took

-- What a run leaves, by its status, of the source and the sink, where the first is said of the lines carried out. With `Done` and `SomeRefused`
-- the text of a run over all lines was written, and no line or some line was refused. With `ReadFault` and `ScriptTooLong`
-- that of the lines which a line feed ended among the bytes read (the one byte too many isn't among them). With `WriteFault`
-- a prefix of the text of the lines carried out, which are the first of those read; with `JournalFault` the text of the
-- lines before the one in hand, of which the second is said: its change was made and isn't told.
abbrev pub EndsBetween : Status → OfLines → (List ℕ → Type 0) → SourceView → SourceView → SinkView → SinkView → Type 0
EndsBetween status.Done Runs Hand before left sink sink' =
    HasReadAll before.left left.left (λ bytes. WritesRun Runs (lines bytes) false sink sink')
EndsBetween status.SomeRefused Runs Hand before left sink sink' =
    HasReadAll before.left left.left (λ bytes. WritesRun Runs (lines bytes) true sink sink')
EndsBetween status.ReadFault Runs Hand before left sink sink' =
    HasRead before.left left.left (λ bytes. (length bytes ≤ LONGEST_SCRIPT)
    × (some_refused : Bool) × WritesRun Runs (ended_lines bytes) some_refused sink sink')
EndsBetween status.ScriptTooLong Runs Hand before left sink sink' =
    HasRead before.left left.left (λ bytes. (length bytes ≡ LONGEST_SCRIPT + 1)
    × (some_refused : Bool) × WritesRun Runs (ended_lines (take LONGEST_SCRIPT bytes)) some_refused sink sink')
EndsBetween status.WriteFault Runs Hand before left sink sink' =
    HasRead before.left left.left (λ bytes. (length bytes ≤ LONGEST_SCRIPT + 1) × BreaksRun Runs (lines bytes) sink sink')
EndsBetween status.JournalFault Runs Hand before left sink sink' =
    HasRead before.left left.left (λ bytes. (length bytes ≤ LONGEST_SCRIPT + 1) × StopsBefore Runs Hand (lines bytes) sink sink')
EndsBetween _ Runs Hand before left sink sink' = ⊥

-- the moment before the first line; whether the disk tells is read off the disk that is handed back
abbrev pub first_moment : Limits → Outside → Outside → Moment
first_moment limits old new = record {
  state = no_state;
  limits = limits;
  told = new.disk.told;
  disk = old.disk.faults;
  files = old.shelf.files;
  shelf = old.shelf.faults;
}

-- the moment after the last line, with this state
abbrev pub last_moment : Limits → Outside → Outside → State → Moment
last_moment limits old new state = record {
  state = state;
  limits = limits;
  told = new.disk.told;
  disk = new.disk.faults;
  files = old.shelf.files;
  shelf = new.shelf.faults;
}

-- nothing was read of the script or of the shelf, and nothing was written
pub record IsUntouched (old new : Outside) : Type 0 where
  pub source : new.source.left ≡ old.source.left
  pub files : new.shelf.files ≡ old.shelf.files
  pub shelf : new.shelf.faults ≡ old.shelf.faults
  pub sink : Stays old.sink.took new.sink.took

-- the promise of a run that began to read in one state and ended in another
abbrev pub EndsTo : State → State → Status → Limits → Outside → Outside → Type 0
EndsTo start last ended limits old new =
    EndsBetween ended (RunsOver (record (first_moment limits old new) { state = start }) (last_moment limits old new last)) (λ line. ⊤) old.source new.source old.sink new.sink

-- the promise of a run that began to read in this state
abbrev pub EndsFrom : State → Status → Limits → Outside → Outside → Type 0
EndsFrom start ended limits old new = (last : State) × EndsTo start last ended limits old new

-- the whole promise, by the status, over what is outside before and after the run
abbrev pub Ends : Status → Limits → Outside → Outside → Type 0
Ends status.Usage limits old new = IsUntouched old new × (new.disk.faults ≡ old.disk.faults)
Ends status.NoMemory limits old new = IsUntouched old new × (new.disk.faults ≡ old.disk.faults)
Ends status.DiskNotStarted limits old new = IsUntouched old new × (new.disk.faults ≡ next_count old.disk.faults)
Ends status.JournalFault limits old new = ⊥
Ends ended limits old new = EndsFrom no_state ended limits old new

-- the source's count after a run of this status
abbrev pub source_after : Status → ℕ → ℕ
source_after status.ReadFault n = next_count n
source_after _ n = n

-- the sink's count after a run of this status
abbrev pub sink_after : Status → ℕ → ℕ
sink_after status.WriteFault n = next_count n
sink_after _ n = n

-- the tape's count after the script of a run that ended with this status
abbrev pub tape_after : Status → ℕ → ℕ
tape_after status.JournalFault n = next_count n
tape_after _ n = n

-- Why a run ended so: a fault of a stream only where its count rose, and no other status where one rose.
pub record IsCaused (ended : Status) (source source' sink sink' : ℕ) : Type 0 where
  pub of_source : source' ≡ source_after ended source
  pub of_sink : sink' ≡ sink_after ended sink

-- the command takes the words, or `Usage` says that it doesn't; with `NoMemory` nothing is said
abbrev pub AreJudged : Status → List (List ℕ) → Type 0
AreJudged status.Usage words = fault_of sand_app words ≢ []
AreJudged status.NoMemory words = ⊤
AreJudged _ words = fault_of sand_app words ≡ []

-- the status is one of a run that began to read
abbrev pub HasBegun : Status → Type 0
HasBegun status.Usage = ⊥
HasBegun status.NoMemory = ⊥
HasBegun status.DiskNotStarted = ⊥
HasBegun status.JournalBad = ⊥
HasBegun status.ReplayFault = ⊥
HasBegun status.ReplayDamaged = ⊥
HasBegun _ = ⊤

-- the status of a run whose store was refused by the disk or by memory
abbrev pub status_of : PageFault → Status
status_of page.Memory = status.NoMemory
status_of _ = status.DiskNotStarted

-- a store wasn't started: the disk's count stays where memory was refused, and else it failed once
abbrev pub IsNotStarted : Status → ℕ → ℕ → Type 0
IsNotStarted status.NoMemory before now = now ≡ before
IsNotStarted status.DiskNotStarted before now = now ≡ next_count before
IsNotStarted _ before now = ⊥

-- the words were taken
abbrev pub IsTaken : Status → Type 0
IsTaken status.Usage = ⊥
IsTaken status.JournalFault = ⊥
IsTaken status.JournalBad = ⊥
IsTaken status.ReplayFault = ⊥
IsTaken status.ReplayDamaged = ⊥
IsTaken _ = ⊤

-- the limits of a plain run
abbrev pub standard_limits : Limits
standard_limits = record { ids = 1000000; listings = 16000000 }

-- no stream counted a fault
pub record IsStill (source source' sink sink' : ℕ) : Type 0 where
  pub of_source : source' ≡ source
  pub of_sink : sink' ≡ sink
