-- The states of a run: between two lines of its script, or with a line in hand; and what leads from one to another.
use Rattle.std.specs.Prelude.{◌≡◌, ℕ, ◌+◌, ◌<◌, ◌≤◌, Bool, true, false, not, cond, List, [], ◌∷◌, ◌++◌, length, take, Option, Some, None, IfSome, option_map, Result, Ok, Err, ⊤}
use Rattle.std.specs.Io.KnownBytes.{Consumes, IsAtEnd}
use Rattle.output_text.specs.Writing.{AddsPrefix}
use Rattle.sand_base.specs.Streams.{Adds}
use Rattle.script_lines.specs.Lines.{lines, ended_lines, is_short_line}
use Rattle.script_lines.specs.Reading.{ReadsLines, GivesLine, to_come}
use Rattle.script_lines.specs.declared.TheConstants.{LONGEST_SCRIPT}
use Rattle.script_lines.specs.declared.script_lines.ScriptLines.{ScriptLines}
use Rattle.line_meaning.specs.Carrying.{CarriesLines, FollowsMoment}
use Rattle.sand_model.specs.Cursor.{OutputLine}
use Rattle.statement_exec.specs.Moment.{Moment}
use Rattle.statement_exec.specs.Printing.{Prints, PrintsSome}
use Rattle.sand_journal.specs.ChangeBody.{ChangeValue}
use Rattle.session.specs.Ends.{HasRead, HasReadAll, OfLines, source_after}
use Rattle.session.specs.KeptLines.{IsInHand, MakeInOrder}
use Rattle.line_exec.specs.declared.fault.LineFault.{LineFault}
use Rattle.line_exec.specs.declared.fault.LineFault.TheVariants as fault
use Rattle.session.specs.declared.status.Status.{Status}
use Rattle.session.specs.declared.status.Status.TheVariants as status

-- where a run stands: the reader of its lines, what is left of the script, the moment, whether a line was refused, and the changes kept so
-- far, where a journal keeps them
pub record RunState : Type 0 where
  pub reader : ScriptLines
  pub left : Option (List ℕ)
  pub now : Moment
  pub refused : Bool
  pub kept : Option (List ChangeValue)

-- the state of a reader, with what is left of the script, the moment, whether a line was refused, and the changes kept
abbrev pub run_state : ScriptLines → Option (List ℕ) → Moment → Bool → Option (List ChangeValue) → RunState
run_state reader left now refused kept = record { reader = reader; left = left; now = now; refused = refused; kept = kept }

-- the lines were carried out from one moment to another, and where changes are kept these are theirs
abbrev pub CarriesAll : Option (List ChangeValue) → Moment → Moment → List (List ℕ) → List OutputLine → Type 0
CarriesAll kept first last lines printed = CarriesLines lines first last printed × IfSome kept (λ changes. MakeInOrder lines first last printed changes)

-- changes, and then others, where changes are kept
abbrev pub kept_both : Option (List ChangeValue) → Option (List ChangeValue) → Option (List ChangeValue)
kept_both (Some changes) (Some more) = Some (changes ++ more)
kept_both _ _ = None

-- the changes that were told behind a line that ended the run: with those of the line where the sink failed, and without where the journal did
abbrev pub kept_by : LineFault → Option (List ChangeValue) → Option (List ChangeValue) → Option (List ChangeValue)
kept_by fault.Sink kept own = kept_both kept own
kept_by fault.Journal kept own = kept

-- the changes of such a line that aren't told: none where the sink failed, and its own where the journal did
abbrev pub untold_by : LineFault → Option (List ChangeValue) → Option (List ChangeValue)
untold_by fault.Sink own = option_map (λ changes. []) own
untold_by fault.Journal own = own

-- between two lines: those given so far were carried out from the first moment on, and this is the text of their run
pub record IsBetweenLines (first : Moment) (script : Option (List ℕ)) (text : List ℕ) (at : RunState) : Type 0 where
  pub bytes : List ℕ
  pub given : List (List ℕ)
  pub consumed : Consumes script at.left bytes
  pub reads : ReadsLines at.reader at.left bytes given
  pub follows : FollowsMoment first at.now
  pub printed : Prints (CarriesAll at.kept first at.now given) at.refused text

-- the same with one more line in hand, which isn't carried out yet
pub record HasLineInHand (first : Moment) (script : Option (List ℕ)) (text : List ℕ) (at : RunState) : Type 0 where
  pub bytes : List ℕ
  pub given : List (List ℕ)
  pub consumed : Consumes script at.left bytes
  pub gives : GivesLine at.reader at.left bytes given
  pub follows : FollowsMoment first at.now
  pub printed : Prints (CarriesAll at.kept first at.now given) at.refused text

-- a text was written behind this one, and P holds of both together
abbrev pub GrowsText : (List ℕ → Type 0) → (List ℕ → Type 0) → List ℕ → (List ℕ → Type 0) → Type 0
GrowsText before now text P = (more : List ℕ) × Adds before now more × P (text ++ more)

-- what is said of a run by its first moment, its script, and its text so far
abbrev pub OfRun : Type 1
OfRun = Moment → Option (List ℕ) → List ℕ → Type 0

-- whatever run led to this state between two lines
abbrev pub FromBetweenLines : RunState → OfRun → Type 0
FromBetweenLines old P = (first : Moment) (script : Option (List ℕ)) (text : List ℕ) → IsBetweenLines first script text old → P first script text

-- whatever run led to this state with a line in hand
abbrev pub FromLineInHand : RunState → OfRun → Type 0
FromLineInHand old P = (first : Moment) (script : Option (List ℕ)) (text : List ℕ) → HasLineInHand first script text old → P first script text

-- whatever run led to the old state, of which P holds, went on to the new one, of which Q does, and the text of what was carried out was written
abbrev pub Leads : (Moment → Option (List ℕ) → List ℕ → RunState → Type 0) → (Moment → Option (List ℕ) → List ℕ → RunState → Type 0) → RunState → RunState
    → (List ℕ → Type 0) → (List ℕ → Type 0) → Type 0
Leads P Q old new before now = (first : Moment) (script : Option (List ℕ)) (text : List ℕ) → P first script text old → GrowsText before now text (λ all. Q first script all new)

-- the text is that of the first of these lines, carried out so
pub record IsOfFirst (Runs : OfLines) (script : List (List ℕ)) (text : List ℕ) : Type 0 where
  pub carried_out : List (List ℕ)
  pub others : List (List ℕ)
  pub first_of : script ≡ carried_out ++ others
  pub printed : PrintsSome (Runs carried_out) text

-- the text is that of the lines before one of these, carried out so, and of the one the second holds
pub record IsBeforeHand (Runs : OfLines) (Hand : List ℕ → Type 0) (script : List (List ℕ)) (text : List ℕ) : Type 0 where
  pub carried_out : List (List ℕ)
  pub in_hand : List ℕ
  pub others : List (List ℕ)
  pub first_of : script ≡ carried_out ++ in_hand ∷ others
  pub hand : Hand in_hand
  pub printed : PrintsSome (Runs carried_out) text

-- how a run ended whose text was this before, by the status
abbrev pub EndsText : Status → OfLines → (List ℕ → Type 0) → Option (List ℕ) → Option (List ℕ) → (List ℕ → Type 0) → (List ℕ → Type 0) → List ℕ → Type 0
EndsText status.Done Runs Hand script left before now text =
    GrowsText before now text (λ all. HasReadAll script left (λ bytes. Prints (Runs (lines bytes)) false all))
EndsText status.SomeRefused Runs Hand script left before now text =
    GrowsText before now text (λ all. HasReadAll script left (λ bytes. Prints (Runs (lines bytes)) true all))
EndsText status.ReadFault Runs Hand script left before now text =
    GrowsText before now text (λ all. HasRead script left (λ bytes. (length bytes ≤ LONGEST_SCRIPT)
    × (some_refused : Bool) × Prints (Runs (ended_lines bytes)) some_refused all))
EndsText status.ScriptTooLong Runs Hand script left before now text =
    GrowsText before now text (λ all. HasRead script left (λ bytes. (length bytes ≡ LONGEST_SCRIPT + 1)
    × (some_refused : Bool) × Prints (Runs (ended_lines (take LONGEST_SCRIPT bytes))) some_refused all))
EndsText status.WriteFault Runs Hand script left before now text =
    (more : List ℕ) × AddsPrefix before now more
    × HasRead script left (λ bytes. (length bytes ≤ LONGEST_SCRIPT + 1) × IsOfFirst Runs (lines bytes) (text ++ more))
EndsText status.JournalFault Runs Hand script left before now text =
    GrowsText before now text (λ all. HasRead script left (λ bytes. (length bytes ≤ LONGEST_SCRIPT + 1) × IsBeforeHand Runs Hand (lines bytes) all))
EndsText _ Runs Hand script left before now text = ⊥

-- the same up to this moment, and it follows the first; the changes told are the first ones, and the others those of a line in hand
abbrev pub EndsAt : Status → Moment → Option (List ChangeValue) → Option (List ChangeValue) → Option (List ℕ) → (List ℕ → Type 0) → (List ℕ → Type 0) → OfRun
EndsAt why last kept untold left before now = λ first script text.
    EndsText why (CarriesAll kept first last) (IsInHand untold last) script left before now text × FollowsMoment first last

-- what the end of the lines says of all bytes read and of the lines given, by the status of the run
abbrev pub AreLinesOver : Status → Option (List ℕ) → List ℕ → List (List ℕ) → Type 0
AreLinesOver status.Done left bytes given = IsAtEnd left × (length bytes ≤ LONGEST_SCRIPT) × (lines bytes ≡ given)
AreLinesOver status.ScriptTooLong left bytes given =
    (length bytes ≡ LONGEST_SCRIPT + 1) × (ended_lines (take LONGEST_SCRIPT bytes) ≡ given)
AreLinesOver status.ReadFault left bytes given = (length bytes ≤ LONGEST_SCRIPT) × (ended_lines bytes ≡ given)
AreLinesOver _ left bytes given = ⊥

-- whatever was read and given before, a call read on, and of all this holds
abbrev pub ReaderGoesOn : ScriptLines → Option (List ℕ) → Option (List ℕ) → (List ℕ → List (List ℕ) → Type 0) → Type 0
ReaderGoesOn old before left P = (bytes : List ℕ) (given : List (List ℕ)) → ReadsLines old before bytes given
    → (read : List ℕ) × Consumes before left read × P (bytes ++ read) given

-- the next line is in hand, and the mark says whether it is too long; or there is none, and the status says why
abbrev pub Draws : Result Bool Status → ScriptLines → ScriptLines → Option (List ℕ) → Option (List ℕ) → Type 0
Draws (Ok is_long) old new before left =
    (is_short_line new.line ≡ not is_long) × (to_come new < to_come old) × ReaderGoesOn old before left (λ bytes given. GivesLine new left bytes given)
Draws (Err why) old new before left = ReaderGoesOn old before left (λ bytes given. AreLinesOver why left bytes given)

-- the source's count after the next line was looked for
abbrev pub source_after_draw : Result Bool Status → ℕ → ℕ
source_after_draw (Ok is_long) n = n
source_after_draw (Err why) n = source_after why n

-- the status of a run whose lines are over
abbrev pub ended : Status → Bool → Status
ended status.Done some_refused = cond some_refused status.SomeRefused status.Done
ended other some_refused = other

-- the status says why there is no more line
abbrev pub IsEnd : Status → Type 0
IsEnd status.Done = ⊤
IsEnd status.ReadFault = ⊤
IsEnd status.ScriptTooLong = ⊤
IsEnd _ = ⊥

-- the status of a run that a line ended
abbrev pub status_of_line : LineFault → Status
status_of_line fault.Sink = status.WriteFault
status_of_line fault.Journal = status.JournalFault
