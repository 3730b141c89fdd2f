-- A run: each line of a script has its outcome on the state that the lines before it left.
use Rattle.std.specs.Prelude.{◌≡◌, ◌⊎◌, ℕ, ◌+◌, ◌≤◌, Bool, List, [], ◌∷◌, ◌++◌}
use Rattle.std.specs.List.{list_any}
use Rattle.sand_base.specs.declared.refusal.Refusal.TheVariants as why
use Rattle.sand_model.specs.Cursor.{State, OutputLine}
use Rattle.sand_model.specs.Outcome.{Rises, Outcome, IsRefusedBy}
use Rattle.sand_model.specs.OutputText.{IsText, is_refused}
use Rattle.sand_model.specs.ScriptLine.{ScriptLine, Blank, TooLong, BadToken, OutOfRange, Says}
use Rattle.sand_model.specs.StatementChecks.{Setting}

-- what a line does: one that is passed over prints nothing, one that can't be read is refused
abbrev pub LineOutcome : Setting → Rises → State → ScriptLine → List OutputLine → State → Type 0
LineOutcome setting rises old Blank lines new = (lines ≡ []) × (new ≡ old)
LineOutcome setting rises old TooLong lines new = IsRefusedBy why.LineTooLong old lines new
LineOutcome setting rises old (BadToken column) lines new = IsRefusedBy (why.Syntax column) old lines new
LineOutcome setting rises old OutOfRange lines new = IsRefusedBy why.Range old lines new
LineOutcome setting rises old (Says statement) lines new = Outcome setting rises old statement lines new

-- the rises of a line and of those behind it add up to at most these
pub record FitIn (own others all : Rises) : Type 0 where
  pub disk : own.disk + others.disk ≤ all.disk
  pub shelf : own.shelf + others.shelf ≤ all.shelf

-- the state before the first line
abbrev pub no_state : State
no_state = record { database = []; cursors = [] }

-- the run of a line and of those behind it; memory may be refused at any line
pub record BeginsRun (Goes : Rises → List OutputLine → State → Type 0) (setting : Setting) (old : State) (line : ScriptLine) (rises : Rises) (printed : List OutputLine) : Type 0 where
  pub own : Rises
  pub others : Rises
  pub fit : FitIn own others rises
  pub first : List OutputLine
  pub more : List OutputLine
  pub mid : State
  pub outcome : LineOutcome setting own old line first mid ⊎ IsRefusedBy why.Memory old first mid
  pub goes : Goes others more mid
  pub printed_is : printed ≡ first ++ more

-- the lines of a script were carried out in order, with rises of at most these, and printed these lines
abbrev pub Run : Setting → State → List ScriptLine → Rises → List OutputLine → State → Type 0
Run setting old [] rises printed new = (printed ≡ []) × (new ≡ old)
Run setting old (line ∷ lines) rises printed new =
    BeginsRun (λ others more mid. Run setting mid lines others more new) setting old line rises printed

-- The text of a run over the lines of a script, from no relations and no cursors, and whether a line was refused.
-- It is claimed where the source, the shelf and the sink tell what they hold, the disk tells its pages, and no count of
-- faults reaches its greatest value.
pub record IsRunText (setting : Setting) (script : List ScriptLine) (rises : Rises) (text : List ℕ) (some_refused : Bool) : Type 0 where
  pub printed : List OutputLine
  pub last : State
  pub ran : Run setting no_state script rises printed last
  pub told : IsText printed text
  pub refused : some_refused ≡ list_any is_refused printed
