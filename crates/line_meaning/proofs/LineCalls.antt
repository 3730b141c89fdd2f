-- What a line does, from what it says.
use Rattle.std.proofs.Common.{◌≡◌, ◌⊎◌, ℕ, Bool, true, false, true≢false, List, [], ◌∷◌, Option, Some, None, refl, sym, ◌∙◌, ap, subst, inl, inr}
use Rattle.std.specs.Prelude.{Result, Ok, Err}
use Rattle.sand_base.specs.Shelf.{Files}
use Rattle.sand_base.specs.declared.refusal.Refusal.{Refusal}
use Rattle.sand_base.specs.declared.refusal.Refusal.TheVariants as why
use Rattle.sand_model.specs.Cursor.{State, OutputLine, Refused}
use Rattle.sand_model.specs.Outcome.{Rises, Outcome, IsRefusedBy}
use Rattle.sand_model.specs.Run.{LineOutcome}
use Rattle.statements.specs.Statement.{Statement as Spoken, Load, Statement, statement_value}
use Rattle.sand_model.specs.ScriptLine.{ScriptLine, Blank, TooLong, BadToken, OutOfRange, Says as SaysOf}
use Rattle.sand_model.specs.StatementChecks.{Setting}
use Rattle.script_text.specs.declared.parse.LineFault.{LineFault}
use Rattle.script_text.specs.declared.parse.LineFault.TheVariants as fault
use Rattle.statements.specs.declared.statement.Statement as declared
use Rattle.statement_exec.specs.Causes.{BlamesNone}
use Rattle.statement_exec.specs.Moment.{AreTold, Moment, rises_between}
use Rattle.statement_exec.specs.Deciding.{DecidesEarly}
use Rattle.statement_exec.specs.Outline.{outline_of, bare}
use Rattle.statement_exec.specs.Performing.{IsDecided, Performs, ShelfOutcome}
use Rattle.statement_exec.proofs.CausedLines.{caused_inside, caused_none}
use Rattle.statement_exec.proofs.Decided.{found_own, after_refusal, by_memory}
use Rattle.line_meaning.specs.Said.{IsAnswered}
use Rattle.line_meaning.specs.Carrying.{CarriesLine}
use Rattle.line_meaning.specs.Reading.{Says, RefusesLine, IsRefusedSo}
use Rattle.line_meaning.specs.ShelfRun.{FindsFiles}
use Rattle.line_meaning.specs.Spoken.{IsLine, Tells}

-- where the shelf tells its files they are the setting's, so any line may be carried out in it
pub finds_own : (files : Option Files) (setting : Setting) (line : ScriptLine) → AreTold files setting.files → FindsFiles files setting line setting
finds_own files setting (SaysOf (Load relation file header)) told = (setting.files, told, refl)
finds_own files setting _ told = refl

-- an outcome over a shelf is one in the setting that the statement finds
outcome_found : (files : Option Files) (setting : Setting) (rises : Rises) (old : State) (statement : Spoken) (lines : List OutputLine) (new : State)
    → ShelfOutcome files setting rises old statement lines new
    → (own : Setting) × FindsFiles files setting (SaysOf statement) own × Outcome own rises old statement lines new
outcome_found files setting rises old (Load relation file header) lines new (found, told, h) = (record setting { files = found }, (found, told, refl), h)
outcome_found files setting rises old _ lines new h = (setting, refl, h)

-- the line is too long
abbrev is_too_long : ScriptLine → Bool
is_too_long TooLong = true
is_too_long _ = false

-- what a line does in the setting that it finds, or that it is refused as out of memory
abbrev Goes : Moment → Moment → List OutputLine → Setting → ScriptLine → Type 0
Goes old new lines setting told =
    (own : Setting) × FindsFiles old.files setting told own × (LineOutcome own (rises_between old new) old.state told lines new.state ⊎ IsRefusedBy why.Memory old.state lines new.state)

-- what is decided of a statement is what its line says
pub said_decided : (line : List ℕ) (statement : declared.Statement) (told : ScriptLine) (old new : Moment) (lines : List OutputLine) → Says line (Some statement) → IsLine (Some line) told
    → IsDecided (statement_value statement) old new lines → IsAnswered told old new lines
said_decided line statement told old new lines says is h = subst (λ (t : ScriptLine). IsAnswered t old new lines) (sym (says.1 told is)) h

-- a statement's outcome is that of its line
pub of_statement : (line : List ℕ) (statement : declared.Statement) (old new : Moment) (lines : List OutputLine) → Says line (Some statement) → Performs (statement_value statement) old new lines
    → CarriesLine (Some line) old new lines
of_statement line statement old new lines says h = (
  h.0.0,
  λ told is. (
    said_decided line statement told old new lines says is h.0.1,
    λ t disk shelf setting gap s.
        let found = outcome_found old.files setting (rises_between old new) old.state (statement_value statement) lines new.state (h.1 t disk shelf setting s) in
        subst (Goes old new lines setting) (sym (says.1 told is)) (found.0, found.1, inl found.2),
  ),
)

-- a line that is passed over
pub passed_over : (line : List ℕ) (m : Moment) → Says line None → CarriesLine (Some line) m m []
passed_over line m says = (
  caused_none m m,
  λ told is. (
    subst (λ (t : ScriptLine). IsAnswered t m m []) (sym (says told is)) (λ setting s. (inl refl, refl)),
    λ t disk shelf setting gap s. subst (Goes m m [] setting) (sym (says told is)) (setting, refl, inl (refl, refl)),
  ),
)

-- want of memory in the place of a line that isn't too long
memory_said : (line : List ℕ) (m : Moment) (told : ScriptLine) → IsLine (Some line) told → IsAnswered told m m (Refused why.Memory ∷ [])
memory_said line m Blank is = λ setting s. (inr refl, refl)
memory_said line m TooLong is = absurd (not_long is.0 is.2) where
  not_long : (answer : Result (Option Statement) LineFault) → Tells answer TooLong → ⊥
  not_long (Ok None) e = true≢false (ap is_too_long e)
  not_long (Ok (Some s)) e = true≢false (ap is_too_long e)
  not_long (Err (fault.Syntax column)) e = true≢false (ap is_too_long e)
  not_long (Err fault.Range) e = true≢false (ap is_too_long e)
  not_long (Err fault.Memory) e = e
memory_said line m (BadToken column) is = λ setting s. (inr refl, refl)
memory_said line m OutOfRange is = λ setting s. (inr refl, refl)
memory_said line m (SaysOf statement) is = λ setting s. (
  found_own m.files setting statement (λ own. DecidesEarly own (bare (outline_of m.state)) statement (Refused why.Memory ∷ [])) s.files (by_memory setting m.state statement),
  sym (after_refusal (outline_of m.state) statement why.Memory),
)

-- a refusal by what a line says
refused_said : (m : Moment) (told : ScriptLine) (w : Refusal) → IsRefusedSo told w → IsAnswered told m m (Refused w ∷ [])
refused_said m Blank w k = absurd k
refused_said m TooLong w k = absurd k
refused_said m (BadToken column) w k = λ setting s. (inl (ap (λ (r : Refusal). Refused r ∷ []) k), refl)
refused_said m OutOfRange w k = λ setting s. (inl (ap (λ (r : Refusal). Refused r ∷ []) k), refl)
refused_said m (SaysOf s) w k = absurd k

-- a line that can't be read
pub unread : (line : List ℕ) (m : Moment) (w : Refusal) → RefusesLine line w → BlamesNone w → CarriesLine (Some line) m m (Refused w ∷ [])
unread line m w (inl e) none = (
  caused_inside m m w none,
  λ told is. (
    subst (λ (r : Refusal). IsAnswered told m m (Refused r ∷ [])) (sym e) (memory_said line m told is),
    λ t disk shelf setting gap s. (setting, finds_own m.files setting told s.files, inr (ap (λ (r : Refusal). Refused r ∷ []) e, refl)),
  ),
)
unread line m w (inr h) none = (
  caused_inside m m w none,
  λ told is. (
    refused_said m told w (h told is),
    λ t disk shelf setting gap s. (setting, finds_own m.files setting told s.files, inl (by_line setting told (h told is))),
  ),
) where
  by_line : (setting : Setting) (told : ScriptLine) → IsRefusedSo told w → LineOutcome setting (rises_between m m) m.state told (Refused w ∷ []) m.state
  by_line setting Blank k = absurd k
  by_line setting TooLong k = absurd k
  by_line setting (BadToken column) k = (ap (λ (r : Refusal). Refused r ∷ []) k, refl)
  by_line setting OutOfRange k = (ap (λ (r : Refusal). Refused r ∷ []) k, refl)
  by_line setting (SaysOf s) k = absurd k

-- a line that is too long
pub too_long : (m : Moment) → CarriesLine None m m (Refused why.LineTooLong ∷ [])
too_long m = (
  caused_inside m m why.LineTooLong tt,
  λ told is. (
    subst (λ (t : ScriptLine). IsAnswered t m m (Refused why.LineTooLong ∷ [])) (sym is) (λ setting s. (refl, refl)),
    λ t disk shelf setting gap s. subst (Goes m m (Refused why.LineTooLong ∷ []) setting) (sym is) (setting, refl, inl (refl, refl)),
  ),
)
