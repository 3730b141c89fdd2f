-- What the lines of a script print by what they say, over any disk, and how the outline of the state goes on from line to line.
use Rattle.std.specs.Prelude.{◌≡◌, ◌⊎◌, List, [], ◌∷◌, ◌++◌, Option}
use Rattle.sand_base.specs.Shelf.{Files}
use Rattle.sand_base.specs.declared.refusal.Refusal.TheVariants as why
use Rattle.sand_model.specs.Cursor.{OutputLine, Refused}
use Rattle.sand_model.specs.ScriptLine.{ScriptLine, Blank, TooLong, BadToken, OutOfRange, Says}
use Rattle.sand_model.specs.StatementChecks.{Setting}
use Rattle.statement_exec.specs.Deciding.{Decides}
use Rattle.statement_exec.specs.Moment.{Moment, IsSettingOf}
use Rattle.statement_exec.specs.Outline.{Outline, outline_of}

-- these lines were printed, or that memory was refused
abbrev pub PrintsOrMemory : List OutputLine → List OutputLine → Type 0
PrintsOrMemory lines printed = (printed ≡ lines) ⊎ (printed ≡ Refused why.Memory ∷ [])

-- A line that is passed over prints nothing. One that is too long, has a bad token or is out of range is refused as such. None of these
-- changes the outline. What a statement prints is decided in the outline.
abbrev pub AnswersSaid : Option Files → Setting → Outline → ScriptLine → List OutputLine → Outline → Type 0
AnswersSaid files setting old Blank printed new = PrintsOrMemory [] printed × (new ≡ old)
AnswersSaid files setting old TooLong printed new = (printed ≡ Refused why.LineTooLong ∷ []) × (new ≡ old)
AnswersSaid files setting old (BadToken column) printed new = PrintsOrMemory (Refused (why.Syntax column) ∷ []) printed × (new ≡ old)
AnswersSaid files setting old OutOfRange printed new = PrintsOrMemory (Refused why.Range ∷ []) printed × (new ≡ old)
AnswersSaid files setting old (Says statement) printed new = Decides files setting old statement printed new

-- the lines of a script printed these one after the other, each by what it says in the outline that the lines before it left
abbrev pub AnswerInOrder : Option Files → Setting → Outline → List ScriptLine → List OutputLine → Outline → Type 0
AnswerInOrder files setting old [] printed new = (printed ≡ []) × (new ≡ old)
AnswerInOrder files setting old (told ∷ script) printed new =
    (own : List OutputLine) × (others : List OutputLine) × (mid : Outline) × AnswersSaid files setting old told own mid × AnswerInOrder files setting mid script others new × (printed ≡ own ++ others)

-- in every setting of the first of two moments, between their outlines

-- in every setting of the first of two moments, the line is answered between their outlines
abbrev pub IsAnswered : ScriptLine → Moment → Moment → List OutputLine → Type 0
IsAnswered told old new printed =
    (setting : Setting) → IsSettingOf old setting → AnswersSaid old.files setting (outline_of old.state) told printed (outline_of new.state)

-- in every setting of the first of two moments, the lines are answered between their outlines
abbrev pub AreAnswered : List ScriptLine → Moment → Moment → List OutputLine → Type 0
AreAnswered script old new printed =
    (setting : Setting) → IsSettingOf old setting → AnswerInOrder old.files setting (outline_of old.state) script printed (outline_of new.state)
