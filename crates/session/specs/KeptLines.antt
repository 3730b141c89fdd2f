-- Which changes are those of the lines of a run: line by line, in their order.
use Rattle.std.specs.Prelude.{◌≡◌, ℕ, List, [], ◌∷◌, ◌++◌, Option, IfSome}
use Rattle.line_exec.specs.LineCarried.{CarriesKept, MakesChanges}
use Rattle.line_meaning.specs.Carrying.{FollowsMoment}
use Rattle.sand_journal.specs.ChangeBody.{ChangeValue}
use Rattle.sand_model.specs.Cursor.{OutputLine, State}
use Rattle.script_lines.specs.Lines.{clipped}
use Rattle.session.specs.Ends.{RunsOver}
use Rattle.statement_exec.specs.Moment.{Moment}

-- Lines were carried out one after the other, from one moment to another, and printed these; the changes are those that each made, in
-- their order.
abbrev pub MakeInOrder : List (List ℕ) → Moment → Moment → List OutputLine → List ChangeValue → Type 0
MakeInOrder [] old new printed changes = (new ≡ old) × (printed ≡ []) × (changes ≡ [])
MakeInOrder (line ∷ lines) old new printed changes =
    (mid : Moment) × (own : List OutputLine) × (others : List OutputLine) × (first : List ChangeValue) × (more : List ChangeValue)
    × MakesChanges (clipped line) old mid own first × FollowsMoment old mid × MakeInOrder lines mid new others more × (printed ≡ own ++ others) × (changes ≡ first ++ more)

-- A run over these lines led from one moment to another and printed these, and where changes are named they are those of its lines.
abbrev pub RunsKept : Option (List ChangeValue) → Moment → Moment → List (List ℕ) → List OutputLine → Type 0
RunsKept kept first last lines printed = RunsOver first last lines printed × IfSome kept (λ changes. MakeInOrder lines first last printed changes)

-- the line in hand was carried out behind a moment, and where its changes are named they are its own
abbrev pub IsInHand : Option (List ChangeValue) → Moment → List ℕ → Type 0
IsInHand kept last line = (state : State) × (printed : List OutputLine) × CarriesKept (clipped line) kept last (record last { state = state }) printed
