-- The next rows of a cursor, printed up to a refusal whose line is still to be printed.
use Rattle.std.specs.Prelude.{◌≡◌, ℕ, ◌≤◌, List, Option, Some, Result, Ok, Err, ⊤, None, All}
use Rattle.output_text.specs.Writing.{WritesPrefix}
use Rattle.plan_iterator.specs.Rows.{plan_measure}
use Rattle.sand_base.specs.declared.refusal.Refusal.{Refusal}
use Rattle.sand_base.specs.declared.refusal.Refusal.TheVariants as why
use Rattle.sand_base.specs.declared.source.Failed.{Failed}
use Rattle.sand_model.specs.Cursor.{Cursor, OutputLine, Steps}
use Rattle.sand_model.specs.OutputText.{IsText}
use Rattle.sand_model.specs.PlainLines.{IsPlainLine}
use Rattle.statement_exec.specs.Deciding.{PrintsRowsUpTo}
use Rattle.statement_exec.specs.Ending.{WritesUpTo}
use Rattle.statement_exec.specs.Printing.{PrintsSome}

-- up to so many steps give these lines, whose rows are plain, and the refusal among them, if there is one, is this one
abbrev pub GivesSteps : Cursor → ℕ → Cursor → Option Refusal → List OutputLine → Type 0
GivesSteps c count after end lines = Steps plan_measure (λ refusal. end ≡ Some refusal) count c lines after × All IsPlainLine lines

-- some steps, no more than so many, give these lines, whose rows are plain
abbrev pub GivesSome : Cursor → ℕ → Cursor → List OutputLine → Type 0
GivesSome c count after lines = (made : ℕ) × (made ≤ count) × Steps plan_measure (λ refusal. ⊥) made c lines after × All IsPlainLine lines

-- the lines of the steps were written, up to a refusal; where the sink failed, a prefix of those of some steps
abbrev pub WritesSteps : Cursor → ℕ → Cursor → (List ℕ → Type 0) → (List ℕ → Type 0) → Result (Option Refusal) Failed → Type 0
WritesSteps c count after before now (Ok end) = WritesUpTo (GivesSteps c count after end) end before now
WritesSteps c count after before now (Err failed) = (lines : List OutputLine) × GivesSome c count after lines × WritesPrefix (IsText lines) before now

-- over any disk the lines of rows were written, no more than so many, up to the end or to a refusal; where the sink failed, a prefix of such
abbrev pub WritesRows : ℕ → (List ℕ → Type 0) → (List ℕ → Type 0) → Result (Option Refusal) Failed → Type 0
WritesRows count before now (Ok end) = WritesUpTo (PrintsRowsUpTo (λ refusal. end ≡ Some refusal) count) end before now
WritesRows count before now (Err failed) = WritesPrefix (PrintsSome (PrintsRowsUpTo (λ refusal. refusal ≡ why.Memory) count)) before now

-- the refusal, where there is one, is of memory or of a page
abbrev pub IsOfPages : Option Refusal → Type 0
IsOfPages None = ⊤
IsOfPages (Some why.Memory) = ⊤
IsOfPages (Some why.Device) = ⊤
IsOfPages (Some (why.Damaged n kept read)) = ⊤
IsOfPages (Some _) = ⊥

-- so it is in an answer
abbrev pub AnswersPages : {E : Type 0} → Result (Option Refusal) E → Type 0
AnswersPages (Ok end) = IsOfPages end
AnswersPages (Err e) = ⊤

-- steps of the cursor of the model were made, and it stands where they lead
pub record StepsOn (c : Cursor) (count : ℕ) (before now : List ℕ → Type 0) (result : Result (Option Refusal) Failed) (At : Cursor → Type 0) : Type 0 where
  pub after : Cursor
  pub at : At after
  pub steps : WritesSteps c count after before now result
  pub pages : AnswersPages result
