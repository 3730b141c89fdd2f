-- A line that is too long is refused, and all is as it was.
use Rattle.std.proofs.Common.{◌≡◌, ℕ, Bool, true, false, true≢false, not, List, Option, None, Some, Result, IfSome, IfOk, OnErr, ap, sym, subst, ◌∙◌}
use Rattle.line_exec.proofs.LineSteps.{line_of_long}
use Rattle.line_exec.specs.KeptChanges.{no_changes}
use Rattle.line_exec.specs.LineCarried.{CarriesKept, LineCarried}
use Rattle.open_cursors.specs.OpenCursors.{HaveOwnNames}
use Rattle.output_text.specs.Writing.{Writes, WritesPrefix}
use Rattle.sand_base.specs.declared.refusal.Refusal.TheVariants as why
use Rattle.sand_base.specs.declared.source.Failed.{Failed}
use Rattle.sand_journal.specs.declared.journal.Journal.{Journal}
use Rattle.sand_model.specs.Cursor.{Cursor}
use Rattle.sand_model.specs.OutputText.{IsText}
use Rattle.script_lines.specs.Lines.{is_short_line}
use Rattle.statement_exec.specs.Ending.{refused_line}
use Rattle.statement_exec.specs.Moment.{Moment}

pub long_line : {T : Type 0} → (journal : Option (Journal T)) (m : List Cursor → Moment) (cs : List Cursor) (At : List Cursor → Type 0) → HaveOwnNames cs → At cs → (a b : List ℕ → Type 0) (line : Option (List ℕ)) (is_long : Bool)
    → is_short_line line ≡ not is_long → is_long ≡ true → (r : Result Bool Failed) → IfOk r (λ refused. (refused ≡ true) × Writes (IsText (refused_line (Some why.LineTooLong))) a b)
    → OnErr r (WritesPrefix (IsText (refused_line (Some why.LineTooLong))) a b) → LineCarried (CarriesKept line (no_changes journal)) m m cs a b r At
long_line {T} journal m cs At own at a b None is_long short long r written part = line_of_long journal m cs At own at a b r written part
long_line {T} journal m cs At own at a b (Some line) is_long short long r written part = absurd (true≢false (short ∙ ap not long))

-- a line that isn't too long is in hand
pub short_line : (P : Option (List ℕ) → Type 0) (line : Option (List ℕ)) (found : List ℕ) (is_long : Bool) → is_short_line line ≡ not is_long → is_long ≡ false
    → IfSome line (λ l. found ≡ l) → P (Some found) → P line
short_line P None found is_long short long given h = absurd (true≢false (sym (short ∙ ap not long)))
short_line P (Some line) found is_long short long given h = subst (λ (l : List ℕ). P (Some l)) given h
