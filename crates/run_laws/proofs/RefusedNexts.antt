-- A `next` that prints a refusal moves its own cursor alone, by the rows that it printed.
use Rattle.std.proofs.Common.{◌≡◌, ◌⊎◌, ℕ, true, false, nat_lt, List, length, Some, None, sym, ap, subst, ◌∙◌, inl, inr}
use Rattle.std.specs.List.{list_any}
use Rattle.sand_base.specs.declared.refusal.Refusal.TheVariants as why
use Rattle.sand_model.specs.Cursor.{State, Cursor, OutputLine, Steps}
use Rattle.sand_model.specs.Database.{same_name}
use Rattle.sand_model.specs.Outcome.{Rises, IsLicensed, IsRefusedBy, IsCarriedOut}
use Rattle.sand_model.specs.OutputText.{is_refused}
use Rattle.sand_model.specs.Run.{LineOutcome}
use Rattle.statements.specs.Statement.{Next}
use Rattle.sand_model.specs.ScriptLine.{Says}
use Rattle.sand_model.specs.StatementChecks.{Setting, cursor_named}
use Rattle.run_laws.specs.Following.{rows_left, GoesOnPrinting, rows_among, is_end, HasGiven}
use Rattle.run_laws.specs.Refused.{MovesByItsRows}
use Rattle.run_laws.proofs.CursorsByName.{found_name, found_as_before}
use Rattle.run_laws.proofs.CursorsInRuns.{RefusedWith, refused_or_done, Goes}
use Rattle.run_laws.proofs.NextsOfLines.{and_none}
use Rattle.run_laws.proofs.NextsInRuns.{next_given, next_ends}
use Rattle.run_laws.proofs.StepsFollow.{steps_follow}

module _ (setting : Setting) (rises : Rises) (old new : State) (name : List ℕ) (count : ℕ) (lines : List OutputLine) where
  -- a `next` is refused, or carried out
  either : Goes setting rises old new lines (Says (Next name count)) → RefusedWith old lines new ⊎ IsCarriedOut setting rises old (Next name count) lines new
  either (inr h) = inl (record { refusal = why.Memory; by = h })
  either (inl h) = refused_or_done setting rises old new lines (Next name count) h

  -- a refused one prints no end
  own : list_any is_refused lines ≡ true → Goes setting rises old new lines (Says (Next name count)) → (c : Cursor) → cursor_named old name ≡ Some c
      → HasGiven setting.gap name c (rows_among lines) false new
  own some h c is =
      let ends = next_ends setting rises old new lines name c is count h in
      let unended : list_any is_end lines ≡ false = ends ∙ (rw some (and_none (nat_lt (length (rows_left setting.gap c)) count))) in
      subst (λ mark. HasGiven setting.gap name c (rows_among lines) mark new) unended (next_given setting rises old new lines name c is count h)

  -- the steps of a cursor leave its name
  after_name : (cursor : Cursor) → cursor_named old name ≡ Some cursor → (after : Cursor)
      → Steps setting.gap (IsLicensed setting rises old (Next name count)) count cursor lines after → after.name ≡ name
  after_name cursor found after steps =
      steps_name (steps_follow setting.gap (IsLicensed setting rises old (Next name count)) count cursor lines after steps) ∙ found_name old.cursors name cursor found where
        steps_name : GoesOnPrinting (IsLicensed setting rises old (Next name count)) (rows_left setting.gap cursor) count cursor lines after → after.name ≡ cursor.name
        steps_name (inl (enough, printed, gave)) = gave.name
        steps_name (inr (inl (few, printed, gave))) = gave.name
        steps_name (inr (inr (rows, refusal, m, less, within, printed, gave))) = gave.name

  -- cursors of other names
  others : RefusedWith old lines new ⊎ IsCarriedOut setting rises old (Next name count) lines new → (other : List ℕ) → same_name name other ≡ false
      → cursor_named new other ≡ cursor_named old other
  others (inl r) other n = ap (λ state. cursor_named state other) r.by.1
  others (inr (cursor, found, rest)) other n =
      ap (λ state. cursor_named state other) rest.2 ∙ found_as_before old.cursors name other rest.0 (after_name cursor found rest.0 rest.1) n

  -- where no cursor is open of the name
  none : RefusedWith old lines new ⊎ IsCarriedOut setting rises old (Next name count) lines new → cursor_named old name ≡ None → new ≡ old
  none (inl r) e = r.by.1
  none (inr (cursor, found, rest)) e = let both : Some cursor ≡ None = sym found ∙ e in absurd cc

pub refused_moves : (setting : Setting) (rises : Rises) (old new : State) (name : List ℕ) (count : ℕ) (lines : List OutputLine)
    → LineOutcome setting rises old (Says (Next name count)) lines new ⊎ IsRefusedBy why.Memory old lines new
    → list_any is_refused lines ≡ true → MovesByItsRows setting.gap name lines old new
refused_moves setting rises old new name count lines h some =
    let done = either setting rises old new name count lines h in
    record {
      own = own setting rises old new name count lines some h;
      others = others setting rises old new name count lines done;
      none = none setting rises old new name count lines done;
    }
