-- What a line does beside open cursors, from what its statement does.
use Rattle.std.proofs.Common.{◌≡◌, ℕ, ◌+◌, ◌≤◌, arith, Bool, true, false, List, [], ◌∷◌, Option, Some, None, refl, sym, subst}
use Rattle.std.specs.Prelude.{Result, Ok, IfOk, OnErr, is_err}
use Rattle.line_meaning.proofs.LineCalls.{of_statement, passed_over, too_long, unread}
use Rattle.line_meaning.specs.Carrying.{CarriesLine}
use Rattle.line_meaning.specs.Reading.{Says, RefusesLine}
use Rattle.open_cursors.proofs.Given.{most_more}
use Rattle.open_cursors.specs.Carried.{CarriesBeside, GaveAtMost, rows_by}
use Rattle.open_cursors.specs.OpenCursors.{HaveOwnNames}
use Rattle.open_cursors.specs.Outcomes.{PerformsBeside, PerformsLowest}
use Rattle.open_cursors.specs.OverPages.{StandOver}
use Rattle.open_cursors.specs.declared.open_cursor.OpenCursor.{OpenCursor}
use Rattle.output_text.specs.Writing.{Writes, WritesPrefix}
use Rattle.plan_ops.specs.declared.source.Source.{Source}
use Rattle.plan_ops.specs.declared.stage.Stage.{Stage}
use Rattle.sand_base.specs.Shelf.{Files}
use Rattle.sand_base.specs.declared.refusal.Refusal.{Refusal}
use Rattle.sand_base.specs.declared.refusal.Refusal.TheVariants as why
use Rattle.sand_base.specs.declared.source.Failed.{Failed}
use Rattle.sand_journal.specs.ChangeBody.{ChangeValue}
use Rattle.sand_journal.specs.declared.journal.Journal.{Journal}
use Rattle.sand_model.specs.Cursor.{Cursor, OutputLine, Refused}
use Rattle.sand_model.specs.OutputText.{IsText}
use Rattle.sand_store.specs.Calls.{Carries}
use Rattle.sand_store.specs.Catalog.{CatalogView, StoreState}
use Rattle.script_text.specs.InRange.{IsInRange}
use Rattle.statements.specs.Statement as statement
use Rattle.statements.specs.Statement.{Statement, statement_value}
use Rattle.statements.specs.declared.statement.Statement as declared
use Rattle.statement_exec.proofs.Texts.{writes_none}
use Rattle.statement_exec.proofs.Written.{answer_written, one_written, writes_so}
use Rattle.statement_exec.specs.Causes.{BlamesNone}
use Rattle.statement_exec.specs.Ending.{refused_line}
use Rattle.statement_exec.specs.Moment.{Moment, beside, while_open}
use Rattle.statement_exec.specs.Performing.{Performs, line_of_answer}
use Rattle.statement_exec.specs.Printing.{WritesOf}
use Rattle.statement_exec.specs.declared.reply.Reply.{Reply}
use Rattle.line_exec.proofs.Moments.{stands_after}
use Rattle.line_exec.proofs.SaidLines.{said_beside}
use Rattle.line_exec.proofs.LineChanges.{none_of_nothing, none_of_refusal}
use Rattle.line_exec.specs.KeptChanges.{no_changes}
use Rattle.line_exec.specs.LineCarried.{CarriesKept, LineCarried}

-- cursors that gave no more than so many gave no more than a greater number
gave_less : (most more : ℕ) (cs : List Cursor) → most ≤ more → GaveAtMost most cs → GaveAtMost more cs
gave_less most more [] less few = tt
gave_less most more (c ∷ cs) less few = let one : c.given ≤ most = few.0 in (omega (arith, one, less), gave_less most more cs less few.1)

-- a statement that is in range asks for no more rows than can be written in 32 bits
asks_few : (statement : Statement) → IsInRange statement → rows_by statement ≤ 4294967295
asks_few (statement.Create relation columns) range = omega arith
asks_few (statement.Insert relation values) range = omega arith
asks_few (statement.Delete relation id) range = omega arith
asks_few (statement.Load relation file header) range = omega arith
asks_few (statement.Index column threshold) range = omega arith
asks_few (statement.Rtree column) range = omega arith
asks_few (statement.OpenCursor cursor p) range = omega arith
asks_few (statement.Next cursor count) range = let most = range.1.most in omega (arith, most)
asks_few (statement.CloseCursor cursor) range = omega arith
asks_few (statement.Show count p) range = omega arith
asks_few (statement.Stats cursor) range = omega arith
asks_few (statement.Far count column goal) range = omega arith
asks_few (statement.Blocks column) range = omega arith

-- the statement, which may have come back, read over a store whose moment is the first one: its line did so
pub line_of_reading : (kept : Option (List ChangeValue)) (line : List ℕ) (statement other : declared.Statement) (mid new : StoreState) (old : List Cursor → Moment) (files : Option Files) (shelf : ℕ)
    (cs : List Cursor) (a b : List ℕ → Type 0)
    (r : Result Bool Failed) (At : List Cursor → Type 0) → Says line (Some statement) → statement_value other ≡ statement_value statement → new.catalog ≡ mid.catalog
    → while_open mid files shelf cs ≡ old cs
    → ((cs' : List Cursor) (printed : List OutputLine) → CarriesLine (Some line) (old cs) (while_open new files shelf cs') printed → CarriesKept (Some line) kept (old cs) (while_open new files shelf cs') printed)
    → CarriesBeside (statement_value other) mid.catalog mid.pool new.pool cs a b r At → LineCarried (CarriesKept (Some line) kept) old (while_open new files shelf) cs a b r At
line_of_reading kept line statement other mid new old files shelf cs a b r At says same alike begins none h =
    let range : IsInRange (statement_value other) = subst (λ (v : Statement). IsInRange v) (sym same) says.0 in
    let few : rows_by (statement_value other) ≤ 4294967295 = asks_few (statement_value other) range in
    record {
      after = h.after;
      own = h.own;
      at = h.at;
      given = λ bound gave. gave_less (bound + rows_by (statement_value other)) (bound + 4294967295) h.after (omega (arith, few)) (h.given bound gave);
      writes = writes_so (PerformsBeside (statement_value other) mid.catalog mid.pool new.pool cs h.after) (CarriesKept (Some line) kept (old cs) (while_open new files shelf h.after)) a b
          (λ lines performs.
          let said : CarriesLine (Some line) (while_open mid files shelf cs) (beside h.after mid.catalog new.pool files shelf) lines =
          said_beside line statement (while_open mid files shelf cs) (beside h.after mid.catalog new.pool files shelf) lines says
          (subst (λ (v : Statement). PerformsLowest v (while_open mid files shelf cs) (beside h.after mid.catalog new.pool files shelf) lines) same (performs files shelf)) in
          none h.after lines
          (subst (λ (m : Moment). CarriesLine (Some line) m (while_open new files shelf h.after) lines) begins
          (subst (λ (k : CatalogView). CarriesLine (Some line) (while_open mid files shelf cs) (beside h.after k new.pool files shelf) lines) (sym alike) said))) r h.writes;
    }

-- the statement changed relations: its line did so, and the open cursors stand where they stood
pub line_of_change : (kept : Option (List ChangeValue)) (line : List ℕ) (statement : declared.Statement) (old new : StoreState) (files files' : Option Files) (shelf shelf' : ℕ) (a b : List ℕ → Type 0)
    (answer : Result Reply Refusal) (r : Result Bool Failed)
    (items : List (OpenCursor Source Stage)) (cs : List Cursor) → Says line (Some statement) → HaveOwnNames cs → Carries old new → StandOver old.pool items cs
    → Performs (statement_value statement) (while_open old files shelf cs) (while_open new files' shelf' cs) (line_of_answer answer ∷ [])
    → IfOk r (λ refused. (refused ≡ is_err answer) × Writes (IsText (line_of_answer answer ∷ [])) a b) → OnErr r (WritesPrefix (IsText (line_of_answer answer ∷ [])) a b)
    → (CarriesLine (Some line) (while_open old files shelf cs) (while_open new files' shelf' cs) (line_of_answer answer ∷ [])
    → CarriesKept (Some line) kept (while_open old files shelf cs) (while_open new files' shelf' cs) (line_of_answer answer ∷ []))
    → LineCarried (CarriesKept (Some line) kept) (while_open old files shelf) (while_open new files' shelf') cs a b r (StandOver new.pool items)
line_of_change kept line statement old new files files' shelf shelf' a b answer r items cs says own carries stand performs written part makes = record {
  after = cs;
  own = own;
  at = stands_after old.pool new.pool carries.told carries.stamps items cs stand;
  given = λ bound gave. most_more bound 4294967295 cs gave;
  writes = answer_written (CarriesKept (Some line) kept (while_open old files shelf cs) (while_open new files' shelf' cs)) a b answer
      (makes (of_statement line statement (while_open old files shelf cs) (while_open new files' shelf' cs) (line_of_answer answer ∷ []) says performs)) r written part;
}

module _ {T : Type 0} (journal : Option (Journal T)) (m : List Cursor → Moment) (cs : List Cursor) (At : List Cursor → Type 0) (own : HaveOwnNames cs) (at : At cs) (a : List ℕ → Type 0) where
  -- a line that leaves all as it was
  unmoved : (line : Option (List ℕ)) (b : List ℕ → Type 0) (r : Result Bool Failed) → WritesOf (CarriesKept line (no_changes journal) (m cs) (m cs)) a b r
      → LineCarried (CarriesKept line (no_changes journal)) m m cs a b r At
  unmoved line b r writes = record { after = cs; own = own; at = at; given = λ bound gave. most_more bound 4294967295 cs gave; writes = writes }

  -- a line that says nothing
  pub line_of_nothing : (line : List ℕ) → Says line None → LineCarried (CarriesKept (Some line) (no_changes journal)) m m cs a a (Ok false) At
  line_of_nothing line says =
      let none : Writes (IsText []) a a = writes_none a in
      unmoved (Some line) a (Ok false) (record {
        text = none.text;
        holds = record { lines = []; holds = none_of_nothing journal line (m cs) says (passed_over line (m cs) says); told = none.holds; refused = refl };
        written = none.written;
      })

  -- a line that can't be read
  pub line_of_refusal : (line : List ℕ) (b : List ℕ → Type 0) (w : Refusal) (r : Result Bool Failed) → RefusesLine line w → BlamesNone w
      → IfOk r (λ refused. (refused ≡ true) × Writes (IsText (refused_line (Some w))) a b) → OnErr r (WritesPrefix (IsText (refused_line (Some w))) a b)
      → LineCarried (CarriesKept (Some line) (no_changes journal)) m m cs a b r At
  line_of_refusal line b w r refuses inside written part =
      unmoved (Some line) b r (one_written (CarriesKept (Some line) (no_changes journal) (m cs) (m cs)) a b (Refused w) true refl
      (none_of_refusal journal (Some line) (m cs) w (unread line (m cs) w refuses inside)) r written part)

  -- a line that is too long
  pub line_of_long : (b : List ℕ → Type 0) (r : Result Bool Failed) → IfOk r (λ refused. (refused ≡ true) × Writes (IsText (refused_line (Some why.LineTooLong))) a b)
      → OnErr r (WritesPrefix (IsText (refused_line (Some why.LineTooLong))) a b)
      → LineCarried (CarriesKept None (no_changes journal)) m m cs a b r At
  line_of_long b r written part = unmoved None b r (one_written (CarriesKept None (no_changes journal) (m cs) (m cs)) a b (Refused why.LineTooLong) true refl
      (none_of_refusal journal None (m cs) why.LineTooLong (too_long (m cs))) r written part)
