-- The next rows of a cursor over a disk that doesn't tell its pages: the names of the open cursors decide whether one is unknown.
use Rattle.std.proofs.Common.{◌≡◌, ℕ, Bool, true, false, List, [], map, Option, Some, None, refl, sym, ◌∙◌, ap, subst, true≢false}
use Rattle.std.specs.Prelude.{Result, Ok, Err, IfOk, OnErr, is_err}
use Rattle.output_text.specs.Writing.{Writes, WritesPrefix}
use Rattle.page_pool.specs.Pool.{PoolState}
use Rattle.page_pool.specs.Reads.{IsRead}
use Rattle.sand_base.specs.Streams.{Stays}
use Rattle.sand_base.specs.declared.refusal.Refusal.{Refusal}
use Rattle.sand_base.specs.declared.refusal.Refusal.TheVariants as why
use Rattle.sand_base.specs.declared.source.Failed.{Failed}
use Rattle.sand_model.specs.Cursor.{Cursor, OutputLine}
use Rattle.sand_model.specs.OutputText.{IsText}
use Rattle.statements.specs.Statement.{Next}
use Rattle.sand_model.specs.StatementChecks.{is_there}
use Rattle.sand_store.specs.Catalog.{CatalogView}
use Rattle.statement_exec.proofs.Texts.{writes_none, writes_then_stays}
use Rattle.statement_exec.specs.Deciding.{ComesBehind}
use Rattle.statement_exec.specs.Ending.{PagesHaveCause, WritesUpTo, is_refusal, refused_line}
use Rattle.open_cursors.proofs.DecidedCursors.{pages_come, passing_decides}
use Rattle.statement_exec.proofs.CountedRows.{rows_so}
use Rattle.open_cursors.proofs.OpenNames.{named_open, not_there}
use Rattle.open_cursors.specs.OpenCursors.{AnswersNext, AreNamed, HaveOwnNames, is_open, named}
use Rattle.open_cursors.specs.Outcomes.{PerformsBeside}
use Rattle.open_cursors.specs.Steps.{IsOfPages, WritesRows}
use Rattle.open_cursors.specs.declared.open_cursor.OpenCursor.{OpenCursor}
use Rattle.open_cursors.specs.Carried.{AreRowLines, CarriesBeside}
use Rattle.statement_exec.specs.Printing.{WritesOf}
use Rattle.open_cursors.proofs.Carrying.{unknown_performs}
use Rattle.open_cursors.proofs.Given.{most_more}
use Rattle.open_cursors.proofs.Written.{rows_written, rows_broken}
use Rattle.statement_exec.proofs.Written.{ending_written, writes_so}

module _ (catalog : CatalogView) (cs : List Cursor) (old new : PoolState) (read : IsRead old new) (name : List ℕ) (count : ℕ) (untold : old.disk.told ≡ false) where
  abbrev Performed : List OutputLine → Type 0
  Performed = PerformsBeside (Next name count) catalog old new cs cs

  -- a cursor has the name, so any lines of rows will do
  rows_perform : is_there (named cs name) ≡ true → (lines : List OutputLine) → AreRowLines count old new lines → Performed lines
  rows_perform there lines rows = λ files shelf. (
    (
      rows.0 files shelf cs cs catalog,
      passing_decides catalog cs cs old new files files shelf shelf (Next name count) refl lines (λ setting. rw there refl)
          (λ setting. rows_so (λ w. IsOfPages (Some w)) (ComesBehind (Next name count)) (pages_come (Next name count) refl) count lines rows.1) refl,
    ),
    λ told. absurd (true≢false (sym told ∙ untold)),
  )

  module _ {S T : Type 0} (xs ys : List (OpenCursor S T)) (own : HaveOwnNames cs) (all : AreNamed xs cs)
      (kept : map (λ (y : OpenCursor S T). y.name) ys ≡ map (λ (x : OpenCursor S T). x.name) xs) where
    -- the cursors are as they were, by their names
    unmoved : (a b : List ℕ → Type 0) (r : Result Bool Failed) → WritesOf Performed a b r → CarriesBeside (Next name count) catalog old new cs a b r (AreNamed ys)
    unmoved a b r writes = record { after = cs; own = own; at = all ∙ sym kept; given = λ bound few. most_more bound count cs few; writes = writes }

    inside : Refusal → Result (Option Refusal) Failed → Option Refusal
    inside w (Ok end) = end
    inside w (Err failed) = Some w

    -- rows up to a refusal, and its line
    pub next_by_name : (a b d : List ℕ → Type 0) (end : Option Refusal) → PagesHaveCause {E = Failed} old new (Ok end) → AnswersNext (is_open xs name) (Ok end)
        → (is_open xs name ≡ false → Stays a b) → (is_open xs name ≡ true → WritesRows count a b (Ok end)) → (r : Result Bool Failed)
        → IfOk r (λ refused. (refused ≡ is_refusal end) × Writes (IsText (refused_line end)) b d) → OnErr r (WritesPrefix (IsText (refused_line end)) b d)
        → CarriesBeside (Next name count) catalog old new cs a d r (AreNamed ys)
    unfolding inside
    next_by_name a b d end cause answers silent rows r line part = unmoved a d r (go (is_open xs name) refl answers) where
      none_up : end ≡ Some why.UnknownCursor → named cs name ≡ None → Stays a b → WritesUpTo Performed end a b
      none_up e is stay = subst (λ (x : Option Refusal). WritesUpTo Performed x a b) (sym e) (record {
        lines = [];
        written = writes_then_stays a a b (IsText []) (writes_none a) stay;
        accepted = refl;
        holds = unknown_performs catalog cs old new read name count is;
      })

      go : (t : Bool) → is_open xs name ≡ t → AnswersNext t (Ok end) → WritesOf Performed a d r
      go true e pages = writes_so (AreRowLines count old new) Performed a d (rows_perform (named_open xs cs name all ∙ e)) r
          (rows_written count old new read.told a b d end cause pages (rows e) r line part)
      go false e unknown =
          ending_written Performed a b d end (none_up (ap (inside why.UnknownCursor) unknown) (not_there (named cs name) (named_open xs cs name all ∙ e)) (silent e)) r line part

    -- rows where the sink failed
    pub next_broken_by_name : (a b : List ℕ → Type 0) (failed : Failed) → AnswersNext (is_open xs name) (Err failed) → (is_open xs name ≡ true → WritesRows count a b (Err failed))
        → CarriesBeside (Next name count) catalog old new cs a b (Err failed) (AreNamed ys)
    next_broken_by_name a b failed answers broken = unmoved a b (Err failed) (go (is_open xs name) refl answers) where
      go : (t : Bool) → is_open xs name ≡ t → AnswersNext t (Err failed) → WritesOf Performed a b (Err failed)
      go true e pages = writes_so (AreRowLines count old new) Performed a b (rows_perform (named_open xs cs name all ∙ e)) (Err failed) (rows_broken count old new read.told a b failed (broken e))
      go false e unknown = absurd (true≢false (ap (λ (x : Result (Option Refusal) Failed). is_err x) unknown))
