-- Lines that were written: one, or those up to a refusal.
use Rattle.std.proofs.Common.{◌≡◌, ℕ, Bool, List, ◌++◌, Option, Some, sym, subst}
use Rattle.std.specs.Prelude.{Result, Ok, Err, IfOk, OnErr}
use Rattle.output_text.specs.Writing.{Writes, WritesPrefix}
use Rattle.sand_base.specs.declared.refusal.Refusal.{Refusal}
use Rattle.sand_base.specs.declared.refusal.Refusal.TheVariants as why
use Rattle.sand_base.specs.declared.source.Failed.{Failed}
use Rattle.page_pool.specs.Pool.{PoolState}
use Rattle.sand_model.specs.Cursor.{Cursor}
use Rattle.statements.specs.declared.column.Column.{Column}
use Rattle.statements.specs.Statement.{Blocks}
use Rattle.sand_store.specs.Catalog.{CatalogView}
use Rattle.open_cursors.specs.Outcomes.{PerformsBeside}
use Rattle.sand_model.specs.OutputText.{IsText}
use Rattle.statement_exec.specs.Ending.{PagesHaveCause, ReadsStatement, is_refusal, refused_line}
use Rattle.statement_exec.specs.Moment.{beside}
use Rattle.statement_exec.proofs.CausedLines.{HasItsCause, caused_up_to}
use Rattle.statement_exec.proofs.CountedRows.{rows_caused, rows_so}
use Rattle.statement_exec.specs.Deciding.{PrintsRowsUpTo}
use Rattle.statement_exec.specs.Printing.{PrintsSome, WritesOf}
use Rattle.statement_exec.proofs.Written.{ending_written, writes_so}
use Rattle.open_cursors.proofs.CausedSteps.{pages_no_file}
use Rattle.open_cursors.specs.Steps.{IsOfPages, WritesRows}
use Rattle.open_cursors.specs.Carried.{AreRowLines}

module _ (count : ℕ) (old new : PoolState) (told : new.disk.told ≡ old.disk.told) (a b : List ℕ → Type 0) where
  -- lines of rows, and the line of a refusal that has its cause
  pub rows_written : (c : List ℕ → Type 0) (end : Option Refusal) → PagesHaveCause {E = Failed} old new (Ok end) → IsOfPages end → WritesRows count a b (Ok end) → (r : Result Bool Failed)
      → IfOk r (λ refused. (refused ≡ is_refusal end) × Writes (IsText (refused_line end)) b c) → OnErr r (WritesPrefix (IsText (refused_line end)) b c) → WritesOf (AreRowLines count old new) a c r
  rows_written c end cause pages w =
      ending_written (AreRowLines count old new) a b c end (record {
        lines = w.lines;
        written = w.written;
        accepted = w.accepted;
        holds = (
          caused_up_to Failed old new w.lines end w.accepted told cause (pages_no_file end pages),
          rows_so (λ refusal. end ≡ Some refusal) (λ refusal. IsOfPages (Some refusal)) (λ refusal e. subst IsOfPages e pages) count (w.lines ++ refused_line end) w.holds,
        );
      })

  -- a prefix of lines of rows, behind which memory alone may be refused
  pub rows_broken : (failed : Failed) → WritesRows count a b (Err failed) → WritesPrefix (PrintsSome (AreRowLines count old new)) a b
  rows_broken failed w =
      writes_so (PrintsRowsUpTo (λ refusal. refusal ≡ why.Memory) count) (AreRowLines count old new) a b
      (λ lines h. (
        (λ files shelf cs cs' catalog.
            rows_caused (beside cs catalog old files shelf) (beside cs' catalog new files shelf) (λ refusal. refusal ≡ why.Memory)
            (λ refusal e. subst (HasItsCause (beside cs catalog old files shelf) (beside cs' catalog new files shelf)) (sym e) tt) count lines h),
        rows_so (λ refusal. refusal ≡ why.Memory) (λ refusal. IsOfPages (Some refusal)) (λ refusal e. subst (λ (w : Refusal). IsOfPages (Some w)) (sym e) tt) count lines h,
      )) (Err failed) w

-- the leaves of a column were written, beside these cursors
pub leaves_written : (column : Column) (catalog : CatalogView) (old new : PoolState) (cs : List Cursor) (a b : List ℕ → Type 0) (r : Result Bool Failed)
    → WritesOf (ReadsStatement (Blocks column) catalog old new) a b r → WritesOf (PerformsBeside (Blocks column) catalog old new cs cs) a b r
leaves_written column catalog old new cs a b =
    writes_so (ReadsStatement (Blocks column) catalog old new) (PerformsBeside (Blocks column) catalog old new cs cs) a b
    (λ lines reads files shelf. ((reads cs files shelf).0, λ told disk few setting gap s. (reads cs files shelf).1 told disk few setting s))
