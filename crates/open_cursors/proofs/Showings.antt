-- What is written of the first rows of a plan.
use Rattle.std.proofs.Common.{◌≡◌, ◌⊎◌, ℕ, Bool, true, false, List, [], ◌∷◌, Some, None, refl, sym, ◌∙◌, subst, inl, inr, true≢false}
use Rattle.std.specs.Prelude.{Result, Err, IfOk, IfSome, OnErr, if◌then◌else◌}
use Rattle.best_first.proofs.Passing.{read_itself}
use Rattle.best_first.specs.Visits.{told_pages}
use Rattle.output_text.specs.Writing.{Writes, WritesPrefix}
use Rattle.page_pool.specs.Desk.{DeskState}
use Rattle.page_pool.specs.Disk.{PageMap}
use Rattle.page_pool.specs.Pool.{PoolState}
use Rattle.page_pool.specs.Reads.{IsRead}
use Rattle.sand_base.specs.declared.refusal.Refusal.{Refusal}
use Rattle.sand_base.specs.declared.refusal.Refusal.TheVariants as why
use Rattle.sand_base.specs.declared.source.Failed.{Failed}
use Rattle.sand_model.specs.Checks.{check}
use Rattle.sand_model.specs.Cursor.{Cursor, OutputLine, Refused, new_cursor}
use Rattle.sand_model.specs.OutputText.{IsText}
use Rattle.statements.specs.Plan.{Plan}
use Rattle.statements.specs.Statement.{Show}
use Rattle.sand_store.specs.Catalog.{CatalogView}
use Rattle.sand_store.specs.Contents.{database_in}
use Rattle.sand_store.specs.Standing.{CatalogStands, IsStore}
use Rattle.statement_exec.specs.Deciding.{ComesBehind}
use Rattle.open_cursors.proofs.DecidedCursors.{pages_come, passing_decides}
use Rattle.statement_exec.proofs.CountedRows.{rows_so}
use Rattle.open_cursors.specs.Outcomes.{PerformsBeside}
use Rattle.open_cursors.specs.Steps.{IsOfPages}
use Rattle.open_cursors.proofs.PlanOutcomes.{memory_refused, show_refused, show_performs, show_memory}
use Rattle.statement_exec.proofs.Written.{answer_written, writes_so}
use Rattle.open_cursors.specs.Carried.{AreRowLines, RowsOf}
use Rattle.statement_exec.specs.Printing.{WritesOf}

-- what holds over all pages in which the catalog stands holds over the desk's
pub over_store : (catalog : CatalogView) (desk : DeskState) (P : PageMap → Type 0) → IsStore catalog desk.pool
    → ((pages : PageMap) → CatalogStands pages catalog → P pages) → IfSome (told_pages desk) P
over_store catalog desk P s f = go desk.pool.disk.told refl where
  go : (b : Bool) → desk.pool.disk.told ≡ b → IfSome (if b then Some desk.pool.pages else None) P
  go true e = f desk.pool.pages (s.stands e)
  go false e = tt

module _ (catalog : CatalogView) (count : ℕ) (p : Plan) (cs : List Cursor) where
  -- a check fails, or memory does
  pub show_not_started : (pool : PoolState) (a b : List ℕ → Type 0) (w : Refusal) → (w ≡ why.Memory)
      ⊎ ((pages : PageMap) → check (database_in pages catalog.relations) p ≡ Some w) → (r : Result Bool Failed)
      → IfOk r (λ refused. (refused ≡ true) × Writes (IsText (Refused w ∷ [])) a b) → OnErr r (WritesPrefix (IsText (Refused w ∷ [])) a b)
      → WritesOf (PerformsBeside (Show count p) catalog pool pool cs cs) a b r
  show_not_started pool a b w h r line part = answer_written (PerformsBeside (Show count p) catalog pool pool cs cs) a b (Err w) (refuses h) r line part where
    refuses : (w ≡ why.Memory) ⊎ ((pages : PageMap) → check (database_in pages catalog.relations) p ≡ Some w) → PerformsBeside (Show count p) catalog pool pool cs cs (Refused w ∷ [])
    refuses (inl memory) =
        subst (λ (x : Refusal). PerformsBeside (Show count p) catalog pool pool cs cs (Refused x ∷ [])) (sym memory) (memory_refused catalog cs pool pool (read_itself pool) (Show count p))
    refuses (inr fails) = show_refused catalog cs pool pool (read_itself pool) count p w (λ setting. fails pool.pages)

  module _ (old new : PoolState) (read : IsRead old new) (passes : (pages : PageMap) → check (database_in pages catalog.relations) p ≡ None) where
    -- the rows of a new cursor
    rows_shown : (lines : List OutputLine) → RowsOf (new_cursor [] p (database_in old.pages catalog.relations)) count old new lines → PerformsBeside (Show count p) catalog old new cs cs lines
    rows_shown lines (after, inl ended) = show_performs catalog cs old new read count p (λ setting. passes old.pages) ended.0 after lines ended.1 ended.2 ended.3
    rows_shown lines (after, inr memory) = show_memory catalog cs old new read count p (λ setting. passes old.pages) after lines memory.0 memory.1

    -- over a disk that doesn't tell its pages any lines of rows will do
    any_shown : old.disk.told ≡ false → (lines : List OutputLine) → AreRowLines count old new lines → PerformsBeside (Show count p) catalog old new cs cs lines
    any_shown untold lines h = λ files shelf. (
      (
        h.0 files shelf cs cs catalog,
        passing_decides catalog cs cs old new files files shelf shelf (Show count p) refl lines (λ setting. passes old.pages)
            (λ setting. rows_so (λ w. IsOfPages (Some w)) (ComesBehind (Show count p)) (pages_come (Show count p) refl) count lines h.1) refl,
      ),
      λ told. absurd (true≢false (sym told ∙ untold)),
    )

    -- the lines of the rows that were written
    pub show_written : (At : PageMap → Cursor → Type 0) (a b : List ℕ → Type 0) (r : Result Bool Failed) → IsStore catalog old
        → ((pages : PageMap) → CatalogStands pages catalog → (name : List ℕ) → At pages (new_cursor name p (database_in pages catalog.relations)))
        → IfSome (if old.disk.told then Some old.pages else None) (λ pages. (c : Cursor) → At pages c → WritesOf (RowsOf c count old new) a b r) → WritesOf (AreRowLines count old new) a b r
        → WritesOf (PerformsBeside (Show count p) catalog old new cs cs) a b r
    show_written At a b r s stands rows plain = go old.disk.told refl rows where
      go : (t : Bool) → old.disk.told ≡ t → IfSome (if t then Some old.pages else None) (λ pages. (c : Cursor) → At pages c → WritesOf (RowsOf c count old new) a b r)
          → WritesOf (PerformsBeside (Show count p) catalog old new cs cs) a b r
      go true e h =
          writes_so (RowsOf (new_cursor [] p (database_in old.pages catalog.relations)) count old new) (PerformsBeside (Show count p) catalog old new cs cs) a b rows_shown r
          (h (new_cursor [] p (database_in old.pages catalog.relations)) (stands old.pages (s.stands e) []))
      go false e h = writes_so (AreRowLines count old new) (PerformsBeside (Show count p) catalog old new cs cs) a b (any_shown e) r plain
