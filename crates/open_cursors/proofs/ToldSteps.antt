-- The next rows of a cursor over pages that are told.
use Rattle.std.proofs.Common.{◌≡◌, ℕ, Bool, List, Option}
use Rattle.std.specs.Prelude.{Result, Ok, Err, IfOk, OnErr, IfSome}
use Rattle.output_text.specs.Writing.{Writes, WritesPrefix}
use Rattle.page_pool.specs.Pool.{StampMap}
use Rattle.page_pool.specs.Pool.{PoolState}
use Rattle.page_pool.specs.Reads.{IsRead}
use Rattle.plan_iterator.specs.declared.cursor.RowCursor.{RowCursor}
use Rattle.plan_iterator.specs.Rows.{plan_measure}
use Rattle.sand_base.specs.declared.refusal.Refusal.{Refusal}
use Rattle.sand_base.specs.declared.refusal.Refusal.TheVariants as why
use Rattle.sand_base.specs.declared.source.Failed.{Failed}
use Rattle.sand_model.specs.Cursor.{Cursor, IsRefusedStep}
use Rattle.sand_model.specs.OutputText.{IsText}
use Rattle.statements.specs.Statement.{Next}
use Rattle.sand_store.specs.Catalog.{CatalogView}
use Rattle.statement_exec.specs.Ending.{PagesHaveCause, is_refusal, refused_line}
use Rattle.open_cursors.proofs.StepCalls.{some_so}
use Rattle.open_cursors.specs.OpenCursors.{Places, StandAll, HaveOwnNames, NextOf, named}
use Rattle.open_cursors.specs.declared.open_cursor.OpenCursor.{OpenCursor}
use Rattle.open_cursors.specs.Carried.{CarriesBeside}
use Rattle.open_cursors.proofs.Carrying.{next_carried, next_broken}

module _ {S T : Type 0} (At : Places S T) (told : Option StampMap) (xs ys : List (OpenCursor S T)) (old new : PoolState) (read : IsRead old new) (name : List ℕ) (count : ℕ) where
  -- the next rows of the cursor, whatever the maps
  abbrev pub Steps : (List ℕ → Type 0) → (List ℕ → Type 0) → Result (Option Refusal) Failed → StampMap → Type 0
  Steps a b result stamps = (cs : List Cursor) → HaveOwnNames cs → StandAll At stamps xs cs → NextOf (named cs name) cs name count a b result (λ after. StandAll At stamps ys after)

  -- and with the line of their refusal
  abbrev pub Lines : (List ℕ → Type 0) → (List ℕ → Type 0) → Result Bool Failed → StampMap → Type 0
  Lines a b result stamps = (cs : List Cursor) → HaveOwnNames cs → StandAll At stamps xs cs → (catalog : CatalogView)
      → CarriesBeside (Next name count) catalog old new cs a b result (λ after. StandAll At stamps ys after)

  pub told_carried : (a b d : List ℕ → Type 0) (end : Option Refusal) → PagesHaveCause {E = Failed} old new (Ok end) → (r : Result Bool Failed)
      → IfOk r (λ refused. (refused ≡ is_refusal end) × Writes (IsText (refused_line end)) b d) → OnErr r (WritesPrefix (IsText (refused_line end)) b d)
      → IfSome told (Steps a b (Ok end)) → IfSome told (Lines a d r)
  told_carried a b d end cause r line part =
      some_so told (Steps a b (Ok end)) (Lines a d r)
      (λ stamps steps cs own all catalog. next_carried catalog cs old new read name count own a b d (λ after. StandAll At stamps ys after) end cause (steps cs own all) r line part)

  pub told_broken : (a b : List ℕ → Type 0) (failed : Failed) → ((r : OpenCursor S T) (stamps : StampMap) (c : Cursor) → At r stamps c → IsRefusedStep plan_measure c why.Memory c)
      → IfSome told (Steps a b (Err failed)) → IfSome told (Lines a b (Err failed))
  told_broken a b failed stays =
      some_so told (Steps a b (Err failed)) (Lines a b (Err failed))
      (λ stamps steps cs own all catalog. next_broken catalog cs old new read name count At stamps ys a b failed own (λ r c at. stays r stamps c at) (steps cs own all))
