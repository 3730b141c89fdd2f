-- The next rows of a cursor that has no name.
use Rattle.std.proofs.Common.{◌≡◌, ℕ, Bool, List, Option, inl, inr}
use Rattle.std.specs.Prelude.{Result, Ok, Err, IfOk, OnErr, IfSome}
use Rattle.output_text.specs.Writing.{Writes, WritesPrefix}
use Rattle.page_pool.specs.Disk.{PageMap}
use Rattle.page_pool.specs.Pool.{PoolState}
use Rattle.plan_iterator.specs.Rows.{plan_measure}
use Rattle.sand_base.specs.declared.refusal.Refusal.{Refusal}
use Rattle.sand_base.specs.declared.refusal.Refusal.TheVariants as why
use Rattle.sand_base.specs.declared.source.Failed.{Failed}
use Rattle.sand_model.specs.Cursor.{Cursor, IsRefusedStep}
use Rattle.sand_model.specs.OutputText.{IsText}
use Rattle.statement_exec.proofs.Texts.{breaks_with}
use Rattle.statement_exec.specs.Ending.{PagesHaveCause, WritesUpTo, is_refusal, refused_line}
use Rattle.open_cursors.proofs.StepCalls.{some_so, plain_refused}
use Rattle.open_cursors.specs.Steps.{StepsOn}
use Rattle.open_cursors.specs.Carried.{RowsOf}
use Rattle.statement_exec.specs.Printing.{WritesOf}
use Rattle.open_cursors.proofs.MoreSteps.{more_steps}
use Rattle.statement_exec.proofs.Written.{ending_written, some_written}

module _ (told : Option PageMap) (Before After : PageMap → Cursor → Type 0) (count : ℕ) (old new : PoolState) where
  -- its steps, and the lines of its rows
  abbrev pub Steps : (List ℕ → Type 0) → (List ℕ → Type 0) → Result (Option Refusal) Failed → PageMap → Type 0
  Steps a b result pages = (c : Cursor) → Before pages c → StepsOn c count a b result (After pages)

  abbrev pub Rows : (List ℕ → Type 0) → (List ℕ → Type 0) → Result Bool Failed → PageMap → Type 0
  Rows a b result pages = (c : Cursor) → Before pages c → WritesOf (RowsOf c count old new) a b result

  pub told_rows : (a b d : List ℕ → Type 0) (end : Option Refusal) → PagesHaveCause {E = Failed} old new (Ok end) → (r : Result Bool Failed)
      → IfOk r (λ refused. (refused ≡ is_refusal end) × Writes (IsText (refused_line end)) b d) → OnErr r (WritesPrefix (IsText (refused_line end)) b d)
      → IfSome told (Steps a b (Ok end)) → IfSome told (Rows a d r)
  told_rows a b d end cause r line part = some_so told (Steps a b (Ok end)) (Rows a d r) (λ pages steps c at. write c (After pages) (steps c at)) where
    write : (c : Cursor) (At : Cursor → Type 0) → StepsOn c count a b (Ok end) At → WritesOf (RowsOf c count old new) a d r
    write c At s =
        let up : WritesUpTo (RowsOf c count old new) end a b = record {
          lines = s.steps.lines;
          written = s.steps.written;
          accepted = s.steps.accepted;
          holds = (s.after, inl (end, s.pages, cause, s.steps.holds));
        } in
        ending_written (RowsOf c count old new) a b d end up r line part

  pub told_rows_broken : (a b : List ℕ → Type 0) (failed : Failed) → ((pages : PageMap) (c : Cursor) → After pages c → IsRefusedStep plan_measure c why.Memory c)
      → IfSome told (Steps a b (Err failed)) → IfSome told (Rows a b (Err failed))
  told_rows_broken a b failed stays = some_so told (Steps a b (Err failed)) (Rows a b (Err failed)) (λ pages steps c at. write c (After pages) (stays pages) (steps c at)) where
    write : (c : Cursor) (At : Cursor → Type 0) → ((k : Cursor) → At k → IsRefusedStep plan_measure k why.Memory k) → StepsOn c count a b (Err failed) At
        → WritesOf (RowsOf c count old new) a b (Err failed)
    write c At waits s =
        let some = s.steps in
        elim (more_steps some.1.0 count c some.0 s.after some.1.1 (waits s.after s.at) some.1.2) [
          | inl all ↦ some_written (RowsOf c count old new) a b some.0 (s.after, inr (all, some.1.3)) some.2
          | inr all ↦ breaks_with (RowsOf c count old new) a b some.0 why.Memory (s.after, inr (all, plain_refused some.0 why.Memory some.1.3)) some.2
        ]
