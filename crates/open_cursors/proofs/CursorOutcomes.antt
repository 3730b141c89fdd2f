-- What is done beside open cursors is the outcome of the model.
use Rattle.std.proofs.Common.{◌≡◌, ℕ, ◌<◌, List, [], ◌∷◌, ◌++◌, Option, Some, None, refl, sym, ◌∙◌, ap, subst, true≢false}
use Rattle.std.specs.Prelude.{Ok, Err, ⊤, is_some}
use Rattle.page_pool.specs.Pool.{PoolState, IsTold}
use Rattle.page_pool.specs.Reads.{IsRead}
use Rattle.plan_iterator.specs.Rows.{plan_measure}
use Rattle.row_output.proofs.StepsAllowed.{steps_allowed}
use Rattle.sand_base.specs.Faults.{last_count}
use Rattle.sand_base.specs.Shelf.{Files}
use Rattle.sand_base.specs.declared.refusal.Refusal.{Refusal}
use Rattle.sand_base.specs.declared.refusal.Refusal.TheVariants as why
use Rattle.sand_base.specs.declared.source.Failed.{Failed}
use Rattle.sand_model.specs.Cursor.{Cursor, OutputLine, Accepted, Refused, Steps, new_cursor}
use Rattle.sand_model.specs.Measure.{Measure}
use Rattle.sand_model.specs.Outcome.{Rises, IsLicensed, replaced, closed}
use Rattle.statements.specs.Plan.{Plan}
use Rattle.statements.specs.Statement.{Statement, Next, CloseCursor, OpenCursor as Opens}
use Rattle.sand_model.specs.StatementChecks.{Setting, early}
use Rattle.sand_store.specs.Catalog.{CatalogView}
use Rattle.sand_store.specs.Contents.{database_in}
use Rattle.statement_exec.proofs.CausedLines.{caused_inside, caused_plain, check_blames_none, end_cause}
use Rattle.statement_exec.proofs.Outcomes.{outcome_done, outcome_early}
use Rattle.statement_exec.proofs.Refusals.{caused, rose}
use Rattle.statement_exec.specs.Deciding.{ComesBehind}
use Rattle.statement_exec.specs.Ending.{IsCausedByPages, PagesHaveCause}
use Rattle.statement_exec.specs.LeafLines.{state_beside}
use Rattle.statement_exec.specs.Moment.{beside, rises_between}
use Rattle.open_cursors.proofs.DecidedCursors.{pages_come, early_decides, passing_decides, close_decides, open_decides}
use Rattle.statement_exec.proofs.CountedRows.{steps_up_to}
use Rattle.open_cursors.proofs.OwnNames.{replaced_names}
use Rattle.open_cursors.proofs.CausedSteps.{cause_of_end, pages_no_file, steps_caused}
use Rattle.open_cursors.specs.OpenCursors.{named}
use Rattle.open_cursors.specs.Outcomes.{PerformsBeside}
use Rattle.open_cursors.specs.Steps.{GivesSteps, IsOfPages}

module _ (catalog : CatalogView) (cs : List Cursor) (old new : PoolState) (read : IsRead old new) (name : List ℕ) (count : ℕ) where
  -- the refusal of a page is licensed
  licensed : (setting : Setting) (files : Option Files) (shelf : ℕ) (cs' : List Cursor) (w : Refusal) → IsOfPages (Some w) → IsCausedByPages old new w → IsTold old → new.disk.faults < last_count
      → early setting (state_beside catalog old.pages cs) (Next name count) ≡ None
      → IsLicensed setting (rises_between (beside cs catalog old files shelf) (beside cs' catalog new files shelf)) (state_beside catalog old.pages cs) (Next name count) w
  licensed setting files shelf cs' why.Memory o c t l e = tt
  licensed setting files shelf cs' why.Device o c t l e = ((refl, e), rose old.disk.faults new.disk.faults (ap (λ (n : ℕ × ℕ). n.0) c.counted) l)
  licensed setting files shelf cs' (why.Damaged n kept read') o c t l e = absurd (true≢false (sym (read.told ∙ t) ∙ c.damaged.damage.untold))
  licensed setting files shelf cs' _ o c t l e = absurd o

  some_is : (a b : Refusal) → Some a ≡ Some b → a ≡ b
  some_is a b e = ap value e where
    value : Option Refusal → Refusal
    value None = a
    value (Some r) = r

  of_end : (setting : Setting) (files : Option Files) (shelf : ℕ) (cs' : List Cursor) (end : Option Refusal) → IsOfPages end
      → PagesHaveCause {E = Failed} old new (Ok end) → IsTold old → new.disk.faults < last_count
      → early setting (state_beside catalog old.pages cs) (Next name count) ≡ None → (r : Refusal) → end ≡ Some r
      → IsLicensed setting (rises_between (beside cs catalog old files shelf) (beside cs' catalog new files shelf)) (state_beside catalog old.pages cs) (Next name count) r
  of_end setting files shelf cs' None o c t l e r k = absurd (true≢false (sym (ap (λ (x : Option Refusal). is_some x) k)))
  of_end setting files shelf cs' (Some w) o c t l e r k =
      subst (λ (x : Refusal). IsLicensed setting (rises_between (beside cs catalog old files shelf) (beside cs' catalog new files shelf)) (state_beside catalog old.pages cs) (Next name count) x)
      (some_is w r k)
      (licensed setting files shelf cs' w o c t l e)

  -- it comes behind the early checks
  end_comes : (end : Option Refusal) → IsOfPages end → (w : Refusal) → end ≡ Some w → ComesBehind (Next name count) w
  end_comes end o w e = pages_come (Next name count) refl w (subst IsOfPages e o)

  -- steps of the cursor of the name
  pub next_performs : (c after : Cursor) (end : Option Refusal) (lines : List OutputLine) → named cs name ≡ Some c → after.name ≡ c.name → IsOfPages end
      → PagesHaveCause {E = Failed} old new (Ok end) → GivesSteps c count after end lines
      → PerformsBeside (Next name count) catalog old new cs (replaced name after cs) lines
  next_performs c after end lines is kept o cause steps = λ files shelf. (
    (
      steps_caused (beside cs catalog old files shelf) (beside (replaced name after cs) catalog new files shelf) plan_measure (λ r. end ≡ Some r)
          (cause_of_end (beside cs catalog old files shelf) (beside (replaced name after cs) catalog new files shelf) end
          (end_cause cs (replaced name after cs) catalog catalog old new read.told files files shelf shelf Failed end cause (pages_no_file end o))) count c lines after steps.0,
      passing_decides catalog cs (replaced name after cs) old new files files shelf shelf (Next name count) (replaced_names cs name c after is kept) lines (λ setting. rw is refl)
          (λ setting. steps_up_to plan_measure (λ r. end ≡ Some r) (ComesBehind (Next name count)) (end_comes end o) count c lines after steps.0 steps.1) refl,
    ),
    λ told disk few setting gap s.
        let cs' : List Cursor = replaced name after cs in
        let passes : early setting (state_beside catalog old.pages cs) (Next name count) ≡ None = rw is refl in
        let may : Refusal → Type 0 = IsLicensed setting (rises_between (beside cs catalog old files shelf) (beside cs' catalog new files shelf))
        (state_beside catalog old.pages cs) (Next name count) in
        let made : Steps plan_measure may count c lines after =
        steps_allowed plan_measure (λ r. end ≡ Some r) may (of_end setting files shelf cs' end o cause told disk passes) count c lines after steps.0 in
        let measured : Steps setting.gap may count c lines after = subst (λ (g : Measure). Steps g may count c lines after) (sym gap) made in
        outcome_done setting (rises_between (beside cs catalog old files shelf) (beside cs' catalog new files shelf)) (state_beside catalog old.pages cs)
        (Next name count) lines (state_beside catalog new.pages cs')
        passes refl (c, is, (after, measured, ap (λ m. state_beside catalog m cs') read.pages)),
  )

  -- no cursor has the name
  pub next_unknown : named cs name ≡ None → PerformsBeside (Next name count) catalog old old cs cs (Refused why.UnknownCursor ∷ [])
  next_unknown is = λ files shelf. (
    (
      caused_inside (beside cs catalog old files shelf) (beside cs catalog old files shelf) why.UnknownCursor tt,
      early_decides catalog cs cs old old files files shelf shelf (Next name count) refl why.UnknownCursor (λ setting. rw is refl),
    ),
    λ told disk few setting gap s.
        let fails : early setting (state_beside catalog old.pages cs) (Next name count) ≡ Some why.UnknownCursor = rw is refl in
        outcome_early setting (rises_between (beside cs catalog old files shelf) (beside cs catalog old files shelf)) (state_beside catalog old.pages cs) (Next name count)
        (Refused why.UnknownCursor ∷ []) (state_beside catalog old.pages cs)
        why.UnknownCursor fails tt (refl, refl),
  )

module _ (catalog : CatalogView) (cs : List Cursor) (pool : PoolState) (name : List ℕ) where
  -- the cursor of the name is closed, or none has it

  pub close_performs : (c : Cursor) → named cs name ≡ Some c → PerformsBeside (CloseCursor name) catalog pool pool cs (closed name cs) (Accepted ∷ [])
  close_performs c is = λ files shelf. (
    (
      caused_plain (beside cs catalog pool files shelf) (beside (closed name cs) catalog pool files shelf) (Accepted ∷ []) refl,
      close_decides catalog cs pool name files shelf (λ setting. rw is refl),
    ),
    λ told disk few setting gap s.
        let passes : early setting (state_beside catalog pool.pages cs) (CloseCursor name) ≡ None = rw is refl in
        outcome_done setting (rises_between (beside cs catalog pool files shelf) (beside (closed name cs) catalog pool files shelf)) (state_beside catalog pool.pages cs)
        (CloseCursor name) (Accepted ∷ [])
        (state_beside catalog pool.pages (closed name cs)) passes refl (refl, refl),
  )

  pub close_unknown : named cs name ≡ None → PerformsBeside (CloseCursor name) catalog pool pool cs cs (Refused why.UnknownCursor ∷ [])
  close_unknown is = λ files shelf. (
    (
      caused_inside (beside cs catalog pool files shelf) (beside cs catalog pool files shelf) why.UnknownCursor tt,
      early_decides catalog cs cs pool pool files files shelf shelf (CloseCursor name) refl why.UnknownCursor (λ setting. rw is refl),
    ),
    λ told disk few setting gap s.
        let fails : early setting (state_beside catalog pool.pages cs) (CloseCursor name) ≡ Some why.UnknownCursor = rw is refl in
        outcome_early setting (rises_between (beside cs catalog pool files shelf) (beside cs catalog pool files shelf)) (state_beside catalog pool.pages cs)
        (CloseCursor name) (Refused why.UnknownCursor ∷ []) (state_beside catalog pool.pages cs)
        why.UnknownCursor fails tt (refl, refl),
  )

  -- a cursor is opened behind the others
  pub open_performs : (p : Plan) → ((setting : Setting) → early setting (state_beside catalog pool.pages cs) (Opens name p) ≡ None)
      → PerformsBeside (Opens name p) catalog pool pool cs (cs ++ new_cursor name p (database_in pool.pages catalog.relations) ∷ []) (Accepted ∷ [])
  open_performs p passes = λ files shelf. (
    (
      caused_plain (beside cs catalog pool files shelf) (beside (cs ++ new_cursor name p (database_in pool.pages catalog.relations) ∷ []) catalog pool files shelf) (Accepted ∷ []) refl,
      open_decides catalog cs pool name p files shelf passes,
    ),
    λ told disk few setting gap s.
        let all : List Cursor = cs ++ new_cursor name p (database_in pool.pages catalog.relations) ∷ [] in
        outcome_done setting (rises_between (beside cs catalog pool files shelf) (beside all catalog pool files shelf)) (state_beside catalog pool.pages cs) (Opens name p)
        (Accepted ∷ []) (state_beside catalog pool.pages all)
        (passes setting) refl (refl, refl),
  )
