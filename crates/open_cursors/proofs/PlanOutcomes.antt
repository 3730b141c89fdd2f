-- What statements with a plan do beside open cursors is the outcome of the model.
use Rattle.std.proofs.Common.{◌≡◌, ◌<◌, ℕ, List, [], ◌∷◌, Option, Some, None, refl, sym, ◌∙◌, ap, subst, true≢false}
use Rattle.std.specs.Prelude.{All, Ok, Err, ⊤, is_some}
use Rattle.page_pool.specs.Pool.{PoolState, IsTold}
use Rattle.page_pool.specs.Reads.{IsRead}
use Rattle.plan_iterator.specs.Rows.{plan_measure}
use Rattle.row_output.proofs.StepsAllowed.{steps_allowed}
use Rattle.sand_base.specs.Faults.{last_count}
use Rattle.sand_base.specs.Shelf.{Files}
use Rattle.sand_base.specs.declared.refusal.Refusal.{Refusal}
use Rattle.sand_base.specs.declared.refusal.Refusal.TheVariants as why
use Rattle.sand_base.specs.declared.source.Failed.{Failed}
use Rattle.sand_model.specs.PlainLines.{IsPlainLine}
use Rattle.sand_model.specs.Cursor.{Cursor, OutputLine, Refused, Steps, new_cursor}
use Rattle.sand_model.specs.Measure.{Measure}
use Rattle.sand_model.specs.Outcome.{IsLicensed}
use Rattle.statements.specs.Plan.{Plan}
use Rattle.statements.specs.Statement.{Statement, Show, OpenCursor as Opens}
use Rattle.sand_model.specs.StatementChecks.{Setting, early}
use Rattle.sand_store.specs.Catalog.{CatalogView}
use Rattle.sand_store.specs.Contents.{database_in}
use Rattle.statement_exec.proofs.Outcomes.{outcome_done, outcome_early, outcome_outside}
use Rattle.statement_exec.proofs.CausedLines.{HasItsCause, caused_inside, check_blames_none, end_cause}
use Rattle.statement_exec.proofs.PlanChecks.{open_refuses, show_refuses}
use Rattle.statement_exec.proofs.Refusals.{caused, rose}
use Rattle.statement_exec.proofs.SomeSetting.{some_setting}
use Rattle.statement_exec.specs.Deciding.{ComesBehind}
use Rattle.statement_exec.specs.Ending.{IsCausedByPages, PagesHaveCause}
use Rattle.statement_exec.specs.LeafLines.{state_beside}
use Rattle.statement_exec.specs.Moment.{beside, rises_between}
use Rattle.open_cursors.proofs.CausedSteps.{cause_of_end, pages_no_file, steps_caused}
use Rattle.open_cursors.proofs.DecidedCursors.{early_decides, memory_decides, pages_come, passing_decides}
use Rattle.statement_exec.proofs.CountedRows.{steps_up_to}
use Rattle.open_cursors.specs.Outcomes.{PerformsBeside}
use Rattle.open_cursors.specs.Steps.{GivesSteps, IsOfPages}
use Rattle.open_cursors.proofs.MoreSteps.{IsMemory}

module _ (catalog : CatalogView) (cs : List Cursor) (old new : PoolState) (read : IsRead old new) where
  -- some setting of the catalog over these pages
  abbrev any_setting : Setting
  any_setting = some_setting (record { catalog = catalog; pool = old })

  -- memory may be refused at any statement
  pub memory_refused : (statement : Statement) → PerformsBeside statement catalog old new cs cs (Refused why.Memory ∷ [])
  memory_refused statement = λ files shelf. (
    (
      caused_inside (beside cs catalog old files shelf) (beside cs catalog new files shelf) why.Memory tt,
      memory_decides catalog cs cs old new files files shelf shelf statement refl,
    ),
    λ told disk few setting gap s.
        outcome_outside setting (rises_between (beside cs catalog old files shelf) (beside cs catalog new files shelf)) (state_beside catalog old.pages cs) statement
        (Refused why.Memory ∷ []) (state_beside catalog new.pages cs)
        why.Memory tt (refl, ap (λ m. state_beside catalog m cs) read.pages),
  )

  -- a check refuses

  pub open_refused : (name : List ℕ) (p : Plan) (w : Refusal) → ((setting : Setting) → early setting (state_beside catalog old.pages cs) (Opens name p) ≡ Some w)
      → PerformsBeside (Opens name p) catalog old new cs cs (Refused w ∷ [])
  open_refused name p w fails = λ files shelf. (
    (
      caused_inside (beside cs catalog old files shelf) (beside cs catalog new files shelf) w
          (check_blames_none w (open_refuses any_setting (state_beside catalog old.pages cs) name p w (fails any_setting))),
      early_decides catalog cs cs old new files files shelf shelf (Opens name p) refl w fails,
    ),
    λ told disk few setting gap s.
        outcome_early setting (rises_between (beside cs catalog old files shelf) (beside cs catalog new files shelf)) (state_beside catalog old.pages cs) (Opens name p)
        (Refused w ∷ []) (state_beside catalog new.pages cs)
        w (fails setting) (caused (rises_between (beside cs catalog old files shelf) (beside cs catalog new files shelf)) w
        (open_refuses setting (state_beside catalog old.pages cs) name p w (fails setting)))
        (refl, ap (λ m. state_beside catalog m cs) read.pages),
  )

  module _ (count : ℕ) (p : Plan) where
    pub show_refused : (w : Refusal) → ((setting : Setting) → early setting (state_beside catalog old.pages cs) (Show count p) ≡ Some w)
        → PerformsBeside (Show count p) catalog old new cs cs (Refused w ∷ [])
    show_refused w fails = λ files shelf. (
      (
        caused_inside (beside cs catalog old files shelf) (beside cs catalog new files shelf) w
            (check_blames_none w (show_refuses any_setting (state_beside catalog old.pages cs) count p w (fails any_setting))),
        early_decides catalog cs cs old new files files shelf shelf (Show count p) refl w fails,
      ),
      λ told disk few setting gap s.
          outcome_early setting (rises_between (beside cs catalog old files shelf) (beside cs catalog new files shelf)) (state_beside catalog old.pages cs) (Show count p)
          (Refused w ∷ []) (state_beside catalog new.pages cs)
          w (fails setting) (caused (rises_between (beside cs catalog old files shelf) (beside cs catalog new files shelf)) w
          (show_refuses setting (state_beside catalog old.pages cs) count p w (fails setting)))
          (refl, ap (λ m. state_beside catalog m cs) read.pages),
    )

    module _ (passes : (setting : Setting) → early setting (state_beside catalog old.pages cs) (Show count p) ≡ None) where
      abbrev May : Option Files → ℕ → Setting → Refusal → Type 0
      May files shelf setting = IsLicensed setting (rises_between (beside cs catalog old files shelf) (beside cs catalog new files shelf)) (state_beside catalog old.pages cs) (Show count p)

      -- steps of a new cursor, refused as the setting allows
      performs : (may : Refusal → Type 0) (after : Cursor) (lines : List OutputLine) → ((w : Refusal) → may w → ComesBehind (Show count p) w)
          → ((files : Option Files) (shelf : ℕ) → IsTold old → new.disk.faults < last_count → (setting : Setting) (w : Refusal) → may w → May files shelf setting w)
          → ((files : Option Files) (shelf : ℕ) (w : Refusal) → may w → HasItsCause (beside cs catalog old files shelf) (beside cs catalog new files shelf) w)
          → Steps plan_measure may count (new_cursor [] p (database_in old.pages catalog.relations)) lines after → All IsPlainLine lines → PerformsBeside (Show count p) catalog old new cs cs lines
      performs may after lines comes allowed cause steps plain = λ files shelf. (
        (
          steps_caused (beside cs catalog old files shelf) (beside cs catalog new files shelf) plan_measure may (cause files shelf) count
              (new_cursor [] p (database_in old.pages catalog.relations)) lines after steps,
          passing_decides catalog cs cs old new files files shelf shelf (Show count p) refl lines passes
              (λ setting. steps_up_to plan_measure may (ComesBehind (Show count p)) comes count (new_cursor [] p (database_in old.pages catalog.relations)) lines after steps plain) refl,
        ),
        λ told disk few setting gap s.
            let made : Steps plan_measure (May files shelf setting) count (new_cursor [] p (database_in old.pages catalog.relations)) lines after =
            steps_allowed plan_measure may (May files shelf setting) (allowed files shelf told disk setting) count (new_cursor [] p (database_in old.pages catalog.relations)) lines after steps in
            let measured : Steps setting.gap (May files shelf setting) count (new_cursor [] p (database_in old.pages catalog.relations)) lines after =
            subst (λ (g : Measure). Steps g (May files shelf setting) count (new_cursor [] p (database_in old.pages catalog.relations)) lines after) (sym gap) made in
            outcome_done setting (rises_between (beside cs catalog old files shelf) (beside cs catalog new files shelf)) (state_beside catalog old.pages cs)
            (Show count p) lines (state_beside catalog new.pages cs)
            (passes setting) refl (after, measured, ap (λ m. state_beside catalog m cs) read.pages),
      )

      licensed : (files : Option Files) (shelf : ℕ) (setting : Setting) (w : Refusal) → IsOfPages (Some w) → IsCausedByPages old new w → IsTold old
          → new.disk.faults < last_count → May files shelf setting w
      licensed files shelf setting why.Memory o c t l = tt
      licensed files shelf setting why.Device o c t l = ((refl, passes setting), rose old.disk.faults new.disk.faults (ap (λ (n : ℕ × ℕ). n.0) c.counted) l)
      licensed files shelf setting (why.Damaged n kept read') o c t l = absurd (true≢false (sym (read.told ∙ t) ∙ c.damaged.damage.untold))
      licensed files shelf setting _ o c t l = absurd o

      of_end : (end : Option Refusal) → IsOfPages end → PagesHaveCause {E = Failed} old new (Ok end) → (files : Option Files) (shelf : ℕ) → IsTold old
          → new.disk.faults < last_count → (setting : Setting) (w : Refusal) → end ≡ Some w → May files shelf setting w
      of_end None o c files shelf t l setting w k = absurd (true≢false (sym (ap (λ (x : Option Refusal). is_some x) k)))
      of_end (Some v) o c files shelf t l setting w k = subst (May files shelf setting) (ap inside k) (licensed files shelf setting v o c t l) where
        inside : Option Refusal → Refusal
        inside None = v
        inside (Some r) = r

      -- the rows of a new cursor up to a refusal, or up to one of memory

      pub show_performs : (end : Option Refusal) (after : Cursor) (lines : List OutputLine) → IsOfPages end → PagesHaveCause {E = Failed} old new (Ok end)
          → GivesSteps (new_cursor [] p (database_in old.pages catalog.relations)) count after end lines → PerformsBeside (Show count p) catalog old new cs cs lines
      show_performs end after lines o cause steps =
          performs (λ w. end ≡ Some w) after lines (λ w e. pages_come (Show count p) refl w (subst IsOfPages e o)) (of_end end o cause)
          (λ files shelf. cause_of_end (beside cs catalog old files shelf) (beside cs catalog new files shelf) end
          (end_cause cs cs catalog catalog old new read.told files files shelf shelf Failed end cause (pages_no_file end o))) steps.0 steps.1

      pub show_memory : (after : Cursor) (lines : List OutputLine) → Steps plan_measure IsMemory count (new_cursor [] p (database_in old.pages catalog.relations)) lines after → All IsPlainLine lines
          → PerformsBeside (Show count p) catalog old new cs cs lines
      show_memory after lines = performs IsMemory after lines (λ w k. subst (ComesBehind (Show count p)) (sym k) tt) (λ files shelf t l setting w k. subst (May files shelf setting) (sym k) tt)
          (λ files shelf w k. subst (HasItsCause (beside cs catalog old files shelf) (beside cs catalog new files shelf)) (sym k) tt)
