-- the cursor is behind the others under a stamp of its own, or they are as they were
use Rattle.std.proofs.Common.{List, [], ◌∷◌, ◌++◌, sym, ◌∙◌, ap, subst}
use Rattle.page_pool.specs.Pool.{shown_of}
use Rattle.statements.specs.Plan.{plan_value}
use Rattle.plan_ops.specs.declared.source.Source.{Source}
use Rattle.plan_ops.specs.declared.stage.Stage.{Stage}
use Rattle.sand_model.specs.Cursor.{new_cursor}
use Rattle.sand_store.specs.Contents.{database_in}
use Rattle.open_cursors.specs.OpenCursors.{AreNamed, StandAll}
use Rattle.open_cursors.specs.PlanCursors.{PlanAt, PlanOver}
use Rattle.open_cursors.specs.declared.open_cursor.OpenCursor.{OpenCursor}
use Rattle.open_cursors.proofs.HeldStamps.{held_kept, kept_shows, stand_kept}
use Rattle.open_cursors.proofs.OneMore.{all_named, all_stand}
use Rattle.open_cursors.proofs.Openings.{handed_on}
use Rattle.open_cursors.proofs.opening.open.Goals as goal

-- a check failed, or memory did

pub returns-in_err-name-clause-opens : goal.returns-in_err-name-clause-opens
returns-in_err-name-clause-opens g c = λ told cs all.
    handed_on c.args.store.now.catalog c.args.store.now.pool.pages cs c.args.name.now (plan_value c.args.plan.now) _ c.from_residual.result
    (StandAll PlanAt c.args.store.now.pool.stamps c.args.cursors.now.items) c.from_residual.ensures
    (c.in_err-name.ensures.checks c.args.store.now.pool.stamps c.args.store.now.pool.pages cs
    (subst (λ (xs : List (OpenCursor Source Stage)). StandAll PlanAt c.args.store.now.pool.stamps xs cs) (sym c.deref.ensures.value) all)) all

pub returns-in_err-name-clause-named : goal.returns-in_err-name-clause-named
returns-in_err-name-clause-named g c = λ pages cs all.
    handed_on c.args.store.now.catalog pages cs c.args.name.now (plan_value c.args.plan.now) _ c.from_residual.result (AreNamed c.args.cursors.now.items) c.from_residual.ensures
    (c.in_err-name.ensures.names pages cs (subst (λ (xs : List (OpenCursor Source Stage)). AreNamed xs cs) (sym c.deref.ensures.value) all)) all

-- no check fails, and the new cursor stands over the live pages, which its stamp holds
pub returns-in-Ok-clause-opens : goal.returns-in-Ok-clause-opens
returns-in-Ok-clause-opens g c = λ told cs all. (
  c.in_ok-name.ensures.checks c.args.store.now.pool.stamps c.args.store.now.pool.pages cs
      (subst (λ (xs : List (OpenCursor Source Stage)). StandAll PlanAt c.args.store.now.pool.stamps xs cs) (sym c.deref.ensures.value) all),
  all_stand PlanAt c.keep.new.self.pool.stamps (record { name = c.in_ok-name.name; stamp = c.in-Ok.stamp; cursor = c.in_ok-name.cursor })
      (new_cursor c.args.name.now (plan_value c.args.plan.now) (database_in c.args.store.now.pool.pages c.args.store.now.catalog.relations)) (sym c.in_ok-name.ensures.begun.0)
      (shown_of c.args.store.now.pool, kept_shows c.args.store.now.pool c.keep.new.self.pool c.in-Ok.stamp c.in-Ok.ensures.kept, c.in_ok-name.ensures.begun.1 told)
      c.args.cursors.now.items c.push.new.cursors.items cs
      (c.push.ensures ∙ ap (λ (xs : List (OpenCursor Source Stage)). xs ++ record { name = c.in_ok-name.name; stamp = c.in-Ok.stamp; cursor = c.in_ok-name.cursor } ∷ []) c.reserve.ensures.items)
      (stand_kept PlanOver c.args.store.now.pool c.keep.new.self.pool c.in-Ok.stamp c.args.cursors.now.items cs c.in-Ok.ensures.kept c.requires.held all),
)

pub returns-in-Ok-clause-named : goal.returns-in-Ok-clause-named
returns-in-Ok-clause-named g c = λ pages cs all. (
  c.in_ok-name.ensures.names pages cs (subst (λ (xs : List (OpenCursor Source Stage)). AreNamed xs cs) (sym c.deref.ensures.value) all),
  all_named (record { name = c.in_ok-name.name; stamp = c.in-Ok.stamp; cursor = c.in_ok-name.cursor })
      (new_cursor c.args.name.now (plan_value c.args.plan.now) (database_in pages c.args.store.now.catalog.relations))
      (sym c.in_ok-name.ensures.begun.0) c.args.cursors.now.items c.push.new.cursors.items cs
      (c.push.ensures ∙ ap (λ (xs : List (OpenCursor Source Stage)). xs ++ record { name = c.in_ok-name.name; stamp = c.in-Ok.stamp; cursor = c.in_ok-name.cursor }
      ∷ []) c.reserve.ensures.items) all,
)

pub returns-in-Ok-clause-held : goal.returns-in-Ok-clause-held
returns-in-Ok-clause-held g c = held_kept c.args.store.now.pool c.keep.new.self.pool
    (record { name = c.in_ok-name.name; stamp = c.in-Ok.stamp; cursor = c.in_ok-name.cursor }) c.args.cursors.now.items c.push.new.cursors.items
    (c.push.ensures ∙ ap (λ (xs : List (OpenCursor Source Stage)). xs ++ record { name = c.in_ok-name.name; stamp = c.in-Ok.stamp; cursor = c.in_ok-name.cursor }
    ∷ []) c.reserve.ensures.items) c.in-Ok.ensures.kept c.requires.held
