-- Where a cursor over a plan stands, and what a call of it does and pays.
use Rattle.std.specs.Prelude.{ℕ, Option, Result}
use Rattle.page_pool.specs.Desk.{DeskState}
use Rattle.page_pool.specs.Disk.{PageMap}
use Rattle.page_pool.specs.declared.fault.PageFault.{PageFault}
use Rattle.sand_model.specs.Cursor.{Cursor}
use Rattle.plan_iterator.specs.PaidCalls.{StepsPaid}
use Rattle.plan_iterator.specs.Standing.{IsAt}
use Rattle.plan_iterator.specs.Rows.{counts_of}
use Rattle.plan_iterator.specs.declared.answer.Answer.{Answer}
use Rattle.plan_iterator.specs.Following.{steps_of}
use Rattle.plan_iterator.specs.Paying.{Prices, prices}
use Rattle.plan_ops.specs.Sources.{source_at, source_seen, source_steps, source_heights, source_step_price, source_owed}
use Rattle.plan_ops.specs.Stages.{StageStands, is_closed, stage_steps, stage_price, stage_owed}
use Rattle.plan_ops.specs.declared.source.Source.{Source}
use Rattle.plan_ops.specs.declared.stage.Stage.{Stage}
use Rattle.plan_ops.specs.declared.running.Running.{Running}

-- over these pages it stands where the cursor of the model does
abbrev pub RunningStandsAt : Running → PageMap → Cursor → Type 0
RunningStandsAt r = IsAt source_at StageStands is_closed (λ s. counts_of (source_seen s)) r.cursor

-- how many steps may still be made
abbrev pub steps_left : Running → ℕ
steps_left r = steps_of source_steps stage_steps r.cursor.operator

-- what sources and operators cost in page gets
abbrev pub plan_prices : Prices Source Stage
plan_prices = prices source_heights source_step_price source_owed stage_price stage_owed

-- wherever the cursor of the model stands: the call is one step of it, and its page gets are at most the price of the visits that it noted,
-- of the steps of its source and of the rows that its operators handled
abbrev pub TakesPaidStep : Running → Running → DeskState → DeskState → Result (Option Answer) PageFault → PageMap → Type 0
TakesPaidStep r r' = StepsPaid source_at StageStands is_closed plan_prices (λ s. counts_of (source_seen s)) r.cursor r'.cursor
