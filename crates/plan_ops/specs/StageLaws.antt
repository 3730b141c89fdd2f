-- The laws of stages, by the kind of the stage, with their proofs.
use Rattle.std.proofs.Common.{filter, map}
use Rattle.sand_model.specs.Operators.{relations_of, passes_all, with_fetched}
use Rattle.plan_iterator.specs.Stages.{IsOutermost, GivesFront, OpensLate, ClosedWaits, RisesWithSteps}
use Rattle.plan_stages.specs.MatchLaws.{match_rises}
use Rattle.plan_stages.specs.Matches.{matches_to_come}
use Rattle.plan_stages.specs.SplitLaws.{front_of, late_of, open_of, rises_of}
use Rattle.plan_stages.specs.Splits.{waiting, wait_count}
use Rattle.plan_stages.specs.Keyed.{keyed_row, gapped_row}
use Rattle.plan_stages.specs.Gaps.{HasGapKey}
use Rattle.plan_stages.specs.Numbers.{HasNumber}
use Rattle.plan_stages.specs.SortLaws.{by_outermost, near_outermost, front_of as sort_front, late_of as sort_late, closed_waits_of, rises_of as sort_rises}
use Rattle.plan_ops.specs.Stages.{StageStands, stage_waits, is_closed, stage_steps}
use Rattle.plan_ops.specs.declared.stage.Stage.TheVariants as stage

-- a stage is of an operator, and of no source
pub stage_outermost : IsOutermost StageStands
stage_outermost (stage.First s) pages d p taken given f = f.splits.operator
stage_outermost (stage.Filter s) pages d p taken given f = f.splits.operator
stage_outermost (stage.Fetch s) pages d p taken given f = f.splits.operator
stage_outermost (stage.Match s) pages d p taken given f = f.splits.operator
stage_outermost (stage.SortBy s) pages d p taken given f = by_outermost f.below f.place f.is
stage_outermost (stage.SortNear s) pages d p taken given f = near_outermost f.below f.place s.goal f.is

-- a stage gives the rows at its front, by its kind
pub stage_front : GivesFront StageStands
stage_front (stage.First s) pages d p taken given all f b whole = front_of d p taken given (waiting s.held) all f.splits b
stage_front (stage.Filter s) pages d p taken given all f b whole =
    front_of d p taken given (filter (passes_all d (relations_of f.below) f.asked) (waiting s.held)) all f.splits b
stage_front (stage.Fetch s) pages d p taken given all f b whole =
    front_of d p taken given (map (with_fetched d (relations_of f.below) f.places) (waiting s.held)) all f.splits b
stage_front (stage.Match s) pages d p taken given all f b whole =
    front_of d p taken given (matches_to_come d (relations_of f.below) f.place f.column s.held) all f.splits b
stage_front (stage.SortBy s) pages d p taken given all f b whole =
    sort_front s.closed (HasNumber d (relations_of f.below) f.place) keyed_row d p s.held s.rows taken given all f.sorts b whole
stage_front (stage.SortNear s) pages d p taken given all f b whole =
    sort_front s.closed (HasGapKey d (relations_of f.below) f.place s.goal) gapped_row d p s.held s.rows taken given all f.sorts b whole

-- a sort opens late, any other stage is open
pub stage_late : OpensLate StageStands is_closed
stage_late (stage.First s) pages d p taken given f sort = late_of d p taken given (waiting s.held) _ f.splits sort
stage_late (stage.Filter s) pages d p taken given f sort =
    late_of d p taken given (filter (passes_all d (relations_of f.below) f.asked) (waiting s.held)) _ f.splits sort
stage_late (stage.Fetch s) pages d p taken given f sort =
    late_of d p taken given (map (with_fetched d (relations_of f.below) f.places) (waiting s.held)) _ f.splits sort
stage_late (stage.Match s) pages d p taken given f sort =
    late_of d p taken given (matches_to_come d (relations_of f.below) f.place f.column s.held) _ f.splits sort
stage_late (stage.SortBy s) pages d p taken given f sort =
    sort_late s.closed (HasNumber d (relations_of f.below) f.place) keyed_row d p s.held s.rows taken given f.sorts
stage_late (stage.SortNear s) pages d p taken given f sort =
    sort_late s.closed (HasGapKey d (relations_of f.below) f.place s.goal) gapped_row d p s.held s.rows taken given f.sorts

-- a closed sort holds no row that waits
pub stage_closed_waits : ClosedWaits is_closed stage_waits
stage_closed_waits (stage.First s) = open_of _
stage_closed_waits (stage.Filter s) = open_of _
stage_closed_waits (stage.Fetch s) = open_of _
stage_closed_waits (stage.Match s) = open_of _
stage_closed_waits (stage.SortBy s) = closed_waits_of s.held s.closed
stage_closed_waits (stage.SortNear s) = closed_waits_of s.held s.closed

-- the steps of a stage rise with those of its source
pub stage_rises : RisesWithSteps stage_steps
stage_rises (stage.First s) = rises_of (wait_count s.held)
stage_rises (stage.Filter s) = rises_of (wait_count s.held)
stage_rises (stage.Fetch s) = rises_of (wait_count s.held)
stage_rises (stage.Match s) = match_rises s
stage_rises (stage.SortBy s) = sort_rises s.held s.rows s.closed
stage_rises (stage.SortNear s) = sort_rises s.held s.rows s.closed
