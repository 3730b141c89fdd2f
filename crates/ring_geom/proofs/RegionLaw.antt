-- The law of the region, told by gaps: an edge with a point in the rectangle meets it.
use Rattle.std.proofs.Common.{inl, inr}
use Rattle.sand_base.specs.declared.goal.Goal.TheVariants as goal
use Rattle.sand_base.specs.declared.shape.Shape.TheVariants as shape
use Rattle.sand_model.specs.FigureGap.{IsMeeting}
use Rattle.sand_model.specs.Rings.{edges}
use Rattle.ring_geom.specs.Laws.{RegionIsOneSide}
use Rattle.ring_geom.proofs.Moves.{Meets}
use Rattle.ring_geom.proofs.Region.{all_inside, some_also}
use Rattle.ring_geom.proofs.Touch.{meets_of_touch}

-- where no edge meets the rectangle, none has a point in it
pub all_or_none : RegionIsOneSide
all_or_none ring r none v w hv hw h =
    elim (all_inside ring r v w hv hw h) [
      | inl m ↦
          absurd (none (some_also {P = Meets r} {Q = λ e. IsMeeting (goal.Shape (shape.Segment e)) (goal.Rect r)}
          (λ e k. meets_of_touch (goal.Shape (shape.Segment e)) r (inr k)) (edges ring) m))
      | inr inside ↦ inside
    ]
