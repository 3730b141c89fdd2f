-- each kind of rough shape has its tag
use Rattle.pmr_build.proofs.Kept.{point_kept, segment_kept, bound_kept}
use Rattle.pmr_build.proofs.leaf.value_of.Goals as goal

pub returns-in_ok-value-in-Point-clause-value : goal.returns-in_ok-value-in-Point-clause-value
returns-in_ok-value-in-Point-clause-value c = point_kept c.args.rough c.in-Point.at c.in_ok-value-in-Point.value c.in-Point.is c.in_ok-value-in-Point.ensures.value

pub returns-in_ok-value-in-Segment-clause-value : goal.returns-in_ok-value-in-Segment-clause-value
returns-in_ok-value-in-Segment-clause-value c = segment_kept c.args.rough c.in-Segment.way c.in_ok-value-in-Segment.value c.in-Segment.is c.in_ok-value-in-Segment.ensures.value

pub returns-in_ok-value-in-Bound-clause-value : goal.returns-in_ok-value-in-Bound-clause-value
returns-in_ok-value-in-Bound-clause-value c = bound_kept c.args.rough c.in-Bound.rect c.in_ok-value-in-Bound.value c.in-Bound.is c.in_ok-value-in-Bound.ensures.value
