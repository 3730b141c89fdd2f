-- The gap call gives a fraction of the measure's value.
use Rattle.sand_base.specs.declared.goal.Goal.TheVariants as figure
use Rattle.rank_cursor.proofs.LeafEntries.{gap_is}
use Rattle.near_cursor.proofs.figures.rect_gap.Goals as goal

pub returns : goal.returns
returns c = gap_is c.args.goal.now (figure.Rect c.args.r) c.gap_goal_rect.result c.requires.goal c.requires.rect c.gap_goal_rect.ensures
