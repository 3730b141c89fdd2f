-- The gap call gives a fraction of the measure's value.
use Rattle.sand_base.specs.declared.goal.Goal.TheVariants as figure
use Rattle.rank_cursor.proofs.LeafEntries.{gap_is}
use Rattle.dist_join.proofs.figures.rects_gap.Goals as goal

pub returns : goal.returns
returns c =
    gap_is (figure.Rect c.args.left) (figure.Rect c.args.right) c.gap_goal_rect.result c.requires.left c.requires.right c.gap_goal_rect.ensures
