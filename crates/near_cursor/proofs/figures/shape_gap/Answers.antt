-- The gap call gives a fraction of the measure's value.
use Rattle.sand_base.specs.declared.goal.Goal.TheVariants as figure
use Rattle.rank_cursor.proofs.LeafEntries.{gap_is}
use Rattle.near_cursor.proofs.figures.shape_gap.Goals as goal

pub returns : goal.returns
returns c = gap_is c.args.goal.now (figure.Shape c.args.shape.now) c.gap_goal.result c.requires.goal c.requires.shape c.gap_goal.ensures
