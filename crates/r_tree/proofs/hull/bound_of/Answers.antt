-- one entry more widens the rectangle
use Rattle.r_tree.proofs.Hulls.{hull_more}
use Rattle.r_tree.proofs.hull.bound_of.Goals as goal

pub entries-preserved : goal.entries-preserved
entries-preserved c = hull_more c.args.entries.now c.entries.entry-index _ c.entries.bound c.box_of.result c.widened.result c.entries-test.true c.entries.invariant c.box_of.ensures c.widened.ensures
