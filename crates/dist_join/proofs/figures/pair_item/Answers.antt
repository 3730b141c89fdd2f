-- Each square is that of its block.
use Rattle.dist_join.proofs.FoundPairs.{blocks_same}
use Rattle.dist_join.proofs.figures.pair_item.Goals as goal

pub returns : goal.returns
returns c = blocks_same c.args.left c.args.right c.rects_gap-gap.result c.requires.left.square c.requires.right.square c.rects_gap-gap.ensures
