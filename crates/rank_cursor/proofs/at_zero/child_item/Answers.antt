-- A child stands under the gap of its square.
use Rattle.rank_cursor.proofs.LeafEntries.{block_same}
use Rattle.rank_cursor.proofs.at_zero.child_item.Goals as goal

pub rect_gap-requires-clause-rect : goal.rect_gap-requires-clause-rect
rect_gap-requires-clause-rect c = c.requires.square.in_closed_plane

pub returns : goal.returns
returns c = block_same c.args.goal.now c.args.child c.rect_gap.result c.requires.square.square c.rect_gap.ensures
