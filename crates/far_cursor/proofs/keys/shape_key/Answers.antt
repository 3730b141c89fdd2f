-- What the distance lacks to the diagonal is the key of the shape.
use Rattle.far_cursor.proofs.FarEntries.{shape_is}
use Rattle.far_cursor.proofs.keys.shape_key.Goals as goal

pub returns : goal.returns
returns c = shape_is c.args.p c.args.shape.now c.gap_shapes-gap.result c.gap_of.result c.requires.point c.requires.shape c.gap_shapes-gap.ensures c.gap_of.ensures.num c.gap_of.ensures.den
