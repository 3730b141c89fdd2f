-- What the greatest distance lacks to the diagonal is the key of the rectangle.
use Rattle.far_cursor.proofs.FarEntries.{rect_is}
use Rattle.far_cursor.proofs.keys.rect_key.Goals as goal

pub returns : goal.returns
returns c = rect_is c.args.p c.args.r c.greatest-far.result c.gap_of.result c.greatest-far.ensures.num c.greatest-far.ensures.den c.gap_of.ensures.num c.gap_of.ensures.den
