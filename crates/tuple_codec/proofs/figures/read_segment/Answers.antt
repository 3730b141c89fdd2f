-- Why no segment stands in front.
use Rattle.tuple_codec.proofs.Corners.{segment_short}
use Rattle.tuple_codec.proofs.figures.read_segment.Goals as goal

-- the second end is missing
pub returns-in_default-read_point : goal.returns-in_default-read_point
returns-in_default-read_point c =
    segment_short c.args.reader.now.left.now c.read_point.new.reader.left.now c.in-Some.a c.in-Some.ensures.0 c.in-Some.ensures.1 c.in_default-read_point.ensures
