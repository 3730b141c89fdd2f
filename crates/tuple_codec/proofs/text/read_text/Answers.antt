-- Why no text stands in front.
use Rattle.std.proofs.Common.{arith}
use Rattle.tuple_codec.proofs.Corners.{text_bad}
use Rattle.tuple_codec.proofs.text.read_text.Goals as goal

-- the bytes behind the length are no text in range
pub returns-in_default-plain_text : goal.returns-in_default-plain_text
returns-in_default-plain_text c =
    text_bad c.args.reader.now.left.now c.byte.new.self.left.now c.in-Some-piece.bytes.now c.piece.new.self.left.now c.in-Some.count
    c.in-Some.ensures (omega (arith, c.in-Some-piece.ensures.0)) c.in-Some-piece.ensures.1 c.in_default-plain_text.ensures
