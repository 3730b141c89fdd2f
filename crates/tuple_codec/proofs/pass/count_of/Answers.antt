-- Why so many bytes are left.
use Rattle.std.proofs.Common.{◌*◌, ap, ◌∙◌}
use Rattle.std.specs.Prelude.{Some}
use Rattle.tuple_codec.specs.Encoding.{value_bytes}
use Rattle.tuple_codec.proofs.Passes.{eight, sixteen, eight_each}
use Rattle.tuple_codec.proofs.pass.count_of.Goals as goal

-- a whole number or a point
pub returns-in-Int : goal.returns-in-Int
returns-in-Int c = λ v rest is e. (value_bytes v, (ap (λ n. Some n) (eight c.args.kind v c.in-Int.is is.of_kind), e))

-- a segment
pub returns-in-Segment : goal.returns-in-Segment
returns-in-Segment c = λ v rest is e. (value_bytes v, (ap (λ n. Some n) (sixteen c.args.kind v c.in-Segment.is is.of_kind), e))

-- a polygon
pub returns-in_ok-byte-in-Polygon : goal.returns-in_ok-byte-in-Polygon
returns-in_ok-byte-in-Polygon c = λ v rest is e.
    let count = c.in_ok-byte-in-Polygon.field-0 in
    let behind = eight_each c.args.kind v c.args.reader.now.left.now c.byte-in-Polygon.new.self.left.now rest count c.in-Polygon.is is.of_kind
    c.in_ok-byte-in-Polygon.ensures e in
    (behind.0, (ap (λ n. Some n) (ap (λ n. 8 * n) c.from-in-Polygon.ensures ∙ behind.1.0), behind.1.1))
