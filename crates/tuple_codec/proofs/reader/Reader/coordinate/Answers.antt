-- Why a coordinate stands in front, or none does.
use Rattle.tuple_codec.specs.Encoding.{coordinate_bytes}
use Rattle.tuple_codec.proofs.Numbers.{coordinate_short, front_is}
use Rattle.tuple_codec.proofs.reader.Reader.coordinate.Goals as goal

-- fewer than four bytes are left
pub returns-in_default : goal.returns-in_default
returns-in_default c = coordinate_short c.args.self.now.left.now c.in_default.ensures.cases

-- the four bytes in front are those of the number
pub returns : goal.returns
returns c = (
  c.coordinate_of.type_inv,
  front_is c.args.self.now.left.now c.in-Some.bytes.now c.in-Some.rest.now (coordinate_bytes c.coordinate_of.result) 4
      c.in-Some.ensures.cases.0 c.in-Some.ensures.cases.1 c.coordinate_of.ensures,
)
