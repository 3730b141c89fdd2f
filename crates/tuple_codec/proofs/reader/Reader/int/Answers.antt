-- Why a whole number stands in front, or none does.
use Rattle.tuple_codec.proofs.Numbers.{int_short, int_taken}
use Rattle.tuple_codec.proofs.reader.Reader.int.Goals as goal

-- fewer than eight bytes are left
pub returns-in_default : goal.returns-in_default
returns-in_default c = int_short c.args.self.now.left.now c.in_default.ensures.cases

-- the eight bytes in front are those of the number
pub returns : goal.returns
returns c =
    int_taken c.args.self.now.left.now c.in-Some.bytes.now c.in-Some.rest.now c.int_of.result c.int_of.type_inv
    c.in-Some.ensures.cases.0 c.in-Some.ensures.cases.1 c.int_of.ensures
