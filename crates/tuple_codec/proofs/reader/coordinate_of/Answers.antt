-- Why the bytes of the number are those that it was read from.
use Rattle.std.proofs.Common.{rules}
use Rattle.tuple_codec.proofs.Numbers.{coordinate_read}
use Rattle.tuple_codec.proofs.reader.coordinate_of.Goals as goal

pub returns : goal.returns
returns c = coordinate_read c.args.bytes c.from_be_bytes.result (search rules) (search rules) c.from_be_bytes.ensures
