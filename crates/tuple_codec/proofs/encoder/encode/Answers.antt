-- Why the bytes are as many as the row's size says.
use Rattle.std.proofs.Common.{arith}
use Rattle.std.proofs.lemmas.Grind.{common_steps}
use Rattle.tuple_codec.proofs.Sizes.{long_as}
use Rattle.tuple_codec.proofs.encoder.encode.Goals as goal

-- they are the encoding
pub returns-clause-long : goal.returns-clause-long
returns-clause-long c = long_as c.values.bytes.items c.args.row.now (grind (arith, common_steps))
