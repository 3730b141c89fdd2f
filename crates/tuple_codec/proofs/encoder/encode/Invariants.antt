-- What the loop over the values keeps.
use Rattle.std.proofs.Common.{◌≡◌, take}
use Rattle.tuple_codec.specs.Encoding.{encoding}
use Rattle.tuple_codec.proofs.encoder.encode.Given as goal

-- the bytes are the encoding of the values so far
abbrev pub invariant-values : goal.invariant-values
invariant-values l = l.bytes.items ≡ encoding (take l.value-index l.row)
