-- What the loop over the columns keeps.
use Rattle.std.proofs.Common.{◌≡◌, List, drop}
use Rattle.sand_base.specs.declared.value.Value.{Value as Held}
use Rattle.tuple_codec.specs.Encoding.{encoding}
use Rattle.tuple_codec.specs.Decoding.{IsEncodingOf}
use Rattle.tuple_codec.proofs.decoder.decode_value.Given as goal

-- the values of the columns so far were passed over
abbrev pub invariant-columns : goal.invariant-columns
invariant-columns l =
    (row : List Held) → IsEncodingOf l.schema row l.bytes → l.reader.left.now ≡ encoding (drop l.before-index row)
