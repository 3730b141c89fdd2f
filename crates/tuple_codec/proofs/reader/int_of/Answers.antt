-- Why the bytes of the number are those that it was read from.
use Rattle.std.proofs.Common.{rules, ap, ◌∙◌}
use Rattle.tuple_codec.specs.Encoding.{int_bytes}
use Rattle.tuple_codec.proofs.Numbers.{bits_back, int_read}
use Rattle.tuple_codec.proofs.reader.int_of.Goals as goal

pub returns : goal.returns
returns c =
    ap int_bytes (bits_back c.cast_signed.result c.cast_signed.type_inv)
    ∙ int_read c.args.bytes c.from_be_bytes.result c.cast_signed.result (search rules) (search rules)
    c.from_be_bytes.type_inv c.from_be_bytes.ensures c.cast_signed.ensures
