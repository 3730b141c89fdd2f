-- Why two rows with one encoding are one row.
use Rattle.tuple_codec.proofs.Rows.{one_encoding}
use Rattle.tuple_codec.proofs.laws.rows_with_one_encoding_are_one.Goals as goal

pub returns : goal.returns
returns c = one_encoding
