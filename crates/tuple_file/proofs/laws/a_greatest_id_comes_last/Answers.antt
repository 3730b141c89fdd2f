-- none is above it
use Rattle.tuple_file.proofs.Tables.{greatest_last}
use Rattle.tuple_file.proofs.laws.a_greatest_id_comes_last.Goals as goal

pub returns : goal.returns
returns c = λ id bytes rows h. greatest_last id bytes rows h
