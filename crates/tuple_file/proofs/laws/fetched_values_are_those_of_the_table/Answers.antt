-- the bytes of an id are the encoding of its row
use Rattle.tuple_file.proofs.Tables.{value_fetched}
use Rattle.tuple_file.proofs.laws.fetched_values_are_those_of_the_table.Goals as goal

pub returns : goal.returns
returns c = λ schema table id column value all h. value_fetched schema table id column value all h
