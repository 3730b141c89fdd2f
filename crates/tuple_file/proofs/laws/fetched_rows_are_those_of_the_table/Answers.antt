-- no two rows have one encoding
use Rattle.tuple_file.proofs.Tables.{fetched}
use Rattle.tuple_file.proofs.laws.fetched_rows_are_those_of_the_table.Goals as goal

pub returns : goal.returns
returns c = λ schema table id found all h. fetched schema table id found all h
