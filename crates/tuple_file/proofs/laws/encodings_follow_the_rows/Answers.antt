-- row by row
use Rattle.tuple_file.proofs.Tables.{encodings-with, encodings-without}
use Rattle.tuple_file.proofs.laws.encodings_follow_the_rows.Goals as goal

pub returns-clause-put : goal.returns-clause-put
returns-clause-put c = λ id row table. encodings-with id row table

pub returns-clause-taken : goal.returns-clause-taken
returns-clause-taken c = λ id table. encodings-without id table
