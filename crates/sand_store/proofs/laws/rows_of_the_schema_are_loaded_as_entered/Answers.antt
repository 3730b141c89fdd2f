-- row by row
use Rattle.sand_store.proofs.SchemaRows.{loaded_entered}
use Rattle.sand_store.proofs.laws.rows_of_the_schema_are_loaded_as_entered.Goals as goal

pub returns : goal.returns
returns c = λ setting rows relation h. loaded_entered setting rows relation h
