use Rattle.csv_load.proofs.RowByRow.{file-rows-fit}
use Rattle.csv_load.proofs.laws.rows_of_a_file_fit_its_schema.Goals as goal

-- each value is of its column's kind and in range
pub returns : goal.returns
returns c = file-rows-fit
