use Rattle.csv_load.proofs.FieldValues.{value-reads, reads-value}
use Rattle.csv_load.proofs.laws.fields_have_one_value.Goals as goal

-- each field has its value
pub returns-clause-reads : goal.returns-clause-reads
returns-clause-reads c = value-reads

-- and no other
pub returns-clause-only : goal.returns-clause-only
returns-clause-only c = reads-value
