-- What the loop over the columns keeps.
use Rattle.std.proofs.Common.{◌≡◌, length}
use Rattle.csv.specs.Records.{fields_of}
use Rattle.csv_load.proofs.RowByRow.{HasRead}
use Rattle.csv_load.proofs.row.row_of.Given as goal

-- the columns so far were read
abbrev pub invariant-columns : goal.invariant-columns
invariant-columns l = record {
  counted : l.kind-index ≡ length l.values.items;
  read : HasRead l.columns (fields_of l.fields) l.values.items;
}
