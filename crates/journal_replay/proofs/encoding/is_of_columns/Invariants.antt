-- the row is of the columns where the values that are left are of the columns that are left
use Rattle.std.proofs.Common.{◌≡◌, drop}
use Rattle.sand_model.specs.StatementChecks.{is_row_of}
use Rattle.journal_replay.proofs.encoding.is_of_columns.Given as goal

abbrev pub invariant-columns : goal.invariant-columns
invariant-columns l = is_row_of (drop l.at l.columns) (drop l.at l.values) ≡ is_row_of l.columns l.values
