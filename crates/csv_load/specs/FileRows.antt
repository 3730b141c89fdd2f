-- The rows of a data file: its records are those that `csv` defines, each read by the kinds of the columns.
use Rattle.std.specs.Prelude.{◌≡◌, ⊤, ℕ, suc, ◌-◌, Bool, true, false, List, [], ◌∷◌, drop, Option, Some, None, Result, Ok, Err}
use Rattle.csv.specs.Reading.{default_config, records, strip_bom}
use Rattle.sand_base.specs.declared.kind.Kind.{Kind}
use Rattle.sand_base.specs.declared.value.Value.{Value}
use Rattle.sand_model.specs.StatementChecks.{FileRows, AreRows, HasBad}
use Rattle.csv_load.specs.declared.fault.LoadFault.{LoadFault}
use Rattle.csv_load.specs.declared.fault.LoadFault.TheVariants as fault
use Rattle.csv_load.specs.FieldValue.{field_value}

-- a value in front of a row, or the column where there is none; a column further right counts only where there is one
abbrev pub put_value : ℕ → Option Value → Result (List Value) ℕ → Result (List Value) ℕ
put_value at None rest = Err at
put_value at (Some v) (Ok row) = Ok (v ∷ row)
put_value at (Some v) (Err column) = Err column

-- The fields of a record as a row, from the column with this number on: a value for each column, or the leftmost bad
-- column. A missing field is bad at its column, and a surplus one behind the last.
abbrev pub record_row : ℕ → List (List ℕ × Kind) → List (List ℕ) → Result (List Value) ℕ
record_row at [] [] = Ok []
record_row at [] (field ∷ fields) = Err at
record_row at (column ∷ columns) [] = Err at
record_row at (column ∷ columns) (field ∷ fields) = put_value at (field_value column.1 field) (record_row (suc at) columns fields)

-- a row in front of rows, or a bad record; a later one counts only where there is a row
abbrev pub put_row : ℕ → Result (List Value) ℕ → FileRows → FileRows
put_row number (Err column) rest = HasBad number column
put_row number (Ok row) (AreRows rows) = AreRows (row ∷ rows)
put_row number (Ok row) (HasBad later column) = HasBad later column

-- the records as rows, from the record with this number on
abbrev pub rows_from : ℕ → List (List ℕ × Kind) → List (List (List ℕ)) → FileRows
rows_from number schema [] = AreRows []
rows_from number schema (fields ∷ more) = put_row number (record_row 1 schema fields) (rows_from (suc number) schema more)

-- the number of the first record that is a row: with a header the second
abbrev pub first_row : Bool → ℕ
first_row true = 2
first_row false = 1

-- The rows of a file of these bytes, or its first bad record with the leftmost bad column. A byte-order mark at the start is
-- no part of the text.
unfoldable pub rows_of_file : List ℕ → List (List ℕ × Kind) → Bool → FileRows
rows_of_file bytes schema header = rows_from (first_row header) schema (drop (first_row header - 1) (records default_config (strip_bom bytes)))

-- what a fault tells of a record: its leftmost bad column, or that memory was refused
abbrev pub TellsColumn : ℕ → Result (List Value) ℕ → LoadFault → Type 0
TellsColumn number row fault.Memory = ⊤
TellsColumn number row fault.File = ⊥
TellsColumn number row fault.FileTooLong = ⊥
TellsColumn number row (fault.BadRecord n column) = (n ≡ number) × (row ≡ Err column)

-- what a fault tells of a file's records: the first bad one and its leftmost bad column, or that memory was refused
abbrev pub TellsBad : FileRows → LoadFault → Type 0
TellsBad rows fault.Memory = ⊤
TellsBad rows fault.File = ⊥
TellsBad rows fault.FileTooLong = ⊥
TellsBad rows (fault.BadRecord number column) = rows ≡ HasBad number column
