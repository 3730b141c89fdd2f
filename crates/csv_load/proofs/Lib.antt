-- a file piece by piece
pub mod FileReading
-- how many records a text has
pub mod RecordCount
-- a field is one value
pub mod FieldValues
-- a record as a row, and records as rows
pub mod RowByRow
pub mod RecordByRecord
