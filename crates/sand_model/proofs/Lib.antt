pub mod WorkedCases
pub mod PlainValues
