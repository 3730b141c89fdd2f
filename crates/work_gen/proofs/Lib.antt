-- the digits of a number
pub mod Digits
-- the states, and the lines of a turn
pub mod States
-- the lines of a workload
pub mod WorkLines
-- the bytes of a read
pub mod Giving
-- numbers in decimal
pub mod Decimals
-- bytes in hexadecimal
pub mod Hexadecimals
-- the lines of a summary
pub mod FourLines
-- the lines that are counted
pub mod Tallying
