-- Read in this order: a tape and its crashes, what its images stand for, a record's bytes, a journal's calls; how a gate is read follows the code.
pub mod Tape
pub mod Images
pub mod Record
pub mod ChangeBody
pub mod RowsBody
pub mod Changes
pub mod Journal
pub mod Ahead
pub mod MemTape
pub mod MemTapeEvents
pub mod MemTapeCode
pub mod MemTapeLaws
pub mod Replay
