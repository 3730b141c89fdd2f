pub mod Frames
mod Crash
pub mod Moments
mod Appends
mod Nexts
mod Tapes
pub mod Bodies
pub mod OneList
mod PrintedLengths
mod RowFrames
mod Answered
mod Writes
mod Lines
mod NameBytes
mod RowBodies
mod RowReads
