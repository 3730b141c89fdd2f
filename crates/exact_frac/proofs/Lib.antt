mod Digits
mod Quotients
pub mod LesserExists
pub mod LowestTerms
pub mod PrintedExists
pub mod PrintedIsUnique
